-- A count as its high and its low 16 bits: each is a float exactly, over the scale, and their sum is the count ÷ the scale, rounded
-- once. One law for every scale. Assumes nothing.
use mathlib.Core.Path.{◌≡◌, sym, ap, ap₂, ◌∙◌, subst}
use mathlib.Core.Bool.{Bool, true, false}
use Prim.Native.Nat.{ℕ, suc, ◌+◌, ◌-◌, ◌*◌, ◌/◌, ◌%◌, ◌^◌, ◌≤◌, ◌<◌}
use native.Mathlib.Nat.{lt_of_lt_of_le, lt_of_le_of_lt, one-mul, mul_assoc, mul_right_comm, mul-pos}
use native.Mathlib.Omega.{arith}
use lib.IntN.{ℤ, pos, negsuc, nat_abs}
use lib.Signed.{shr_z, mag_shr}
use lib.Dec.{T, lt→ltb, le→leb}
use lib.Pow.{pow-add, pow_pos, pow_mono, shl_lt}
use lib.Bits.{bit_and, and_mask}
use lib.Ieee.{Float, nan, inf, fin, binary32, up, down, round, add, div, of_int, in_float}
use lib.Ieee.Fits.{down_pos}
use lib.Ieee.Exact.{HasValue, round_exact}
use lib.Ieee.Scale.{round_same}
use lib.Ieee.Back.{round_whole}
use mir.Syntax.{w64}
use mir.Val.{SFits, to_z, of_z}
use mir.ValLaws.{to_z-of_z, to_z_pos}
use Rattle.integers.specs.Within.{◌within◌}
use Rattle.binary32.specs.Sent.{count_float}
use Rattle.binary32.proofs.Sum.{plus, minus}

-- ---- a part as a float: a whole number up to 2 ^ 24, and divided by 2 ^ k

whole_float : (n : ℕ) → n ≤ 2 ^ 24 → HasValue (of_int binary32 (pos n)) false n 1
unfolding of_int
whole_float n h = round_whole binary32 false n h

negative-float : (n : ℕ) → suc n ≤ 2 ^ 24 → HasValue (of_int binary32 (negsuc n)) true (suc n) 1
unfolding of_int
negative-float n h = round_whole binary32 true (suc n) h

-- the same value over another denominator
over : (x : Float) (s : Bool) (a d c : ℕ) → HasValue x s a d → HasValue x s (a * c) (d * c)
over nan s a d c h = h
over (inf t) s a d c h = h
over (fin t m e) s a d c h = (h.0, sym (mul_assoc (m * up e) d c) ∙ ap (λ (z : ℕ). z * c) h.1 ∙ mul_right_comm a (down e) c)

-- 2 ^ k as a float
abbrev pub power : ℕ → Float
power k = fin false 1 (pos k)

quotient : (k : ℕ) (x : Float) (s : Bool) (a : ℕ) → HasValue x s a 1 → div binary32 x (power k) ≡ round binary32 s a (2 ^ k)
unfolding div
quotient k nan s a h = absurd h
quotient k (inf t) s a h = absurd h
quotient k (fin t m e) s a h = by t h.0
  where
    same : (u : Bool) → round binary32 u (m * up e * 1) (1 * 2 ^ k * down e) ≡ round binary32 u a (2 ^ k)
    same u =
        round_same binary32 u (m * up e * 1) (1 * 2 ^ k * down e) a (2 ^ k) (mul-pos (mul-pos one (pow_pos k)) (down_pos e)) (pow_pos k)
        (ap (λ (z : ℕ). z * 2 ^ k) h.1 ∙ mul_right_comm a (down e) (2 ^ k) ∙ mul_assoc a (2 ^ k) (down e) ∙ ap (λ (z : ℕ). a * (z * down e)) (sym (one-mul (2 ^ k))))
      where
        one : 0 < 1
        one = omega arith

    by : (t : Bool) → t ≡ s → div binary32 (fin t m e) (power k) ≡ round binary32 s a (2 ^ k)
    by true p = same true ∙ ap (λ (u : Bool). round binary32 u a (2 ^ k)) p
    by false p = same false ∙ ap (λ (u : Bool). round binary32 u a (2 ^ k)) p

divided : (k : ℕ) (x : Float) (s : Bool) (a : ℕ) → k ≤ 28 → a < 2 ^ 24 → HasValue x s a 1 → HasValue (div binary32 x (power k)) s a (2 ^ k)
divided k x s a l h v =
    subst (λ (z : Float). HasValue z s a (2 ^ k)) (sym (quotient k x s a v))
    (round_exact binary32 s a (2 ^ k) a (149 - k) (pow_pos k) h (lt_of_lt_of_le (shl_lt 24 (149 - k) h) (pow_mono (room k)))
    (ap (λ (z : ℕ). a * z) (ap (λ (i : ℕ). 2 ^ i) (back k l) ∙ pow-add 2 (149 - k) k) ∙ sym (mul_assoc a (2 ^ (149 - k)) (2 ^ k))))
  where
    room : (k : ℕ) → 24 + (149 - k) ≤ 277
    room k = omega arith

    back : (k : ℕ) → k ≤ 28 → 149 ≡ 149 - k + k
    back k h = omega arith

-- ---- the parts of z

abbrev high_part : ℤ → ℤ
high_part z = shr_z z 65536

abbrev low_part : ℤ → ℕ
low_part z = of_z w64 z % 65536

-- the low part ÷ 2 ^ k, and the high part by a float H that has 65536 times its value ÷ 2 ^ k: their sum
pub record High (k : ℕ) (H : ℤ → Float) : Type 0 where
  pub positive : (a : ℕ) → a ≤ 262144 → HasValue (H (pos a)) false (a * 65536) (2 ^ k)
  pub negative : (a : ℕ) → suc a ≤ 262144 → HasValue (H (negsuc a)) true (suc a * 65536) (2 ^ k)

low_float : (k b : ℕ) → k ≤ 28 → b < 65536 → HasValue (div binary32 (of_int binary32 (pos b)) (power k)) false b (2 ^ k)
low_float k b l h = divided k (of_int binary32 (pos b)) false b l (omega arith) (whole_float b (omega arith))

joined : (k : ℕ) (H : ℤ → Float) → High k H → k ≤ 28 → (z : ℤ) → nat_abs z ≤ 17179869184
    → add binary32 (H (high_part z)) (div binary32 (of_int binary32 (pos (low_part z))) (power k)) ≡ count_float k z
unfolding count_float
joined k H high l (pos n) h =
    plus binary32 (n / 65536 * 65536) (n % 65536) (2 ^ k) (pow_pos k) (H (pos (n / 65536))) _ (high.positive (n / 65536) (omega arith)) (low_float k (n % 65536) l (omega arith))
    ∙ ap (λ (m : ℕ). round binary32 false m (2 ^ k)) (back n)
  where
    back : (n : ℕ) → n / 65536 * 65536 + n % 65536 ≡ n
    back n = omega arith
joined k H high l (negsuc n) h =
    let b = (18446744073709551616 - suc n) % 65536 in
    minus binary32 (suc (n / 65536) * 65536) b (2 ^ k) (pow_pos k) (H (negsuc (n / 65536))) _ (high.negative (n / 65536) (omega arith)) (low_float k b l (omega arith)) (omega arith)
    ∙ ap (λ (m : ℕ). round binary32 true m (2 ^ k)) (back n h)
  where
    back : (n : ℕ) → suc n ≤ 17179869184 → suc (n / 65536) * 65536 - (18446744073709551616 - suc n) % 65536 ≡ suc n
    back n h = omega arith

-- steps: the high part as it is
pub steps_high : High 16 (of_int binary32)
steps_high = record {
  positive = λ a h. over (of_int binary32 (pos a)) false a 1 65536 (whole_float a (omega arith));
  negative = λ a h. over (of_int binary32 (negsuc a)) true (suc a) 1 65536 (negative-float a (omega arith));
}

-- parts: divided by 4,096
pub parts-high : High 28 (λ z. div binary32 (of_int binary32 z) (power 12))
parts-high = record {
  positive = λ a h. over (div binary32 (of_int binary32 (pos a)) (power 12)) false a (2 ^ 12) 65536 (divided 12 (of_int binary32 (pos a)) false a (omega arith) (omega arith) (whole_float a (omega arith)));
  negative = λ a h. over (div binary32 (of_int binary32 (negsuc a)) (power 12)) true (suc a) (2 ^ 12) 65536 (divided 12 (of_int binary32 (negsuc a)) true (suc a) (omega arith) (omega arith) (negative-float a (omega arith)));
}

-- ---- as the machine has them

module _ (z : ℤ) (F : SFits w64 z) (h : z within 17179869184) where
  high-back : to_z w64 (of_z w64 (shr_z (to_z w64 (of_z w64 z)) 65536)) ≡ high_part z
  high-back = ap (λ (y : ℤ). to_z w64 (of_z w64 (shr_z y 65536))) (to_z-of_z w64 z F) ∙ to_z-of_z w64 (shr_z z 65536) (record { sfits = lt_of_le_of_lt (mag_shr z 65536) F.sfits })

  low-back : to_z w64 (bit_and (of_z w64 z) 65535) ≡ pos (low_part z)
  low-back = ap (λ (k : ℕ). to_z w64 k) (and_mask (of_z w64 z) 16) ∙ to_z_pos w64 (of_z w64 z % 65536) (omega arith)

  pub high-in : T (in_float binary32 (to_z w64 (of_z w64 (shr_z (to_z w64 (of_z w64 z)) 65536))))
  unfolding in_float
  high-in = subst (λ (y : ℤ). T (in_float binary32 y)) (sym high-back) (by z h.abs)
    where
      by : (z : ℤ) → nat_abs z ≤ 17179869184 → T (in_float binary32 (high_part z))
      by (pos n) h = le→leb (n / 65536) (2 ^ 24) (omega arith)
      by (negsuc n) h = lt→ltb (n / 65536) (2 ^ 24) (omega arith)

  pub low-in : T (in_float binary32 (to_z w64 (bit_and (of_z w64 z) 65535)))
  unfolding in_float
  low-in = subst (λ (y : ℤ). T (in_float binary32 y)) (sym low-back) (le→leb (of_z w64 z % 65536) (2 ^ 24) (omega arith))

  pub summed : (k : ℕ) (H : ℤ → Float) → High k H → k ≤ 28
      → add binary32 (H (to_z w64 (of_z w64 (shr_z (to_z w64 (of_z w64 z)) 65536)))) (div binary32 (of_int binary32 (to_z w64 (bit_and (of_z w64 z) 65535))) (power k)) ≡ count_float k z
  summed k H high l =
      ap₂ (λ (y x : ℤ). add binary32 (H y) (div binary32 (of_int binary32 x) (power k))) high-back low-back ∙ joined k H high l z h.abs
