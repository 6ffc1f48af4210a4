-- The sum of two floats whose values are fractions over one denominator: it is rounded once, from the sum or the difference of
-- the fractions. Assumes nothing.
use mathlib.Core.Path.{◌≡◌, sym, ap, ◌∙◌}
use mathlib.Core.Bool.{Bool, true, false, cond, ◌&&◌, true≢false, false≢true}
use Prim.Native.Nat.{ℕ, ◌+◌, ◌-◌, ◌*◌, ◌<◌}
use native.Mathlib.Nat.{le_of_eq, lt_of_lt_of_le, lt_of_le_of_lt, mul_comm, mul_assoc, mul_right_comm, add-mul, mul-sub, mul-pos, mul-lt-mul_of_pos_right, lt_of_mul-lt-mul_right, le_of_lt}
use lib.Dec.{ltb, lt→ltb}
use lib.Arith.{le→nltb}
use lib.Ieee.{Float, nan, inf, fin, Format, up, down, round, add, sum}
use lib.Ieee.Fits.{down_pos}
use lib.Ieee.Bits.{is_true, is_false}
use lib.Ieee.Exact.{HasValue}
use lib.Ieee.Scale.{round_same}

-- ---- A / C = a / c and B / C = b / c: their sums, differences and orders

sub-mul : (a b c : ℕ) → (a - b) * c ≡ a * c - b * c
sub-mul a b c = mul_comm (a - b) c ∙ mul-sub c a b ∙ ap (λ (z : ℕ). z - c * b) (mul_comm c a) ∙ ap (λ (z : ℕ). a * c - z) (mul_comm c b)

module _ (A B C a b c : ℕ) (p : A * c ≡ a * C) (q : B * c ≡ b * C) where
  same-plus : (A + B) * c ≡ (a + b) * C
  same-plus = add-mul A B c ∙ ap (λ (z : ℕ). z + B * c) p ∙ ap (λ (z : ℕ). a * C + z) q ∙ sym (add-mul a b C)

  same-minus : (A - B) * c ≡ (a - b) * C
  same-minus = sub-mul A B c ∙ ap (λ (z : ℕ). z - B * c) p ∙ ap (λ (z : ℕ). a * C - z) q ∙ sym (sub-mul a b C)

  same-lt : 0 < C → b < a → B < A
  same-lt P h = lt_of_mul-lt-mul_right c (lt_of_le_of_lt (le_of_eq q) (lt_of_lt_of_le (mul-lt-mul_of_pos_right h P) (le_of_eq (sym p))))

-- n / e = v / c, over the denominator e g
cross : (n g e v c : ℕ) → n * c ≡ v * e → n * g * c ≡ v * (e * g)
cross n g e v c h = mul_right_comm n g c ∙ ap (λ (z : ℕ). z * g) h ∙ mul_assoc v e g

cross-right : (n g e v c : ℕ) → n * c ≡ v * g → n * e * c ≡ v * (e * g)
cross-right n g e v c h = mul_right_comm n e c ∙ ap (λ (z : ℕ). z * e) h ∙ mul_right_comm v g e ∙ mul_assoc v e g

-- ---- the sum of x = ±a / c and y = b / c

module _ (f : Format) (a b c : ℕ) (C : 0 < c) where
  pub plus : (x y : Float) → HasValue x false a c → HasValue y false b c → add f x y ≡ round f false (a + b) c
  unfolding add sum
  plus nan y h k = absurd h
  plus (inf s) y h k = absurd h
  plus (fin s m e) nan h k = absurd k
  plus (fin s m e) (inf t) h k = absurd k
  plus (fin true m e) (fin t n d) h k = absurd (true≢false h.0)
  plus (fin false m e) (fin true n d) h k = absurd (true≢false k.0)
  plus (fin false m e) (fin false n d) h k =
      round_same f false (m * up e * down d + n * up d * down e) (down e * down d) (a + b) c (mul-pos (down_pos e) (down_pos d)) C
      (same-plus (m * up e * down d) (n * up d * down e) (down e * down d) a b c (cross (m * up e) (down d) (down e) a c h.1) (cross-right (n * up d) (down d) (down e) b c k.1))

  less : (A B D : ℕ) → B < A → sum f true A false B D ≡ round f true (A - B) D
  unfolding sum
  less A B D h =
      ap (λ (t : Bool). cond t (round f false (B - A) D) (round f (true && ltb B A) (A - B) D)) (is_false (ltb A B) (le→nltb A B (le_of_lt h)))
      ∙ ap (λ (t : Bool). round f t (A - B) D) (is_true (ltb B A) (lt→ltb B A h))

  pub minus : (x y : Float) → HasValue x true a c → HasValue y false b c → b < a → add f x y ≡ round f true (a - b) c
  unfolding add
  minus nan y h k l = absurd h
  minus (inf s) y h k l = absurd h
  minus (fin s m e) nan h k l = absurd k
  minus (fin s m e) (inf t) h k l = absurd k
  minus (fin false m e) (fin t n d) h k l = absurd (false≢true h.0)
  minus (fin true m e) (fin true n d) h k l = absurd (true≢false k.0)
  minus (fin true m e) (fin false n d) h k l =
      let A = m * up e * down d in
      let B = n * up d * down e in
      let D = down e * down d in
      let P : 0 < D = mul-pos (down_pos e) (down_pos d) in
      let p : A * c ≡ a * D = cross (m * up e) (down d) (down e) a c h.1 in
      let q : B * c ≡ b * D = cross-right (n * up d) (down d) (down e) b c k.1 in
      less A B D (same-lt A B D a b c p q P l) ∙ round_same f true (A - B) D (a - b) c P C (same-minus A B D a b c p q)
