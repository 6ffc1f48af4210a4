-- What the code's units of a float tell of it: they lie beside the float's exact value, so that every comparison with a whole number
-- of counts, the rounding and the test for a whole number are the same. One law for every scale. Assumes nothing.
use mathlib.Core.Path.{◌≡◌, refl, sym, ap, ◌∙◌, subst}
use mathlib.Core.Bool.{Bool, true, false, cond, not}
use Prim.Native.Nat.{ℕ, zero, suc, ◌+◌, ◌-◌, ◌*◌, ◌/◌, ◌%◌, ◌^◌, ◌≤◌, ◌<◌}
use native.Mathlib.Nat.{le_trans, le_of_eq, lt_of_lt_of_le, mul_assoc, mul_right_comm, mul-le-mul_right, le-add_right, mod-lt, mod-eq_of_lt, mul-mod_left, mul-pos, div-add-mod', eq_of_mul-eq-mul_right}
use native.Mathlib.Omega.{arith}
use borrow.Author.Tests.{ltb-true, leb-true, leb-false, eqb-true, eqb-false, eq-eqb, ne_eqb}
use lib.Dec.{eqb, leb, ltb, lit≤, lit<}
use lib.IntN.{ℤ, pos, negsuc, neg_ℤ, ◌*ℤ◌}
use lib.Signed.{le_z, lt_z_yes, ◌≤ℤ◌, ◌<ℤ◌}
use lib.Pow.{pow-add, pow_pos, pow_mono, shl_lt}
use Rattle.integers.specs.Within.{◌within◌}
use Rattle.integers.proofs.Parts.{pos_part, neg_part, abs-parts}
use Rattle.integers.proofs.Magnitude.{within-neg}
use Rattle.integers.proofs.Difference.{⟨◌⟩, nat, minus, ◌⊗◌, le!, le?, lt!, eq! }
use Rattle.integers.proofs.Order.{le_yes, yes_le, no_le, mul-le, mul-cancel}
use Rattle.arithmetic.specs.Round.{round_div}
use Rattle.arithmetic.proofs.Round.{round_same, round-none}
use Rattle.binary32.specs.Received.{signed}
use Rattle.binary32.specs.Units.{units}
use Rattle.binary32.proofs.Pattern.{value}
use Rattle.binary32.proofs.Signed.{signed_mul, abs-signed}

-- ---- A / D counts, and m / 2^25: equal, or both under a quarter and not 0, or both at least 2^35
pub data Beside (A D m : ℕ) : Type 0 where
  same : A * 2 ^ 25 ≡ m * D → Beside A D m
  small : 0 < A → 4 * A < D → m ≡ 1 → Beside A D m
  large : 2 ^ 35 * D ≤ A → m ≡ 2 ^ 61 → Beside A D m

lead : (t : ℕ) → t < 8388608 → 8388608 + t < 16777216
lead t h = omega arith

large-at : (shift e t : ℕ) → shift ≤ 28 → 161 < e + shift → 2 ^ 35 * 2 ^ 149 ≤ value e t * 2 ^ shift
large-at shift zero t s h = absurd (omega arith)
large-at shift (suc j) t s h =
    le_trans (pow_mono (room shift j h))
    (le_trans (le_of_eq (pow-add 2 (23 + j) shift ∙ ap (λ (k : ℕ). k * 2 ^ shift) (pow-add 2 23 j)))
    (mul-le-mul_right (2 ^ shift) (mul-le-mul_right (2 ^ j) (le-add_right (2 ^ 23) t))))
  where
    room : (shift j : ℕ) → 161 < suc j + shift → 184 ≤ 23 + j + shift
    room shift j h = omega arith

same_at : (shift e t : ℕ) → shift ≤ 28 → 125 ≤ e + shift → value e t * 2 ^ shift * 2 ^ 25 ≡ (2 ^ 23 + t) * 2 ^ (e + shift - 125) * 2 ^ 149
same_at shift zero t s h = absurd (omega arith)
same_at shift (suc j) t s h =
    let q = 2 ^ 23 + t in
    let k = suc j + shift - 125 in
    ap (λ (z : ℕ). z * 2 ^ 25) (mul_assoc q (2 ^ j) (2 ^ shift) ∙ ap (λ (z : ℕ). q * z) (sym (pow-add 2 j shift)))
    ∙ mul_assoc q (2 ^ (j + shift)) (2 ^ 25)
    ∙ ap (λ (z : ℕ). q * z) (sym (pow-add 2 (j + shift) 25) ∙ ap (λ (i : ℕ). 2 ^ i) (room shift j h) ∙ pow-add 2 k 149)
    ∙ sym (mul_assoc q (2 ^ k) (2 ^ 149))
  where
    room : (shift j : ℕ) → 125 ≤ suc j + shift → j + shift + 25 ≡ suc j + shift - 125 + 149
    room shift j h = omega arith

small_at : (shift e t : ℕ) → shift ≤ 28 → t < 2 ^ 23 → e + shift < 125 → value e t * 2 ^ shift < 2 ^ 147
small_at shift zero t s l h = lt_of_lt_of_le (shl_lt 23 shift (subst (λ (k : ℕ). k < 2 ^ 23) (sym (one t)) l)) (pow_mono (room shift s))
  where
    one : (t : ℕ) → t * 1 ≡ t
    one t = omega arith

    room : (shift : ℕ) → shift ≤ 28 → 23 + shift ≤ 147
    room shift h = omega arith
small_at shift (suc j) t s l h = lt_of_lt_of_le (shl_lt (24 + j) shift (shl_lt 24 j (lead t l))) (pow_mono (room shift j h))
  where
    room : (shift j : ℕ) → suc j + shift < 125 → 24 + j + shift ≤ 147
    room shift j h = omega arith

value_pos : (e t : ℕ) → (e ≡ 0 → t ≡ 0 → ⊥) → 0 < value e t
value_pos zero zero n = absurd (n refl refl)
value_pos zero (suc t) n = omega arith
value_pos (suc j) t n = mul-pos (room t) (pow_pos j)
  where
    room : (t : ℕ) → 0 < 8388608 + t
    room t = omega arith

pub beside : (shift b : ℕ) → shift ≤ 28 → Beside (value (b / 2 ^ 23) (b % 2 ^ 23) * 2 ^ shift) (2 ^ 149) (units shift b)
unfolding units
beside shift b s = by (ltb 161 (e + shift)) refl (leb 125 (e + shift)) refl (eqb b 0) refl
  where
    e : ℕ
    e = b / 2 ^ 23

    t : ℕ
    t = b % 2 ^ 23

    none : (b : ℕ) → b / 8388608 ≡ 0 → b % 8388608 ≡ 0 → b ≡ 0
    none b p q = omega arith

    by : (l : Bool) → ltb 161 (e + shift) ≡ l → (m : Bool) → leb 125 (e + shift) ≡ m → (z : Bool) → eqb b 0 ≡ z
        → Beside (value e t * 2 ^ shift) (2 ^ 149) (cond l (2 ^ 61) (cond m ((2 ^ 23 + t) * 2 ^ (e + shift - 125)) (cond z 0 1)))
    by true h m k z i = large (large-at shift e t s (ltb-true 161 (e + shift) h)) refl
    by false h true k z i = same (same_at shift e t s (leb-true 125 (e + shift) k))
    by false h false k true i = same (subst (λ (b : ℕ). value (b / 2 ^ 23) (b % 2 ^ 23) * 2 ^ shift * 2 ^ 25 ≡ 0 * 2 ^ 149) (sym (eqb-true b 0 i)) (zeros (2 ^ shift)))
      where
        zeros : (k : ℕ) → 0 * k * 33554432 ≡ 0
        zeros k = omega arith
    by false h false k false i =
        small (mul-pos (value_pos e t (λ p q. eqb-false b 0 i (none b p q))) (pow_pos shift))
        (quarter (value e t * 2 ^ shift) (2 ^ 147) (small_at shift e t s (mod-lt b (pow_pos 23)) (leb-false 125 (e + shift) k))) refl
      where
        quarter : (n p : ℕ) → n < p → 4 * n < 4 * p
        quarter n p h = omega arith

-- ---- what it tells

-- two tests that follow from each other
same_test : {a b c d : ℤ} → (a ≤ℤ b → c ≤ℤ d) → (c ≤ℤ d → a ≤ℤ b) → le_z a b ≡ le_z c d
same_test {a} {b} {c} {d} f g = by (le_z a b) refl (le_z c d) refl
  where
    by : (p : Bool) → le_z a b ≡ p → (q : Bool) → le_z c d ≡ q → p ≡ q
    by true h q k = sym (yes_le {a = c} {b = d} (f (le_yes {a = a} {b = b} h))) ∙ k
    by false h true k = sym h ∙ yes_le {a = a} {b = b} (g (le_yes {a = c} {b = d} k))
    by false h false k = refl

-- the sides turned
turned : (n a d : ℤ) → le_z a (n *ℤ d) ≡ le_z (neg_ℤ n *ℤ d) (neg_ℤ a)
turned n a d = same_test
    (λ h. le! (minus ⟨ n ⟩ ⊗ ⟨ d ⟩) (minus ⟨ a ⟩) (omega (arith, le? ⟨ a ⟩ (⟨ n ⟩ ⊗ ⟨ d ⟩) h)))
    (λ h. le! ⟨ a ⟩ (⟨ n ⟩ ⊗ ⟨ d ⟩) (omega (arith, le? (minus ⟨ n ⟩ ⊗ ⟨ d ⟩) (minus ⟨ a ⟩) h)))

-- two fractions that are equal: n is at most one where it is at most the other, and at least; and both are whole or neither
pub le_same : (n a d b c : ℤ) → pos 0 <ℤ d → pos 0 <ℤ c → a *ℤ c ≡ b *ℤ d → le_z (n *ℤ d) a ≡ le_z (n *ℤ c) b
le_same n a d b c p q e = same_test {a = n *ℤ d} {b = a} {c = n *ℤ c} {d = b}
    (λ h. mul-cancel {a = n *ℤ c} {b = b} p (subst (λ (z : ℤ). z ≤ℤ (b *ℤ d)) (swapped n d c) (subst (λ (z : ℤ). ((n *ℤ d) *ℤ c) ≤ℤ z) e (mul-le q h))))
    (λ h. mul-cancel {a = n *ℤ d} {b = a} q (subst (λ (z : ℤ). z ≤ℤ (a *ℤ c)) (swapped n c d) (subst (λ (z : ℤ). ((n *ℤ c) *ℤ d) ≤ℤ z) (sym e) (mul-le p h))))
  where
    swapped : (n d c : ℤ) → (n *ℤ d) *ℤ c ≡ (n *ℤ c) *ℤ d
    swapped n d c = eq! (⟨ n ⟩ ⊗ ⟨ d ⟩ ⊗ ⟨ c ⟩) (⟨ n ⟩ ⊗ ⟨ c ⟩ ⊗ ⟨ d ⟩) (omega arith)

pub ge-same : (n a d b c : ℤ) → pos 0 <ℤ d → pos 0 <ℤ c → a *ℤ c ≡ b *ℤ d → le_z a (n *ℤ d) ≡ le_z b (n *ℤ c)
ge-same n a d b c p q e = turned n a d ∙ le_same (neg_ℤ n) (neg_ℤ a) d (neg_ℤ b) c p q (neg-mul a c ∙ ap neg_ℤ e ∙ sym (neg-mul b d)) ∙ sym (turned n b c)
  where
    neg-mul : (a c : ℤ) → neg_ℤ a *ℤ c ≡ neg_ℤ (a *ℤ c)
    neg-mul a c = eq! (minus ⟨ a ⟩ ⊗ ⟨ c ⟩) (minus (⟨ a ⟩ ⊗ ⟨ c ⟩)) (omega arith)

pub whole_same : (A D B C : ℕ) → 0 < D → 0 < C → A * C ≡ B * D → eqb (A % D) 0 ≡ eqb (B % C) 0
whole_same A D B C D-pos C-pos e = by (eqb (A % D) 0) refl (eqb (B % C) 0) refl
  where
    whole : (a d : ℕ) → a % d ≡ 0 → a ≡ a / d * d
    whole a d h = omega (arith, div-add-mod' a d)

    moved : (A D B C : ℕ) → 0 < D → A * C ≡ B * D → A % D ≡ 0 → B % C ≡ 0
    moved A D B C D-pos e h =
        ap (λ (z : ℕ). z % C) (eq_of_mul-eq-mul_right D D-pos B (A / D * C) (sym e ∙ ap (λ (z : ℕ). z * C) (whole A D h) ∙ mul_right_comm (A / D) D C)) ∙ mul-mod_left (A / D) C

    by : (p : Bool) → eqb (A % D) 0 ≡ p → (q : Bool) → eqb (B % C) 0 ≡ q → p ≡ q
    by true h q k = sym (eq-eqb (B % C) 0 (moved A D B C D-pos e (eqb-true (A % D) 0 h))) ∙ k
    by false h true k = absurd (eqb-false (A % D) 0 h (moved B C A D C-pos (sym e) (eqb-true (B % C) 0 k)))
    by false h false k = refl

-- A / D under a quarter and not 0: n is at most that where it is at most 0, and of −A / D where it is at most −1
small-test : (n : ℤ) (A D : ℕ) → 0 < A → 4 * A < D → (s : Bool) → le_z (n *ℤ pos D) (signed s A) ≡ le_z n (cond s (negsuc 0) (pos 0))
small-test n A D a d false = same_test
    (λ h. le! ⟨ n ⟩ (nat 0) (omega (arith, below (pos_part n) (neg_part n) (omega (arith, le? (⟨ n ⟩ ⊗ nat D) (nat A) h)))))
    (λ h. le! (⟨ n ⟩ ⊗ nat D) (nat A) (omega (arith, mul-le-mul_right D (le? ⟨ n ⟩ (nat 0) h))))
  where
    below : (p q : ℕ) → p * D ≤ A + q * D → p ≤ q
    below p q h = by (leb p q) refl
      where
        by : (b : Bool) → leb p q ≡ b → p ≤ q
        by true e = leb-true p q e
        by false e = absurd (omega (arith, mul-le-mul_right D (leb-false p q e)))
small-test n A D a d true = same_test
    (λ h. le! ⟨ n ⟩ ⟨ negsuc 0 ⟩ (omega (arith, below (pos_part n) (neg_part n) (omega (arith, le? (⟨ n ⟩ ⊗ nat D) (minus (nat A)) h)))))
    (λ h. le! (⟨ n ⟩ ⊗ nat D) (minus (nat A)) (omega (arith, mul-le-mul_right D (le? ⟨ n ⟩ ⟨ negsuc 0 ⟩ h))))
  where
    below : (p q : ℕ) → p * D + A ≤ q * D → p < q
    below p q h = by (leb q p) refl
      where
        by : (b : Bool) → leb q p ≡ b → p < q
        by true e = absurd (omega (arith, mul-le-mul_right D (leb-true q p e)))
        by false e = leb-false q p e

-- A / D at least 2^35: n is below it, and above −A / D
large-test : (n : ℤ) → n within (2 ^ 34) → (A D : ℕ) → 0 < D → 2 ^ 35 * D ≤ A → (s : Bool) → le_z (n *ℤ pos D) (signed s A) ≡ not s
large-test n w A D d a false = yes_le (le! (⟨ n ⟩ ⊗ nat D) (nat A) (omega (arith, mul-le-mul_right D (most n w))))
  where
    most : (n : ℤ) → n within (2 ^ 34) → pos_part n ≤ 2 ^ 34
    most n w = omega (arith, abs-parts n, w.abs)
large-test n w A D d a true = no_le (lt! (minus (nat A)) (⟨ n ⟩ ⊗ nat D) (omega (arith, mul-le-mul_right D (least n w))))
  where
    least : (n : ℤ) → n within (2 ^ 34) → neg_part n ≤ 2 ^ 34
    least n w = omega (arith, abs-parts n, w.abs)

neg-signed : (s : Bool) (n : ℕ) → neg_ℤ (signed s n) ≡ signed (not s) n
neg-signed false n = refl
neg-signed true n = eq! (minus (minus (nat n))) (nat n) (omega arith)

pub above_zero : {n : ℕ} → 0 < n → pos 0 <ℤ pos n
above_zero {n} h = lt! (nat 0) (nat n) (omega arith)

pub signed_same : (s : Bool) (a b c d : ℕ) → a * c ≡ b * d → signed s a *ℤ pos c ≡ signed s b *ℤ pos d
signed_same s a b c d e = signed_mul s a c ∙ ap (signed s) e ∙ sym (signed_mul s b d)

module _ {A D m : ℕ} (D-pos : 0 < D) where
  -- n at most ±A / D, and at least
  pub above : Beside A D m → (n : ℤ) → n within (2 ^ 34) → (s : Bool) → le_z (n *ℤ pos D) (signed s A) ≡ le_z (n *ℤ pos (2 ^ 25)) (signed s m)
  above (same e) n w s = le_same n (signed s A) (pos D) (signed s m) (pos (2 ^ 25)) (above_zero D-pos) (lt_z_yes tt) (signed_same s A m (2 ^ 25) D e)
  above (small p l e) n w s = rw e (small-test n A D p l s ∙ sym (small-test n 1 (2 ^ 25) (lit< tt) (lit< tt) s))
  above (large l e) n w s = rw e (large-test n w A D D-pos l s ∙ sym (large-test n w (2 ^ 61) (2 ^ 25) (lit< tt) (lit≤ tt) s))

  pub below : Beside A D m → (n : ℤ) → n within (2 ^ 34) → (s : Bool) → le_z (signed s A) (n *ℤ pos D) ≡ le_z (signed s m) (n *ℤ pos (2 ^ 25))
  below b n w s =
      turned n (signed s A) (pos D) ∙ ap (λ (z : ℤ). le_z (neg_ℤ n *ℤ pos D) z) (neg-signed s A) ∙ above b (neg_ℤ n) (within-neg w) (not s)
      ∙ sym (turned n (signed s m) (pos (2 ^ 25)) ∙ ap (λ (z : ℤ). le_z (neg_ℤ n *ℤ pos (2 ^ 25)) z) (neg-signed s m))

  -- the nearest count, of what is not too large
  pub rounded : Beside A D m → m < 2 ^ 61 → (s : Bool) → round_div (signed s A) (pos D) ≡ round_div (signed s m) (pos (2 ^ 25))
  rounded (same e) l s = round_same (signed s A) (pos D) (signed s m) (pos (2 ^ 25)) (above_zero D-pos) (lt_z_yes tt) (signed_same s A m (2 ^ 25) D e)
  rounded (small p k e) l s = round-none (signed s A) (pos D) (above_zero D-pos) (rw (abs-signed s A) (omega arith)) ∙ sym (rw e (round-none (signed s 1) (pos (2 ^ 25)) (lt_z_yes tt) (rw (abs-signed s 1) (lit< tt))))
  rounded (large k e) l s = absurd (omega arith)

  -- whether it is a whole number of counts
  pub wholly : Beside A D m → m < 2 ^ 61 → eqb (A % D) 0 ≡ eqb (m % 2 ^ 25) 0
  wholly (same e) l = whole_same A D m (2 ^ 25) D-pos (lit< tt) e
  wholly (small p k e) l = rw e (ne_eqb (A % D) 0 (λ h. omega (arith, mod-eq_of_lt (under A D k))))
    where
      under : (A D : ℕ) → 4 * A < D → A < D
      under A D k = omega arith
  wholly (large k e) l = absurd (omega arith)
