-- A whole number as a difference of naturals, p − n, found from the way it is written. `le!`, `lt!`, `eq!` turn a goal about
-- integers into one about naturals for `omega`; `le?` and `lt?` turn a hypothesis. Assumes nothing.
use mathlib.Core.Path.{◌≡◌, refl, ap}
use Prim.Native.Nat.{ℕ, ◌+◌, ◌*◌, ◌<◌, ◌≤◌}
use native.Mathlib.Omega.{arith}
use lib.IntN.{ℤ, pos, negsuc, neg_ℤ, nat_abs, ◌+ℤ◌, ◌-ℤ◌, ◌*ℤ◌}
use lib.Signed.{◌≤ℤ◌, ◌<ℤ◌}
use Rattle.integers.proofs.Parts.{pos_part, neg_part, add_parts, mul-parts, neg-pos-part, neg-neg-part, le_parts, lt-parts, parts-le, parts-lt, parts-eq, abs-parts}

-- z = p − n
pub record Difference (z : ℤ) : Type 0 where
  pub p : ℕ
  pub n : ℕ
  pub is : pos_part z + n ≡ p + neg_part z

-- ---- one for each way to write an integer: a term that is not looked into, a literal, + − · and negation

abbrev pub ⟨◌⟩ : (z : ℤ) → Difference z
⟨ z ⟩ = record { p = pos_part z; n = neg_part z; is = refl }

abbrev pub nat : (m : ℕ) → Difference (pos m)
nat m = record { p = m; n = 0; is = refl }

abbrev pub minus : {a : ℤ} → Difference a → Difference (neg_ℤ a)
minus {a} A = record { p = A.n; n = A.p; is = omega (arith, neg-pos-part a, neg-neg-part a, A.is) }

infixl 60 ◌⊕◌ ◌⊝◌
infixl 70 ◌⊗◌
abbrev pub ◌⊕◌ : {a b : ℤ} → Difference a → Difference b → Difference (a +ℤ b)
◌⊕◌ {a} {b} A B = record { p = A.p + B.p; n = A.n + B.n; is = omega (arith, add_parts a b, A.is, B.is) }

abbrev pub ◌⊝◌ : {a b : ℤ} → Difference a → Difference b → Difference (a -ℤ b)
A ⊝ B = A ⊕ minus B

pub mul_is : (pa na pb nb p n q m : ℕ) → pa + n ≡ p + na → pb + m ≡ q + nb → (pa * pb + na * nb) + (p * m + n * q) ≡ (p * q + n * m) + (pa * nb + na * pb)
mul_is pa na pb nb p n q m e f = omega (arith, ap (λ (x : ℕ). x * pb) e, ap (λ (x : ℕ). x * nb) e, ap (λ (x : ℕ). p * x) f, ap (λ (x : ℕ). n * x) f)

abbrev pub ◌⊗◌ : {a b : ℤ} → Difference a → Difference b → Difference (a *ℤ b)
◌⊗◌ {a} {b} A B = record {
  p = A.p * B.p + A.n * B.n;
  n = A.p * B.n + A.n * B.p;
  is = omega (arith, mul-parts a b, mul_is (pos_part a) (neg_part a) (pos_part b) (neg_part b) A.p A.n B.p B.n A.is B.is);
}

-- ---- from integers to naturals and back

module _ {a b : ℤ} (A : Difference a) (B : Difference b) where
  pub le! : A.p + B.n ≤ B.p + A.n → a ≤ℤ b
  le! h = parts-le a b (omega (arith, A.is, B.is))

  pub lt! : A.p + B.n < B.p + A.n → a <ℤ b
  lt! h = parts-lt a b (omega (arith, A.is, B.is))

  pub eq! : A.p + B.n ≡ B.p + A.n → a ≡ b
  eq! h = parts-eq a b (omega (arith, A.is, B.is))

  pub le? : a ≤ℤ b → A.p + B.n ≤ B.p + A.n
  le? h = omega (arith, le_parts h, A.is, B.is)

  pub lt? : a <ℤ b → A.p + B.n < B.p + A.n
  lt? h = omega (arith, lt-parts h, A.is, B.is)

-- ---- magnitudes

-- u·|z| ≤ k, from two bounds of naturals
pub abs! : {z : ℤ} (A : Difference z) (u k : ℕ) → u * A.p ≤ k + u * A.n → u * A.n ≤ k + u * A.p → u * nat_abs z ≤ k
abs! {z} A u k h l = by z (omega (arith, ap (λ (x : ℕ). u * x) A.is)) (omega (arith, ap (λ (x : ℕ). u * x) A.is))
  where
    by : (y : ℤ) → u * pos_part y ≤ k + u * neg_part y → u * neg_part y ≤ k + u * pos_part y → u * nat_abs y ≤ k
    by (pos m) h l = omega arith
    by (negsuc m) h l = omega arith

-- z ≤ |z| and −z ≤ |z|
pub abs-above : {z : ℤ} (A : Difference z) → A.p ≤ nat_abs z + A.n
abs-above {z} A = omega (arith, A.is, abs-parts z)

pub abs-below : {z : ℤ} (A : Difference z) → A.n ≤ nat_abs z + A.p
abs-below {z} A = omega (arith, A.is, abs-parts z)
