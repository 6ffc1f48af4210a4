-- The guide's worked examples (Lib.antt), one or two for each tool. Assumes nothing.
use mathlib.Core.Path.{◌≡◌, refl}
use mathlib.Core.List.{[], ◌∷◌}
use Prim.Native.Nat.{ℕ, ◌+◌, ◌*◌, ◌≤◌}
use native.Mathlib.Omega.{arith}
use native.Mathlib.Nat.{mul-le-mul_right}
use lib.IntN.{ℤ, pos, nat_abs, ◌+ℤ◌, ◌-ℤ◌, ◌*ℤ◌}
use lib.Signed.{◌≤ℤ◌, ◌<ℤ◌}
use mir.Syntax.{w64}
use mir.Val.{SFits, to_z, of_z}
use Rattle.integers.specs.Within.{◌within◌}
use Rattle.integers.proofs.Parts.{le_parts, ints}
use Rattle.integers.proofs.Difference.{⟨◌⟩, nat, ◌⊕◌, ◌⊝◌, ◌⊗◌, le!, le?}
use Rattle.integers.proofs.Order.{product}
use Rattle.integers.proofs.Magnitude.{abs-mul, abs-sum2}
use Rattle.integers.proofs.Ring.{ring, polynomials}
use Rattle.integers.proofs.Machine.{fits, plain, i64s}

-- 1. a compound hypothesis is opened; two facts are multiplied
shifted : (a b c : ℤ) → (a +ℤ pos 3) ≤ℤ (b -ℤ c) → pos 1 <ℤ c → (a +ℤ pos 5) ≤ℤ b
shifted a b c h k = le! (⟨ a ⟩ ⊕ nat 5) ⟨ b ⟩ (omega (ints, le? (⟨ a ⟩ ⊕ nat 3) (⟨ b ⟩ ⊝ ⟨ c ⟩) h))

multiplied : (a b x y : ℤ) → a ≤ℤ x → b ≤ℤ y → pos 0 ≤ℤ a → pos 0 ≤ℤ y → (a *ℤ b) ≤ℤ (x *ℤ y)
multiplied a b x y h k l m = le! (⟨ a ⟩ ⊗ ⟨ b ⟩) (⟨ x ⟩ ⊗ ⟨ y ⟩) (omega (arith, product (le_parts h) (le_parts m), product (le_parts l) (le_parts k)))

-- 2. the error of a product: x·y − a·b = x·(y − b) + b·(x − a)
product-error : (x y a b : ℤ) (m n : ℕ) → x within m → b within n → nat_abs (x *ℤ y -ℤ a *ℤ b) ≤ m * nat_abs (y -ℤ b) + n * nat_abs (x -ℤ a)
product-error x y a b m n h k =
    let s = simp abs-mul at (abs-sum2 (x *ℤ (y -ℤ b)) (b *ℤ (x -ℤ a)) (split x y a b)) in
    omega (arith, s, mul-le-mul_right (nat_abs (y -ℤ b)) h.abs, mul-le-mul_right (nat_abs (x -ℤ a)) k.abs)
  where
    split : (x y a b : ℤ) → x *ℤ y -ℤ a *ℤ b ≡ x *ℤ (y -ℤ b) +ℤ b *ℤ (x -ℤ a)
    split x y a b = ring (x ∷ y ∷ a ∷ b ∷ []) (search polynomials depth 20 fits 9000) refl

-- 3. (x − y) · 4 in i64 code, for |x|, |y| ≤ 1000: it fits, and is what it says
module _ (x y : ℤ) (h : x within 1000) (k : y within 1000) where
  no_overflow : SFits w64 (to_z w64 (of_z w64 (to_z w64 (of_z w64 x) -ℤ to_z w64 (of_z w64 y))) *ℤ pos 4)
  no_overflow = fits (search i64s depth 9) tt

  value : to_z w64 (of_z w64 (to_z w64 (of_z w64 (to_z w64 (of_z w64 x) -ℤ to_z w64 (of_z w64 y))) *ℤ pos 4)) ≡ (x -ℤ y) *ℤ pos 4
  value = plain (search i64s depth 12) tt
