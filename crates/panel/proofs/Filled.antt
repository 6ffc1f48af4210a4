-- A table that is filled with none from its count on has its used points, and none. Assumes nothing.
use mathlib.Core.Path.{◌≡◌, refl, ap}
use mathlib.Core.List.{List, [], ◌∷◌}
use Prim.Native.Nat.{ℕ, zero, suc, ◌<◌, ◌≤◌}
use native.Mathlib.Omega.{arith}
use lib.ListN.{length, set}
use Rattle.figures.specs.Unused.{used}

module _ {A : Type 0} (none : A) where
  -- the first i points, as they are before the count n, and none past it; the others as they are
  abbrev pub filled : (n i : ℕ) → List A → List A
  filled n zero l = l
  filled n (suc i) [] = []
  filled zero (suc i) (p ∷ l) = none ∷ filled zero i l
  filled (suc n) (suc i) (p ∷ l) = p ∷ filled n i l

  pub filled-all : (n : ℕ) (l : List A) → filled n (length l) l ≡ used none n l
  filled-all n [] = refl
  filled-all zero (p ∷ l) = ap (λ (t : List A). none ∷ t) (filled-all zero l)
  filled-all (suc n) (p ∷ l) = ap (λ (t : List A). p ∷ t) (filled-all n l)

  pub fills : (n i : ℕ) (l : List A) → n ≤ i → i < length l → set (filled n i l) i none ≡ filled n (suc i) l
  fills n i [] h k = absurd (omega arith)
  fills zero zero (p ∷ l) h k = refl
  fills (suc n) zero (p ∷ l) h k = absurd (omega arith)
  fills zero (suc i) (p ∷ l) h k = ap (λ (t : List A). none ∷ t) (fills zero i l (omega arith) (omega arith))
  fills (suc n) (suc i) (p ∷ l) h k = ap (λ (t : List A). p ∷ t) (fills n i l (omega arith) (omega arith))

  pub keeps : (n i : ℕ) (l : List A) → i < n → filled n i l ≡ filled n (suc i) l
  keeps zero i l h = absurd (omega arith)
  keeps (suc n) zero [] h = refl
  keeps (suc n) zero (p ∷ l) h = refl
  keeps (suc n) (suc i) [] h = refl
  keeps (suc n) (suc i) (p ∷ l) h = ap (λ (t : List A). p ∷ t) (keeps n i l (omega arith))
