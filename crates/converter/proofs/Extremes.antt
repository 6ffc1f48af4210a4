-- PEAK and TROF as the largest and smallest of a list, one value more. Assumes nothing.
use mathlib.Core.Path.{◌≡◌, refl, sym, subst}
use mathlib.Core.List.Memᴰ
use mathlib.Core.List.{List, [], ◌∷◌, Memᴰ}
use mathlib.Core.Logic.{◌⊎◌, inl, inr}
use lib.IntN.{ℤ}
use lib.Signed.{lt_z, ◌≤ℤ◌, ≤ℤ_refl}
use Rattle.integers.proofs.Order.{pick, lt_yes, lt_no, <-≤, ≤_trans}
use Rattle.state.specs.Reading.{larger, smaller}
use Rattle.converter.specs.History.{Largest, Smallest}

-- what holds of the first and of each other holds of all
each : {x : ℤ} {xs : List ℤ} (P : ℤ → Type 0) → P x → ((y : ℤ) → Memᴰ y xs → P y) → (y : ℤ) → Memᴰ y (x ∷ xs) → P y
each {x} {xs} P first others y m = go (Memᴰ.cases_cons m)
  where
    go : (y ≡ x) ⊎ Memᴰ y xs → P y
    go (inl e) = subst P (sym e) first
    go (inr i) = others y i

pub largest-one : (x : ℤ) → Largest x (x ∷ [])
largest-one x = record { among = Memᴰ.head refl; bound = each (λ y. y ≤ℤ x) (≤ℤ_refl x) (λ y m. absurd (Memᴰ.not-nil m)) }

pub smallest-one : (x : ℤ) → Smallest x (x ∷ [])
smallest-one x = record { among = Memᴰ.head refl; bound = each (λ y. x ≤ℤ y) (≤ℤ_refl x) (λ y m. absurd (Memᴰ.not-nil m)) }

pub largest-more : (p x : ℤ) (xs : List ℤ) → Largest p xs → Largest (larger p x) (x ∷ xs)
unfolding larger
largest-more p x xs h =
    pick (lt_z p x) x p (λ q. Largest q (x ∷ xs))
    (λ e. record { among = Memᴰ.head refl; bound = each (λ y. y ≤ℤ x) (≤ℤ_refl x) (λ y m. ≤_trans (h.bound y m) (<-≤ (lt_yes e))) })
    (λ e. record { among = Memᴰ.tail h.among; bound = each (λ y. y ≤ℤ p) (lt_no e) h.bound })

pub smallest-more : (p x : ℤ) (xs : List ℤ) → Smallest p xs → Smallest (smaller p x) (x ∷ xs)
unfolding smaller
smallest-more p x xs h =
    pick (lt_z x p) x p (λ q. Smallest q (x ∷ xs))
    (λ e. record { among = Memᴰ.head refl; bound = each (λ y. x ≤ℤ y) (≤ℤ_refl x) (λ y m. ≤_trans (<-≤ (lt_yes e)) (h.bound y m)) })
    (λ e. record { among = Memᴰ.tail h.among; bound = each (λ y. p ≤ℤ y) (lt_no e) h.bound })
