-- A list of known length, mapped, is written out element by element. Assumes nothing.
use mathlib.Core.Path.{◌≡◌, refl, sym, ◌∙◌, ap}
use mathlib.Core.List.{List, [], ◌∷◌, map}
use Prim.Native.Nat.{ℕ, zero, suc}
use lib.ListN.{length, get_or}

module _ {A B : Type 0} (f : A → B) (none : A) where
  -- n elements from i on
  abbrev pub spell : List A → ℕ → ℕ → List B
  spell l i zero = []
  spell l i (suc n) = f (get_or l i none) ∷ spell l (suc i) n

  later : (x : A) (l : List A) (i n : ℕ) → spell (x ∷ l) (suc i) n ≡ spell l i n
  later x l i zero = refl
  later x l i (suc n) = ap (λ (r : List B). f (get_or l i none) ∷ r) (later x l (suc i) n)

  spelled-from : (l : List A) → map f l ≡ spell l 0 (length l)
  spelled-from [] = refl
  spelled-from (x ∷ l) = ap (λ (r : List B). f x ∷ r) (spelled-from l ∙ sym (later x l 0 (length l)))

  pub spelled : (l : List A) (n : ℕ) → length l ≡ n → map f l ≡ spell l 0 n
  spelled l n e = spelled-from l ∙ ap (spell l 0) e
