-- Step 1 of every reading kept, one entry more: `EachFiltered` of a longer list. Assumes nothing.
use mathlib.Core.Path.{◌≡◌, ◌∙◌, ap}
use mathlib.Core.List.{List, [], ◌∷◌, ◌++◌, head-eq_of_cons-eq, tail-eq_of_cons-eq}
use native.Mathlib.Omega.{arith}
use Prim.Native.Nat.{ℕ}
use Rattle.converter.specs.Log.{Kept, Entry, joined, peak_was_reset, latest}
use Rattle.converter.specs.Jumps.{FilteredAfter, EachFiltered}

pub none-filtered : EachFiltered []
none-filtered j k n = absurd (no n.later n.split)
  where
    no : (later : List Entry) → [] ≡ later ++ (joined k ∷ n.earlier) → ⊥
    no [] e = let z : ◌≡◌ {A = ℕ} 0 1 = cc in omega arith
    no (x ∷ xs) e = let z : ◌≡◌ {A = ℕ} 0 1 = cc in omega arith

pub more-filtered : (es : List Entry) (i : Kept) → EachFiltered es → FilteredAfter (latest es) i → EachFiltered (joined i ∷ es)
more-filtered es i h f j k n = by n.later n.split
  where
    by : (later : List Entry) → joined i ∷ es ≡ later ++ (joined k ∷ n.earlier) → FilteredAfter j k
    by [] e = rw (same (head-eq_of_cons-eq e), ap latest (tail-eq_of_cons-eq e) ∙ n.before) at f
      where
        same : {x y : Kept} → joined x ≡ joined y → x ≡ y
        same p = cc
    by (x ∷ xs) e = h j k (record { later = xs; earlier = n.earlier; split = tail-eq_of_cons-eq e; before = n.before })

pub reset-filtered : (es : List Entry) → EachFiltered es → EachFiltered (peak_was_reset ∷ es)
reset-filtered es h j k n = by n.later n.split
  where
    by : (later : List Entry) → peak_was_reset ∷ es ≡ later ++ (joined k ∷ n.earlier) → FilteredAfter j k
    by [] e = absurd (other (head-eq_of_cons-eq e))
      where
        other : peak_was_reset ≡ joined k → ⊥
        other p = let z : ◌≡◌ {A = ℕ} 0 1 = cc in omega arith
    by (x ∷ xs) e = h j k (record { later = xs; earlier = n.earlier; split = tail-eq_of_cons-eq e; before = n.before })
