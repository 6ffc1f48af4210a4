-- A number between two others, or not. Assumes nothing.
use mathlib.Core.Path.{◌≡◌, refl, ap₂}
use mathlib.Core.Bool.{Bool, true, false, ◌&&◌}
use Prim.Native.Nat.{ℕ, ◌≤◌, ◌<◌}
use borrow.Author.Tests.{le-leb, lt-leb}
use lib.Dec.{leb}
use Rattle.panel.specs.Figure.{among}

pub inside : (a b n : ℕ) → a ≤ n → n ≤ b → among a b n ≡ true
inside a b n h k = ap₂ ◌&&◌ (le-leb a n h) (le-leb n b k)

pub below : (a b n : ℕ) → n < a → among a b n ≡ false
below a b n h = rw (lt-leb a n h)

pub above : (a b n : ℕ) → b < n → among a b n ≡ false
above a b n h = rw (lt-leb n b h) (none (leb a n))
  where
    none : (t : Bool) → (t && false) ≡ false
    none true = refl
    none false = refl
