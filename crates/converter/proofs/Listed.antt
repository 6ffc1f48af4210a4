-- Which registers are listed: a figure's is, and stands at CGAI or above. Assumes nothing.
use mathlib.Core.Path.{◌≡◌, refl, sym, ap, ◌∙◌}
use mathlib.Core.Bool.{Bool, true, false, not, ◌&&◌, true≢false}
use Prim.Native.Nat.{ℕ, ◌+◌}
use native.Mathlib.Omega.{arith}
use borrow.Author.Tests.{leb-false, ltb-true, ltb-false}
use lib.Dec.{T, leb, ltb}
use Rattle.register.specs.Number.{CGAI, CTO}
use Rattle.register.specs.Listed.{kind_said, acting, valued, only_read, not_listed, Kind}
use Rattle.register.proofs.Run.{at_every}
use Rattle.panel.specs.Figure.{is_figure}
use Rattle.panel.proofs.Listed.{over, past-last}

abbrev pub unlisted : Kind → Bool
unlisted not_listed = true
unlisted only_read = false
unlisted valued = false
unlisted acting = false

pub listed_at : (n : ℕ) → unlisted (kind_said n) ≡ false → kind_said n ≡ not_listed → ⊥
listed_at n listed e = true≢false (sym (ap unlisted e) ∙ listed)

pub from-cgai : (n : ℕ) → is_figure n ≡ true → leb CGAI n ≡ true
unfolding is_figure
from-cgai n e = by (leb CGAI n) refl
  where
    by : (b : Bool) → leb CGAI n ≡ b → b ≡ true
    by true g = refl
    by false g = over false CGAI 0 tt n (omega arith) (leb-false CGAI n g) ∙ e

pub figure-listed : (n : ℕ) → is_figure n ≡ true → kind_said n ≡ not_listed → ⊥
unfolding is_figure
figure-listed n f e = by (ltb n (CTO + 5)) refl
  where
    by : (b : Bool) → ltb n (CTO + 5) ≡ b → ⊥
    by true g = clash (at_every (λ i. not (is_figure i && unlisted (kind_said i))) (CTO + 5) 0 tt n (omega arith) (ltb-true n _ g))
      where
        clash : T (not (is_figure n && unlisted (kind_said n))) → ⊥
        clash t = rw (f, e) at t
    by false g = true≢false (sym f ∙ sym (past-last n (ltb-false n _ g)))
