-- Which registers are figures', over a whole range of numbers, by one computed test. Assumes nothing.
use mathlib.Core.Path.{◌≡◌}
use mathlib.Core.Bool.{Bool, false, not, cond}
use Prim.Native.Nat.{ℕ, ◌+◌, ◌≤◌, ◌<◌}
use native.Mathlib.Omega.{arith}
use borrow.Author.Tests.{le-ltb, ne_eqb}
use lib.Dec.{T}
use Rattle.register.specs.Number.{CLN, SGAI, FFLV, CTN, CT, CTG, CTO}
use Rattle.register.proofs.Registers.{told}
use Rattle.register.proofs.Run.{every, at_every}
use Rattle.panel.specs.Figure.{is_figure}
use Rattle.panel.proofs.Among.{above}

-- the n registers from i on all are, or none is
abbrev pub all : Bool → ℕ → ℕ → Bool
all b n i = every (λ j. cond b (is_figure j) (not (is_figure j))) n i

pub over : (b : Bool) (n i : ℕ) → T (all b n i) → (r : ℕ) → i ≤ r → r < i + n → b ≡ is_figure r
over b n i t r l h = told b (is_figure r) (at_every (λ j. cond b (is_figure j) (not (is_figure j))) n i t r l h)

pub past-last : (r : ℕ) → CTO + 5 ≤ r → false ≡ is_figure r
unfolding is_figure
past-last r h = simp (le-ltb r CLN (omega arith), le-ltb r SGAI (omega arith), le-ltb r FFLV (omega arith), le-ltb r CTN (omega arith), ne_eqb r CTN (λ e. omega (arith, e)), above CT (CT + 4) r (omega arith), above CTG (CTG + 4) r (omega arith), above CTO (CTO + 4) r (omega arith))
