-- What one computed test tells of every number of a run. Assumes nothing.
use mathlib.Core.Path.{subst}
use mathlib.Core.Logic.{⊎_elim}
use mathlib.Core.Bool.{Bool, true, ◌&&◌}
use Prim.Native.Nat.{ℕ, zero, suc, ◌+◌, ◌≤◌, ◌<◌}
use native.Mathlib.Nat.{eq-or-lt_of_le}
use native.Mathlib.Omega.{arith}
use lib.Dec.{T}
use lib.Ieee.Fits.{and_l, and_r}

-- the n numbers from i on
abbrev pub every : (ℕ → Bool) → ℕ → ℕ → Bool
every test zero i = true
every test (suc n) i = test i && every test n (suc i)

pub at_every : (test : ℕ → Bool) (n i : ℕ) → T (every test n i) → (r : ℕ) → i ≤ r → r < i + n → T (test r)
at_every test zero i t r l h = absurd (omega arith)
at_every test (suc n) i t r l h =
    ⊎_elim
    (λ e. subst (λ (j : ℕ). T (test j)) e (and_l (test i) (every test n (suc i)) t))
    (λ g. at_every test n (suc i) (and_r (test i) (every test n (suc i)) t) r g (omega arith))
    (eq-or-lt_of_le l)
