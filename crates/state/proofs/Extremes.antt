-- The larger of two is std's `max`. Assumes nothing.
use mathlib.Core.Path.{◌≡◌, refl}
use mathlib.Core.Bool.{Bool, true, false, cond}
use lib.IntN.{ℤ}
use lib.Signed.{lt_z, clash_ℤ}
use Rattle.std.specs.Int.{int_max}
use Rattle.integers.proofs.Order.{lt_yes, lt_no, <-≤, ≤-antisym}
use Rattle.state.specs.Reading.{larger}

pub max_larger : (a b : ℤ) → int_max a b ≡ larger a b
unfolding larger
max_larger a b = by (lt_z a b) (lt_z b a) refl refl
  where
    by : (s t : Bool) → lt_z a b ≡ s → lt_z b a ≡ t → cond t a b ≡ cond s b a
    by true true p q = clash_ℤ {a = a} {b = b} (lt_yes p) (<-≤ (lt_yes q))
    by true false p q = refl
    by false true p q = refl
    by false false p q = ≤-antisym {a = b} {b = a} (lt_no p) (lt_no q)
