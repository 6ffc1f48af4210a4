-- `binary32::wire::bits_of_float` meets its contract: a NaN is the one whose pattern is given. Assumes nothing.
use mathlib.Core.Path.{◌≡◌, refl, sym, ap}
use mathlib.Core.Bool.{true}
use lib.Ieee.{Float, nan, inf, fin, binary32, is_nan, to_bits}
use Rattle.integers.proofs.Order.{is_true}
use Rattle.binary32.proofs.wire.bits_of_float.Goals as goal

is-nan : (x : Float) → is_nan x ≡ true → nan ≡ x
unfolding is_nan
is-nan nan h = refl
is-nan (inf s) h = absurd (is_true h)
is-nan (fin s m e) h = absurd (is_true h)

pub returns-then-is_nan : goal.returns-then-is_nan
unfolding to_bits
returns-then-is_nan c = ap (to_bits binary32) (is-nan c.args.x (sym c.if-is_nan.ensures.value))
