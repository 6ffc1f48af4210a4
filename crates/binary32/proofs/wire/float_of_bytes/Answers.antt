-- `binary32::wire::float_of_bytes` meets its contract: the test tells the patterns of NaNs. Assumes nothing.
use mathlib.Core.Path.{◌≡◌, refl, sym, ◌∙◌}
use mathlib.Core.Bool.{true}
use borrow.Author.Tests.{lt-ltb, le-ltb}
use lib.Ieee.{Float, nan, inf, fin, binary32, is_nan, of_bits, div}
use lib.Ieee.Bits.{nan_bits_is, nan_bits_above}
use Rattle.binary32.specs.Wire.{pattern}
use Rattle.integers.proofs.Order.{is_true, is_false}
use Rattle.binary32.proofs.wire.float_of_bytes.Goals as goal

is-nan : (x : Float) → is_nan x ≡ true → nan ≡ x
unfolding is_nan
is-nan nan h = refl
is-nan (inf s) h = absurd (is_true h)
is-nan (fin s m e) h = absurd (is_true h)

pub returns-then-bits-gt2139095040 : goal.returns-then-bits-gt2139095040
unfolding div of_bits
returns-then-bits-gt2139095040 c =
    let a = c.args in
    let n = pattern a.a a.b a.c a.d in
    is-nan (of_bits binary32 n) (sym (nan_bits_is binary32 n) ∙ nan_bits_above binary32 n ∙ lt-ltb _ _ c.if-bits-gt2139095040.true)

pub float_from_bits-result : goal.float_from_bits-result
float_from_bits-result c = is_false (nan_bits_above binary32 _ ∙ le-ltb _ _ c.if-bits-gt2139095040.false)
