-- "held within" two limits (01, "The reading", steps 3 and 5): a whole number, and a fraction.
use Rattle.std.specs.Prelude.{cond, ℤ, ◌*ℤ◌}
use Rattle.std.specs.Int.Signed.{lt_z}
use Rattle.arithmetic.specs.Fraction.{Fraction, whole}

unfoldable pub hold : ℤ → ℤ → ℤ → ℤ
hold lo hi x = cond (lt_z x lo) lo (cond (lt_z hi x) hi x)

unfoldable pub hold_f : ℤ → ℤ → Fraction → Fraction
hold_f lo hi q = cond (lt_z q.top (lo *ℤ q.low)) (whole lo) (cond (lt_z (hi *ℤ q.low) q.top) (whole hi) q)
