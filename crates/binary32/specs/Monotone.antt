-- Rounding to the nearest float keeps the order (Change 14, "a heavier bridge signal must never read lighter": what a batching program
-- reads is a float). `le` is IEEE 754's own comparison, a program's `<=`: 0 and −0 are equal, and it is false where one side is a NaN.
use Rattle.std.specs.Prelude.{ℕ, T, ℤ, ◌≤ℤ◌}
use Rattle.std.specs.Float.Ieee.{le}
use Rattle.binary32.specs.Sent.{count_float}

-- of two counts, in steps or in any other scale, the smaller never goes out as the larger float
abbrev pub SentInOrder : Type 0
SentInOrder = (shift : ℕ) (a b : ℤ) → a ≤ℤ b → T (le (count_float shift a) (count_float shift b))
