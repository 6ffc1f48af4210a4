-- What a register takes, and what it makes of it, once more in the words of Change 1 and as properties: "A value that is not finite, or
-- before rounding beyond its range in 01's sheet table, or a count or FFST that is not whole, is 16"; "Values are rounded as SZ is",
-- which is 01's round. `takes` and `counted` of `Received.antt` have them (proofs/Fit.antt).
use Rattle.std.specs.Prelude.{◌≡◌, ◌↔◌, true, ◌^◌, ℤ, pos, ◌*ℤ◌, ◌≤ℤ◌, Float}
use Rattle.std.specs.Float.Ieee.Scale.{finite}
use Rattle.arithmetic.specs.Round.{Nearest}
use Rattle.arithmetic.specs.Fraction.{Fraction, ◌over◌}
use Rattle.binary32.specs.Received.{exact, takes, counted}
use Rattle.binary32.specs.declared.received.Range.{Range}

-- the exact value in counts of 1/2^shift, before rounding
abbrev pub in_counts : Range → Float → Fraction
in_counts r x = ((exact x).top *ℤ pos (2 ^ r.shift)) over (exact x).low

-- a fraction that is a whole number
pub record Whole (q : Fraction) : Type 0 where
  pub number : ℤ
  pub is : q.top ≡ number *ℤ q.low

pub record Fit (r : Range) (x : Float) : Type 0 where
  pub is_finite : finite x ≡ true
  -- from `least` counts to `most`, the ends included: compared by multiplying out
  pub at_least : (r.least *ℤ (in_counts r x).low) ≤ℤ (in_counts r x).top
  pub at_most : (in_counts r x).top ≤ℤ (r.most *ℤ (in_counts r x).low)
  -- what counts in whole numbers takes them alone
  pub whole : r.shift ≡ 0 → Whole (exact x)

-- Nothing else is taken, and what is taken is rounded to the nearest count, halves away from zero.
pub record FitTaken : Type 0 where
  pub taken : (r : Range) (x : Float) → (takes r x ≡ true) ↔ Fit r x
  pub rounded : (r : Range) (x : Float) → Fit r x → Nearest (in_counts r x).top (in_counts r x).low (counted r x)
