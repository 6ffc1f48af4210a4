-- "More load, more weight" (Change 14), for the steps of a reading: "Batching programs stop a feed when SYS passes a target, so a heavier
-- bridge signal must never read lighter. With the filter off, one set of figures, one temperature, and CGAI and SGAI both at least 0, a
-- larger ELEC never gives a smaller CRAW, CELL, SRAW or SYS. If exactly one of the gains is below 0, a larger ELEC never gives a larger
-- SYS. This is to be proved for all accepted sheets." ELEC is here as the filter holds it, which is the input where the filter is off.
use Rattle.std.specs.Prelude.{◌⊎◌, ℕ, ℤ, pos, ◌≤ℤ◌, ◌<ℤ◌}
use Rattle.figures.specs.Acceptable.{Acceptable}
use Rattle.figures.specs.declared.Calibration.{Calibration}
use Rattle.compensation.specs.Values.{values_of}
use Rattle.compensation.specs.declared.steps.Values.{Values}

-- "CGAI and SGAI both at least 0"
pub record NoneBelow (c : Calibration) : Type 0 where
  pub cgai : pos 0 ≤ℤ c.cell.cgai
  pub sgai : pos 0 ≤ℤ c.system.sgai

-- "exactly one of the gains is below 0"
abbrev pub OneBelow : Calibration → Type 0
OneBelow c = ((c.cell.cgai <ℤ pos 0) × (pos 0 ≤ℤ c.system.sgai)) ⊎ ((pos 0 ≤ℤ c.cell.cgai) × (c.system.sgai <ℤ pos 0))

-- and both: of this the paper says nothing
pub record BothBelow (c : Calibration) : Type 0 where
  pub cgai : c.cell.cgai <ℤ pos 0
  pub sgai : c.system.sgai <ℤ pos 0

-- no value of w is smaller than that of v
pub record NoneSmaller (v w : Values) : Type 0 where
  pub craw : v.craw ≤ℤ w.craw
  pub cell : v.cell ≤ℤ w.cell
  pub sraw : v.sraw ≤ℤ w.sraw
  pub sys : v.sys ≤ℤ w.sys

-- v by a smaller ELEC, or the same, and w by a larger one
pub record FollowsElec (c : Calibration) (v w : Values) : Type 0 where
  pub none_below : NoneBelow c → NoneSmaller v w
  pub one_below : OneBelow c → w.sys ≤ℤ v.sys
  pub both_below : BothBelow c → v.sys ≤ℤ w.sys

pub record Monotone : Type 0 where
  -- for all acceptable figures, any two ELEC, every TEMP and all integrity bytes
  pub follows : (c : Calibration) → Acceptable c → (low high temp : ℤ) (i j : ℕ) → low ≤ℤ high → FollowsElec c (values_of c low temp i) (values_of c high temp j)
  -- and the three leave no figures out
  pub signs : (c : Calibration) → NoneBelow c ⊎ (OneBelow c ⊎ BothBelow c)
