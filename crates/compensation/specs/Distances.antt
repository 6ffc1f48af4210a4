-- Demand 3's distances once more, in another form than `Faithful` has them: no distance is taken and nothing is said to be near or
-- far; a value's ends, so many steps below and above, lie on either side of the exact value. A number that is wrong in one of the
-- two statements does not pass (`distances`, proofs/Distances.antt).
use Rattle.std.specs.Prelude.{ℕ, ℤ, pos, ◌+ℤ◌, ◌-ℤ◌, ◌*ℤ◌, ◌≤ℤ◌, ◌<ℤ◌}
use Rattle.integers.specs.Within.{◌within◌}
use Rattle.arithmetic.specs.Fraction.{Fraction}
use Rattle.figures.specs.Acceptable.{Acceptable}
use Rattle.figures.specs.declared.Calibration.{Calibration}
use Rattle.compensation.specs.ReadingLimits.{elec_most}
use Rattle.compensation.specs.Exact.{raw_cell_f, craw_f, cell_f, raw_system_f, sraw_f, sys_f}
use Rattle.compensation.specs.Faithful.{Faithful}
use Rattle.compensation.specs.Stat.{Raised, crawur, crawor, sysur, sysor}
use Rattle.compensation.specs.Values.{values_of}
use Rattle.compensation.specs.declared.steps.Values.{Values}

-- x − k ≤ q ≤ x + k, multiplied out
abbrev pub Between : ℕ → ℤ → Fraction → Type 0
Between k x q = (((x -ℤ pos k) *ℤ q.low) ≤ℤ q.top) × (q.top ≤ℤ ((x +ℤ pos k) *ℤ q.low))

-- q is below x − k; q is above x + k
abbrev pub FarBelow : ℕ → ℤ → Fraction → Type 0
FarBelow k x q = q.top <ℤ ((x -ℤ pos k) *ℤ q.low)

abbrev pub FarAbove : ℕ → ℤ → Fraction → Type 0
FarAbove k x q = ((x +ℤ pos k) *ℤ q.low) <ℤ q.top

-- raised where this holds, and not raised where that holds
pub record Judges (bit stat : ℕ) (This That : Type 0) : Type 0 where
  pub raised : This → Raised bit stat
  pub left : That → Raised bit stat → ⊥

-- "CRAW within 42 steps, CELL 52, SRAW and SYS 416 of exact compensation; range flags right wherever the exact value is farther
-- than that from the limit"
pub record Distances (c : Calibration) (elec temp : ℤ) (v : Values) : Type 0 where
  pub craw_between : Between 42 v.craw (craw_f c elec temp)
  pub cell_between : Between 52 v.cell (cell_f c elec temp)
  pub sraw_between : Between 416 v.sraw (sraw_f c elec temp)
  pub sys_between : Between 416 v.sys (sys_f c elec temp)
  pub crawur_judges : Judges crawur v.stat (FarBelow 42 c.cell.cmin (raw_cell_f c elec temp)) (FarAbove 42 c.cell.cmin (raw_cell_f c elec temp))
  pub crawor_judges : Judges crawor v.stat (FarAbove 42 c.cell.cmax (raw_cell_f c elec temp)) (FarBelow 42 c.cell.cmax (raw_cell_f c elec temp))
  pub sysur_judges : Judges sysur v.stat (FarBelow 416 c.system.smin (raw_system_f c elec temp)) (FarAbove 416 c.system.smin (raw_system_f c elec temp))
  pub sysor_judges : Judges sysor v.stat (FarAbove 416 c.system.smax (raw_system_f c elec temp)) (FarBelow 416 c.system.smax (raw_system_f c elec temp))

-- for all acceptable figures, every ELEC that the filter can hold, and every TEMP
abbrev pub AlwaysFaithful : Type 0
AlwaysFaithful = (c : Calibration) (elec temp : ℤ) (integrity : ℕ) → Acceptable c → elec within elec_most → Faithful c elec temp integrity (values_of c elec temp integrity)

abbrev pub AlwaysBetween : Type 0
AlwaysBetween = (c : Calibration) (elec temp : ℤ) (integrity : ℕ) → Acceptable c → elec within elec_most → Distances c elec temp (values_of c elec temp integrity)
