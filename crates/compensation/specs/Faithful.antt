-- How far a reading may stray from the exact value, and where its flags are right (demand 3, for one reading): the statement of
-- the theorem `faithful` (proofs/Faithful.antt).
use Rattle.std.specs.Prelude.{◌↔◌, ℕ, ◌*◌, ◌<◌, ℤ, pos, neg_ℤ, nat_abs, ◌-ℤ◌, ◌*ℤ◌, ◌<ℤ◌, ◌≡◌}
use Rattle.arithmetic.specs.Fraction.{Near, Fraction}
use Rattle.figures.specs.declared.Calibration.{Calibration}
use Rattle.compensation.specs.Exact.{raw_cell_f, craw_f, cell_f, raw_system_f, sraw_f, sys_f}
use Rattle.compensation.specs.Stat.{Raised, tempur, tempor, ecomur, ecomor, crawur, crawor, sysur, sysor, lcinteg}
use Rattle.compensation.specs.declared.steps.Values.{Values}

-- x lies within k steps of q
abbrev pub Within : ℕ → ℤ → Fraction → Type 0
Within k x q = Near k 1 x q

-- q lies farther than k steps from x
abbrev pub Farther : ℕ → ℤ → Fraction → Type 0
Farther k x q = k * nat_abs q.low < nat_abs (x *ℤ q.low -ℤ q.top)

-- q is above the whole number x; q is below it
abbrev pub Above : Fraction → ℤ → Type 0
Above q x = (x *ℤ q.low) <ℤ q.top

abbrev pub Below : Fraction → ℤ → Type 0
Below q x = q.top <ℤ (x *ℤ q.low)

-- the values v beside those of exact compensation: by the figures c, from ELEC as the filter holds it, TEMP and the integrity byte
pub record Faithful (c : Calibration) (elec temp : ℤ) (integrity : ℕ) (v : Values) : Type 0 where
  pub craw_near : Within 42 v.craw (craw_f c elec temp)
  pub cell_near : Within 52 v.cell (cell_f c elec temp)
  pub sraw_near : Within 416 v.sraw (sraw_f c elec temp)
  pub sys_near : Within 416 v.sys (sys_f c elec temp)
  -- the exact raw values too are fractions: "the lower one above 0", so that multiplying out keeps every order below
  pub raw_cell_above : pos 0 <ℤ (raw_cell_f c elec temp).low
  pub raw_system_above : pos 0 <ℤ (raw_system_f c elec temp).low
  -- the range flags, wherever the exact raw value is farther than that from the limit
  pub crawur_right : Farther 42 c.cell.cmin (raw_cell_f c elec temp) → Raised crawur v.stat ↔ Below (raw_cell_f c elec temp) c.cell.cmin
  pub crawor_right : Farther 42 c.cell.cmax (raw_cell_f c elec temp) → Raised crawor v.stat ↔ Above (raw_cell_f c elec temp) c.cell.cmax
  pub sysur_right : Farther 416 c.system.smin (raw_system_f c elec temp) → Raised sysur v.stat ↔ Below (raw_system_f c elec temp) c.system.smin
  pub sysor_right : Farther 416 c.system.smax (raw_system_f c elec temp) → Raised sysor v.stat ↔ Above (raw_system_f c elec temp) c.system.smax
  -- the others, always: "TEMPUR .. (TEMP below −3,276,800), TEMPOR .. (above 5,898,240), ECOMUR .. and ECOMOR .. (ELEC below −7,864,320,
  -- above 7,864,320)"
  pub tempur_right : Raised tempur v.stat ↔ temp <ℤ neg_ℤ (pos 3276800)
  pub tempor_right : Raised tempor v.stat ↔ pos 5898240 <ℤ temp
  pub ecomur_right : Raised ecomur v.stat ↔ elec <ℤ neg_ℤ (pos 7864320)
  pub ecomor_right : Raised ecomor v.stat ↔ pos 7864320 <ℤ elec
  pub lcinteg_right : Raised lcinteg v.stat ↔ (integrity ≡ 1)
