-- "Pulling as good as pushing" (Change 5), as a property: a cell by the figures c, and the same cell pulled, by figures m that mirror them
-- and ELEC with the other sign. What the rounding of 01 did not have: −5 ÷ 2 was −2.
use Rattle.std.specs.Prelude.{◌≡◌, ℕ, ℤ, neg_ℤ, ◌+ℤ◌}
use Rattle.std.proofs.Math.Option.{Option, none, some}
use Rattle.integers.specs.Within.{◌within◌}
use Rattle.arithmetic.specs.Round.{round_div}
use Rattle.arithmetic.specs.Fraction.{whole}
use Rattle.arithmetic.specs.Table.{interpolated_f}
use Rattle.arithmetic.specs.Mirror.{InNoSegment, HalfWay}
use Rattle.figures.specs.Rows.{linearities}
use Rattle.figures.specs.Acceptable.{Acceptable}
use Rattle.figures.specs.Mirror.{Mirrors}
use Rattle.figures.specs.declared.Calibration.{Calibration}
use Rattle.figures.specs.declared.Filter.{Filter}
use Rattle.compensation.specs.Filter.{Remembered, held_by}
use Rattle.compensation.specs.Reading.{craw, cell, sraw, sys}
use Rattle.compensation.specs.Stat.{bit_at, tempur, tempor, ecomur, ecomor, crawur, crawor, sysur, sysor, lcinteg, stat}

-- ---- step 1: the filter holds the negative, whatever it remembers

abbrev pub pulled_memory : Option Remembered → Option Remembered
pulled_memory none = none
pulled_memory (some r) = some (record { input = neg_ℤ r.input; held = neg_ℤ r.held })

-- ---- steps 2 to 5

-- the flags of the cell pushed, p, and pulled, q: those of ELEC and of the cell's range change sides, those of TEMP and of a fault stay
pub record ChangeSides (p q : ℕ) : Type 0 where
  pub ecomur_is : bit_at ecomur q ≡ bit_at ecomor p
  pub ecomor_is : bit_at ecomor q ≡ bit_at ecomur p
  pub crawur_is : bit_at crawur q ≡ bit_at crawor p
  pub crawor_is : bit_at crawor q ≡ bit_at crawur p
  pub tempur_is : bit_at tempur q ≡ bit_at tempur p
  pub tempor_is : bit_at tempor q ≡ bit_at tempor p
  pub lcinteg_is : bit_at lcinteg q ≡ bit_at lcinteg p

module _ (c m : Calibration) (elec temp : ℤ) where
  -- CELL and all after it, with the flags of the system's range
  pub record Exactly : Type 0 where
    pub cell_is : cell m (neg_ℤ elec) temp ≡ neg_ℤ (cell c elec temp)
    pub sraw_is : sraw m (neg_ℤ elec) temp ≡ neg_ℤ (sraw c elec temp)
    pub sys_is : sys m (neg_ℤ elec) temp ≡ neg_ℤ (sys c elec temp)
    pub sysur_is : (integrity : ℕ) → bit_at sysur (stat m (neg_ℤ elec) temp integrity) ≡ bit_at sysor (stat c elec temp integrity)
    pub sysor_is : (integrity : ℕ) → bit_at sysor (stat m (neg_ℤ elec) temp integrity) ≡ bit_at sysur (stat c elec temp integrity)

  pub record Pulls : Type 0 where
    -- always
    pub flags : (integrity : ℕ) → ChangeSides (stat c elec temp integrity) (stat m (neg_ℤ elec) temp integrity)
    pub craw_is : craw m (neg_ℤ elec) temp ≡ neg_ℤ (craw c elec temp)
    -- where no correction is interpolated between two points
    pub beside : InNoSegment (craw c elec temp) (linearities c.linearity) → Exactly
    -- and where it is, unless the exact correction lies half-way between two steps: a mirrored table is read from its other end, and each
    -- rounds away from the point that it reads from
    pub no_half : (HalfWay (interpolated_f 1 (linearities c.linearity) (whole (craw c elec temp))) → ⊥) → Exactly
    -- and always CELL to a step, and SRAW and SYS to 8, which is the largest SGAI
    pub cell_near : (cell m (neg_ℤ elec) temp +ℤ cell c elec temp) within 1
    pub sraw_near : (sraw m (neg_ℤ elec) temp +ℤ sraw c elec temp) within 8
    pub sys_near : (sys m (neg_ℤ elec) temp +ℤ sys c elec temp) within 8

pub record Pulling : Type 0 where
  pub round : (a d : ℤ) → round_div (neg_ℤ a) d ≡ neg_ℤ (round_div a d)
  pub filter : (f : Filter) (r : Option Remembered) (input : ℤ) → held_by f (pulled_memory r) (neg_ℤ input) ≡ neg_ℤ (held_by f r input)
  pub reading : (c m : Calibration) (elec temp : ℤ) → Acceptable c → Mirrors c m → Pulls c m elec temp
