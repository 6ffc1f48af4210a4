-- The pieces in which the code finds a reading (specs/ForCode.antt), put together, are the reading. Assumes nothing.
use mathlib.Core.Path.{◌≡◌, refl}
use Prim.Native.Nat.{ℕ}
use lib.IntN.{ℤ}
use Rattle.figures.specs.declared.Calibration.{Calibration}
use Rattle.compensation.specs.Reading.{y, raw_cell, craw, cell, raw_system, sraw, sys}
use Rattle.compensation.specs.Values.{values_of}
use Rattle.compensation.specs.ForCode.{input_at, y_at, raw_cell_at, craw_at, cell_value_at, cell_values_at, values_from}

pub values-joined : (c : Calibration) (elec temp : ℤ) (integrity : ℕ) → values_from c.cell c.system (cell_values_at c.cell c.linearity (input_at c.temperature elec temp)) elec temp integrity ≡ values_of c elec temp integrity
unfolding values_of values_from cell_values_at y y_at raw_cell raw_cell_at craw craw_at cell cell_value_at raw_system sraw sys
values-joined c elec temp integrity = refl
