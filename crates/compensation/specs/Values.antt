-- What a reading leaves: CRAW, CELL, SRAW, SYS and STAT, by the figures, from ELEC as the filter holds it, TEMP and the integrity byte.
use Rattle.std.specs.Prelude.{ℕ, ℤ}
use Rattle.figures.specs.declared.Calibration.{Calibration}
use Rattle.compensation.specs.Reading.{craw, cell, sraw, sys}
use Rattle.compensation.specs.Stat.{stat}
use Rattle.compensation.specs.declared.steps.Values.{Values}

unfoldable pub values_of : Calibration → ℤ → ℤ → ℕ → Values
values_of c elec temp integrity = record { craw = craw c elec temp; cell = cell c elec temp; sraw = sraw c elec temp; sys = sys c elec temp; stat = stat c elec temp integrity }
