-- "A point past the count is no figure: the writer does not look at it, and it is 0 in figures read" (01, "The calibration
-- sheet").
use Rattle.std.specs.Prelude.{List, [], ◌∷◌, ℕ, zero, suc, pos}
use Rattle.figures.specs.declared.TemperaturePoint.{TemperaturePoint}
use Rattle.figures.specs.declared.LinearityPoint.{LinearityPoint}
use Rattle.figures.specs.declared.Calibration.{Calibration}

-- what stands there
abbrev pub no_temperature : TemperaturePoint
no_temperature = record { ct = pos 0; cto = pos 0; ctg = pos 0 }

abbrev pub no_linearity : LinearityPoint
no_linearity = record { clx = pos 0; clk = pos 0 }

-- the first n as they are, the others 0
abbrev pub used : {A : Type 0} → A → ℕ → List A → List A
used none n [] = []
used none zero (p ∷ ps) = none ∷ used none zero ps
used none (suc n) (p ∷ ps) = p ∷ used none n ps

unfoldable pub unused_zero : Calibration → Calibration
unused_zero c = record {
  cell = c.cell;
  temperature = record { ctn = c.temperature.ctn; points = used no_temperature c.temperature.ctn c.temperature.points };
  linearity = record { cln = c.linearity.cln; points = used no_linearity c.linearity.cln c.linearity.points };
  system = c.system;
  filter = c.filter;
}
