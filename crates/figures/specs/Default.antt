-- "The default sheet is 001's: offsets and adjustments 0, gains 1, CT 0 and 25 °C, CLX 0 and 100, both ranges ±150, SZ 0,
-- filter 0 and 0" (01, "The calibration sheet").
use Rattle.std.specs.Prelude.{[], ◌∷◌, ◌*◌, ℤ, pos, neg_ℤ}
use Rattle.figures.specs.Limits.{unit}
use Rattle.figures.specs.Unused.{no_temperature, no_linearity}
use Rattle.figures.specs.declared.Calibration.{Calibration}

unfoldable pub default_sheet : Calibration
default_sheet = record {
  cell = record { cofs = pos 0; cgai = pos unit; cmin = neg_ℤ (pos (150 * 65536)); cmax = pos (150 * 65536) };
  temperature = record { ctn = 2; points = no_temperature ∷ record { ct = pos (25 * 65536); cto = pos 0; ctg = pos 0 } ∷ no_temperature ∷ no_temperature ∷ no_temperature ∷ [] };
  linearity = record { cln = 2; points = no_linearity ∷ record { clx = pos (100 * 65536); clk = pos 0 } ∷ no_linearity ∷ no_linearity ∷ no_linearity ∷ no_linearity ∷ no_linearity ∷ [] };
  system = record { sofs = pos 0; sgai = pos unit; smin = neg_ℤ (pos (150 * 65536)); smax = pos (150 * 65536); sz = pos 0 };
  filter = record { fflv = pos 0; ffst = pos 0 };
}

-- "CLX 400 apart" (01, "Edges"), in the default sheet, and CLK this far
abbrev pub apart : ℤ → Calibration
apart clk = record {
  cell = default_sheet.cell;
  temperature = default_sheet.temperature;
  linearity = record { cln = 2; points = no_linearity ∷ record { clx = pos 400; clk = clk } ∷ no_linearity ∷ no_linearity ∷ no_linearity ∷ no_linearity ∷ no_linearity ∷ [] };
  system = default_sheet.system;
  filter = default_sheet.filter;
}
