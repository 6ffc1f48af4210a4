-- Reading a sheet of the old form, that of 01: the figures that stand at their places, and the number of the sheet's first fault. The
-- new form, and what is read of either, are in `Forms.antt`.
use Rattle.std.specs.Prelude.{ℕ, zero, suc, ◌+◌, ◌*◌, min, cond, List, length, replicate, pos, ◌==◌, slice_set}
use Rattle.figures.specs.Unused.{no_linearity, no_temperature}
use Rattle.figures.specs.declared.Cell.{Cell}
use Rattle.figures.specs.declared.TemperaturePoint.{TemperaturePoint}
use Rattle.figures.specs.declared.Temperature.{Temperature}
use Rattle.figures.specs.declared.LinearityPoint.{LinearityPoint}
use Rattle.figures.specs.declared.Linearity.{Linearity}
use Rattle.figures.specs.declared.System.{System}
use Rattle.figures.specs.declared.Filter.{Filter}
use Rattle.figures.specs.declared.Calibration.{Calibration}
use Rattle.sheet.specs.Bytes.{count_at, figure_at}
use Rattle.sheet.specs.Places.{temperature_point_size, linearity_point_size, temperature_start, linearity_start, system_start, filter_start, sheet_end}
use Rattle.sheet.specs.Judge.{◌then◌, short_of, trailing, sections_number}
use Rattle.sheet.specs.Sheet.{Sheet}

-- ---- the sections, each from its place; figures stand in the order of 01's table

unfoldable pub cell_at : List ℕ → ℕ → Cell
cell_at s at = record { cofs = figure_at s (at + 1); cgai = figure_at s (at + 9); cmin = figure_at s (at + 17); cmax = figure_at s (at + 25) }

unfoldable pub temperature_point_at : List ℕ → ℕ → TemperaturePoint
temperature_point_at s at = record { ct = figure_at s at; cto = figure_at s (at + 8); ctg = figure_at s (at + 16) }

unfoldable pub linearity_point_at : List ℕ → ℕ → LinearityPoint
linearity_point_at s at = record { clx = figure_at s at; clk = figure_at s (at + 8) }

-- `cap` points of `size` bytes from `at` on: the first n as they stand, the others 0
abbrev pub points_at : {A : Type 0} → A → (List ℕ → ℕ → A) → ℕ → ℕ → List ℕ → ℕ → ℕ → List A
points_at none point_at size cap s at zero = replicate cap none
points_at none point_at size cap s at (suc i) = slice_set (points_at none point_at size cap s at i) i (point_at s (at + size * i))

unfoldable pub temperature_at : List ℕ → ℕ → Temperature
temperature_at s at = record { ctn = count_at s at; points = points_at no_temperature temperature_point_at temperature_point_size 5 s (at + 1) (min (count_at s at) 5) }

unfoldable pub linearity_at : List ℕ → ℕ → Linearity
linearity_at s at = record { cln = count_at s at; points = points_at no_linearity linearity_point_at linearity_point_size 7 s (at + 1) (min (count_at s at) 7) }

unfoldable pub system_at : List ℕ → ℕ → System
system_at s at = record { sofs = figure_at s (at + 1); sgai = figure_at s (at + 9); smin = figure_at s (at + 17); smax = figure_at s (at + 25); sz = figure_at s (at + 33) }

unfoldable pub filter_at : List ℕ → ℕ → Filter
filter_at s at = record { fflv = figure_at s (at + 1); ffst = figure_at s (at + 9) }

-- ---- the sheet

-- the counts of points that stand in it
abbrev pub ctn_of : List ℕ → ℕ
ctn_of s = count_at s temperature_start

abbrev pub cln_of : List ℕ → ℕ
cln_of s = count_at s (linearity_start (ctn_of s))

unfoldable pub figures_of : List ℕ → Calibration
figures_of s = record {
  cell = cell_at s 0;
  temperature = temperature_at s temperature_start;
  linearity = linearity_at s (linearity_start (ctn_of s));
  system = system_at s (system_start (ctn_of s) (cln_of s));
  filter = filter_at s (filter_start (ctn_of s) (cln_of s));
}

-- the five sections, and "7 last"
unfoldable pub old_number : List ℕ → ℕ
old_number s =
    sections_number (short_of (length s)) (count_at s 0) (count_at s (system_start (ctn_of s) (cln_of s))) (count_at s (filter_start (ctn_of s) (cln_of s))) (figures_of s)
    then trailing (length s) (sheet_end (ctn_of s) (cln_of s))

-- "Beside a refusal each value .. is 0"
unfoldable pub no_figures : Calibration
no_figures = record {
  cell = record { cofs = pos 0; cgai = pos 0; cmin = pos 0; cmax = pos 0 };
  temperature = record { ctn = 0; points = replicate 5 no_temperature };
  linearity = record { cln = 0; points = replicate 7 no_linearity };
  system = record { sofs = pos 0; sgai = pos 0; smin = pos 0; smax = pos 0; sz = pos 0 };
  filter = record { fflv = pos 0; ffst = pos 0 };
}

-- number 0 and the figures; or the number of the first fault and zeros
unfoldable pub read_old : List ℕ → Sheet
read_old s = record { number = old_number s; figures = cond (old_number s == 0) (figures_of s) no_figures }
