-- The bytes of figures, in sheet order. What a lent buffer holds afterwards is said in `sheet_writer`.
use Rattle.std.specs.Prelude.{ℕ, zero, suc, List, [], ◌∷◌, ◌++◌, slice_index_or}
use Rattle.figures.specs.Unused.{no_linearity, no_temperature}
use Rattle.figures.specs.declared.Cell.{Cell}
use Rattle.figures.specs.declared.TemperaturePoint.{TemperaturePoint}
use Rattle.figures.specs.declared.Temperature.{Temperature}
use Rattle.figures.specs.declared.LinearityPoint.{LinearityPoint}
use Rattle.figures.specs.declared.Linearity.{Linearity}
use Rattle.figures.specs.declared.System.{System}
use Rattle.figures.specs.declared.Filter.{Filter}
use Rattle.figures.specs.declared.Calibration.{Calibration}
use Rattle.sheet.specs.Bytes.{figure_bytes}

-- ---- "Five sections in this order, each after a one-byte count .. Tables go point by point"

unfoldable pub cell_bytes : Cell → List ℕ
cell_bytes c = 4 ∷ figure_bytes c.cofs ++ figure_bytes c.cgai ++ figure_bytes c.cmin ++ figure_bytes c.cmax

unfoldable pub temperature_point_bytes : TemperaturePoint → List ℕ
temperature_point_bytes p = figure_bytes p.ct ++ figure_bytes p.cto ++ figure_bytes p.ctg

unfoldable pub linearity_point_bytes : LinearityPoint → List ℕ
linearity_point_bytes p = figure_bytes p.clx ++ figure_bytes p.clk

-- the first n points
abbrev pub points_bytes : {A : Type 0} → A → (A → List ℕ) → List A → ℕ → List ℕ
points_bytes none point_bytes points zero = []
points_bytes none point_bytes points (suc i) = points_bytes none point_bytes points i ++ point_bytes (slice_index_or points i none)

unfoldable pub temperature_bytes : Temperature → List ℕ
temperature_bytes t = t.ctn ∷ points_bytes no_temperature temperature_point_bytes t.points t.ctn

unfoldable pub linearity_bytes : Linearity → List ℕ
linearity_bytes l = l.cln ∷ points_bytes no_linearity linearity_point_bytes l.points l.cln

unfoldable pub system_bytes : System → List ℕ
system_bytes s = 5 ∷ figure_bytes s.sofs ++ figure_bytes s.sgai ++ figure_bytes s.smin ++ figure_bytes s.smax ++ figure_bytes s.sz

unfoldable pub filter_bytes : Filter → List ℕ
filter_bytes f = 2 ∷ figure_bytes f.fflv ++ figure_bytes f.ffst

unfoldable pub sheet_bytes : Calibration → List ℕ
sheet_bytes c = cell_bytes c.cell ++ temperature_bytes c.temperature ++ linearity_bytes c.linearity ++ system_bytes c.system ++ filter_bytes c.filter
