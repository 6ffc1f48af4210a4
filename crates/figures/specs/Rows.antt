-- The points that are figures, as tables: CT with CTO and CTG beside it, CLX with CLK.
use Rattle.std.specs.Prelude.{List, [], ◌∷◌, map, take}
use Rattle.arithmetic.specs.Table.{Point}
use Rattle.figures.specs.declared.TemperaturePoint.{TemperaturePoint}
use Rattle.figures.specs.declared.Temperature.{Temperature}
use Rattle.figures.specs.declared.LinearityPoint.{LinearityPoint}
use Rattle.figures.specs.declared.Linearity.{Linearity}

abbrev pub temperature_row : TemperaturePoint → Point
temperature_row p = p.ct ∷ p.cto ∷ p.ctg ∷ []

abbrev pub linearity_row : LinearityPoint → Point
linearity_row p = p.clx ∷ p.clk ∷ []

unfoldable pub temperatures : Temperature → List Point
temperatures t = take t.ctn (map temperature_row t.points)

unfoldable pub linearities : Linearity → List Point
linearities l = take l.cln (map linearity_row l.points)
