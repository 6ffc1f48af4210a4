-- The points before the count are the table, and an acceptable table's figures are within what the code of interpolation asks. Assumes
-- nothing.
use mathlib.Core.Path.{◌≡◌, sym}
use mathlib.Core.List.{map}
use Prim.Native.Nat.{◌^◌}
use native.Mathlib.Omega.{arith}
use lib.ListN.{take}
use Rattle.std.proofs.lemmas.List.{take-map}
use Rattle.arithmetic.specs.ForCode.{Computable}
use Rattle.arithmetic.proofs.Table.{column-within-more}
use Rattle.figures.specs.Limits.{ct_most, cto_most, ctg_most, clx_most, clk_most}
use Rattle.figures.specs.Acceptable.{TemperatureAcceptable, LinearityAcceptable}
use Rattle.figures.specs.Rows.{linearities, linearity_row, temperatures, temperature_row}
use Rattle.figures.specs.declared.Temperature.{Temperature}
use Rattle.figures.specs.declared.Linearity.{Linearity}

pub cto-computable : (t : Temperature) → TemperatureAcceptable t → Computable 1 (temperatures t)
cto-computable t ok = record {
  places = column-within-more 0 ct_most (2 ^ 31) (temperatures t) (omega arith) ok.ct_in;
  values = column-within-more 1 cto_most (2 ^ 27) (temperatures t) (omega arith) ok.cto_in;
}

pub ctg-computable : (t : Temperature) → TemperatureAcceptable t → Computable 2 (temperatures t)
ctg-computable t ok = record {
  places = column-within-more 0 ct_most (2 ^ 31) (temperatures t) (omega arith) ok.ct_in;
  values = column-within-more 2 ctg_most (2 ^ 27) (temperatures t) (omega arith) ok.ctg_in;
}

pub clk-computable : (l : Linearity) → LinearityAcceptable l → Computable 1 (linearities l)
clk-computable l ok = record {
  places = column-within-more 0 clx_most (2 ^ 31) (linearities l) (omega arith) ok.clx_in;
  values = column-within-more 1 clk_most (2 ^ 27) (linearities l) (omega arith) ok.clk_in;
}

pub temperatures-are : (t : Temperature) → map temperature_row (take t.ctn t.points) ≡ temperatures t
unfolding temperatures
temperatures-are t = sym (take-map temperature_row t.ctn t.points)

pub linearities-are : (l : Linearity) → map linearity_row (take l.cln l.points) ≡ linearities l
unfolding linearities
linearities-are l = sym (take-map linearity_row l.cln l.points)
