-- What a set of figures must keep (01, "The calibration sheet"): the statement that a plant engineer reads. A sheet is
-- accepted exactly if it is the bytes of figures that keep all of this.
use Rattle.std.specs.Prelude.{◌≤◌, pos, ◌≤ℤ◌, ◌<ℤ◌}
use Rattle.integers.specs.Within.{◌within◌}
use Rattle.arithmetic.specs.Keeps.{Rising, Gentle, ColumnWithin}
use Rattle.figures.specs.Rows.{temperatures, linearities}
use Rattle.figures.specs.Limits.{cofs_most, cgai_most, cell_most, ct_most, cto_most, ctg_most, clx_most, clk_most, sofs_most, sgai_most, system_most, sz_most, fflv_most, ffst_most}
use Rattle.figures.specs.declared.Cell.{Cell}
use Rattle.figures.specs.declared.Temperature.{Temperature}
use Rattle.figures.specs.declared.Linearity.{Linearity}
use Rattle.figures.specs.declared.System.{System}
use Rattle.figures.specs.declared.Filter.{Filter}
use Rattle.figures.specs.declared.Calibration.{Calibration}

-- ---- section by section

pub record CellAcceptable (c : Cell) : Type 0 where
  pub cofs_in : c.cofs within cofs_most
  pub cgai_in : c.cgai within cgai_most
  pub cmin_in : c.cmin within cell_most
  pub cmax_in : c.cmax within cell_most
  pub ordered : c.cmin <ℤ c.cmax

pub record TemperatureAcceptable (t : Temperature) : Type 0 where
  pub least : 2 ≤ t.ctn
  pub most : t.ctn ≤ 5
  pub ct_in : ColumnWithin 0 ct_most (temperatures t)
  pub cto_in : ColumnWithin 1 cto_most (temperatures t)
  pub ctg_in : ColumnWithin 2 ctg_most (temperatures t)
  pub rising : Rising (temperatures t)

pub record LinearityAcceptable (l : Linearity) : Type 0 where
  pub least : 2 ≤ l.cln
  pub most : l.cln ≤ 7
  pub clx_in : ColumnWithin 0 clx_most (linearities l)
  pub clk_in : ColumnWithin 1 clk_most (linearities l)
  pub rising : Rising (linearities l)
  -- between neighbours 4 × the change of CLK is at most the change of CLX, signs ignored
  pub gentle : Gentle 1 (linearities l)

pub record SystemAcceptable (s : System) : Type 0 where
  pub sofs_in : s.sofs within sofs_most
  pub sgai_in : s.sgai within sgai_most
  pub smin_in : s.smin within system_most
  pub smax_in : s.smax within system_most
  pub ordered : s.smin <ℤ s.smax
  pub sz_in : s.sz within sz_most

pub record FilterAcceptable (f : Filter) : Type 0 where
  pub fflv_at_least : pos 0 ≤ℤ f.fflv
  pub fflv_at_most : f.fflv ≤ℤ pos fflv_most
  pub ffst_at_least : pos 0 ≤ℤ f.ffst
  pub ffst_at_most : f.ffst ≤ℤ pos ffst_most

pub record Acceptable (c : Calibration) : Type 0 where
  pub cell_ok : CellAcceptable c.cell
  pub temperature_ok : TemperatureAcceptable c.temperature
  pub linearity_ok : LinearityAcceptable c.linearity
  pub system_ok : SystemAcceptable c.system
  pub filter_ok : FilterAcceptable c.filter
