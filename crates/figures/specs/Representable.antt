-- Nothing to be believed: what every calibration record of the code has by its type, and lists and whole numbers need not have, which
-- is arrays of five and seven points, and figures of 64 bits. Statements about every record take it as given.
use Rattle.std.specs.Prelude.{◌≡◌, ℕ, ◌<◌, length, get_or}
use Rattle.std.specs.Int.{w64}
use Rattle.std.proofs.Common.{SFits}
use Rattle.figures.specs.Unused.{no_linearity, no_temperature}
use Rattle.figures.specs.declared.Cell.{Cell}
use Rattle.figures.specs.declared.TemperaturePoint.{TemperaturePoint}
use Rattle.figures.specs.declared.LinearityPoint.{LinearityPoint}
use Rattle.figures.specs.declared.System.{System}
use Rattle.figures.specs.declared.Filter.{Filter}
use Rattle.figures.specs.declared.Calibration.{Calibration}

pub record Representable (c : Calibration) : Type 0 where
  pub five : length c.temperature.points ≡ 5
  pub seven : length c.linearity.points ≡ 7

pub record CellFits (c : Cell) : Type 0 where
  pub cofs_fits : SFits w64 c.cofs
  pub cgai_fits : SFits w64 c.cgai
  pub cmin_fits : SFits w64 c.cmin
  pub cmax_fits : SFits w64 c.cmax

pub record TemperaturePointFits (p : TemperaturePoint) : Type 0 where
  pub ct_fits : SFits w64 p.ct
  pub cto_fits : SFits w64 p.cto
  pub ctg_fits : SFits w64 p.ctg

pub record LinearityPointFits (p : LinearityPoint) : Type 0 where
  pub clx_fits : SFits w64 p.clx
  pub clk_fits : SFits w64 p.clk

pub record SystemFits (s : System) : Type 0 where
  pub sofs_fits : SFits w64 s.sofs
  pub sgai_fits : SFits w64 s.sgai
  pub smin_fits : SFits w64 s.smin
  pub smax_fits : SFits w64 s.smax
  pub sz_fits : SFits w64 s.sz

pub record FilterFits (f : Filter) : Type 0 where
  pub fflv_fits : SFits w64 f.fflv
  pub ffst_fits : SFits w64 f.ffst

-- the figures: points past the count are none
pub record Fitting (c : Calibration) : Type 0 where
  pub cell_fits : CellFits c.cell
  pub temperature_fits : (i : ℕ) → i < c.temperature.ctn → TemperaturePointFits (get_or c.temperature.points i no_temperature)
  pub linearity_fits : (i : ℕ) → i < c.linearity.cln → LinearityPointFits (get_or c.linearity.points i no_linearity)
  pub system_fits : SystemFits c.system
  pub filter_fits : FilterFits c.filter
