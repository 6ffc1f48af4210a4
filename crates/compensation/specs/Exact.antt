-- The exact value (01, "The reading"): it "follows the same steps 2 to 5 over fractions, with no rounding."
use Rattle.std.specs.Prelude.{ℤ}
use Rattle.arithmetic.specs.Fraction.{Fraction, whole, ◌+F◌, ◌-F◌, ◌*F◌, ◌/F◌}
use Rattle.arithmetic.specs.Table.{interpolated_f}
use Rattle.figures.specs.Rows.{linearities, temperatures}
use Rattle.figures.specs.declared.Calibration.{Calibration}
use Rattle.compensation.specs.Hold.{hold_f}
use Rattle.compensation.specs.Reading.{one}

module _ (c : Calibration) (elec temp : ℤ) where
  unfoldable pub o_f : Fraction
  o_f = interpolated_f 1 (temperatures c.temperature) (whole temp)

  unfoldable pub g_f : Fraction
  g_f = interpolated_f 2 (temperatures c.temperature) (whole temp)

  unfoldable pub y_f : Fraction
  y_f = (whole elec -F whole c.cell.cofs -F o_f) *F whole c.cell.cgai /F one

  unfoldable pub raw_cell_f : Fraction
  raw_cell_f = y_f *F (whole one +F g_f) /F one

  unfoldable pub craw_f : Fraction
  craw_f = hold_f c.cell.cmin c.cell.cmax raw_cell_f

  unfoldable pub cell_f : Fraction
  cell_f = craw_f +F interpolated_f 1 (linearities c.linearity) craw_f

  unfoldable pub raw_system_f : Fraction
  raw_system_f = (cell_f -F whole c.system.sofs) *F whole c.system.sgai /F one

  unfoldable pub sraw_f : Fraction
  sraw_f = hold_f c.system.smin c.system.smax raw_system_f

  unfoldable pub sys_f : Fraction
  sys_f = sraw_f -F whole c.system.sz
