-- What keeps a reading's values within the floats that are sent. Only code needs it.
use Rattle.std.specs.Prelude.{ℕ}
use Rattle.integers.specs.Within.{◌within◌}
use Rattle.state.specs.declared.Readings.{Readings}

-- what a float of steps may be asked for: no value of a device is larger
abbrev pub value_most : ℕ
value_most = 4194304000

pub record ReadingsWithin (r : Readings) : Type 0 where
  pub elec_in : r.elec within value_most
  pub temp_in : r.temp within value_most
  pub craw_in : r.values.craw within value_most
  pub cell_in : r.values.cell within value_most
  pub sraw_in : r.values.sraw within value_most
  pub sys_in : r.values.sys within value_most
  pub peak_in : r.peak within value_most
  pub trof_in : r.trof within value_most
