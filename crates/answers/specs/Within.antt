-- What keeps a device's values within the floats that are sent. Only code needs it.
use Rattle.std.specs.Prelude.{ℤ}
use Rattle.integers.specs.Within.{◌within◌}
use Rattle.figures.specs.declared.Calibration.{Calibration}
use Rattle.panel.specs.ForCode.{InRange}
use Rattle.state.specs.Within.{value_most, ReadingsWithin}
use Rattle.state.specs.declared.State.{State}

pub record StateWithin (s : State) (sz : ℤ) (copy : Calibration) : Type 0 where
  pub readings_in : ReadingsWithin s.readings
  pub sysn_in : s.snapshot.sysn within value_most
  pub sz_in : sz within value_most
  pub copy_in : InRange copy
