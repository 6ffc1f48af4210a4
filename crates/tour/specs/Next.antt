-- The device that a call gives, and that the next call may be handed.
use Rattle.std.specs.Prelude.{◌≡◌}
use Rattle.converter.specs.Call.{Call, after_call}
use Rattle.converter.specs.Reached.{Reached}
use Rattle.converter.specs.declared.Device.{Device}

pub record Next (d : Device) (c : Call) (r : Device) : Type 0 where
  pub is : r ≡ after_call d c
  pub reached : Reached r
