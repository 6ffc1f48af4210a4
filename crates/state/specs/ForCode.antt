-- For the code alone, and nothing to be believed: step 1 by itself; and a reading's input that is kept before its values are known, so that
-- a board has no need of it after the filter. What is left, put together, is `state_after_reading` (`remembered-first`, proofs/Remembered.antt).
use Rattle.std.specs.Prelude.{ℤ}
use Rattle.figures.specs.declared.Calibration.{Calibration}
use Rattle.compensation.specs.Filter.{held_by}
use Rattle.state.specs.Reading.{remembered_of}
use Rattle.state.specs.declared.Readings.{Readings}
use Rattle.state.specs.declared.State.{State}

abbrev pub held_after : Calibration → Readings → ℤ → ℤ
held_after c r input = held_by c.filter (remembered_of r) input

abbrev pub with_input : Readings → ℤ → Readings
with_input r input = record { any = r.any; input = input; elec = r.elec; temp = r.temp; values = r.values; peak = r.peak; trof = r.trof }

abbrev pub remembering : State → ℤ → State
remembering s input = record { readings = with_input s.readings input; flag = s.flag; snapshot = s.snapshot }
