-- What readings remember, as the code has it: a flag and two numbers; and a reading whose input is remembered first is `state_after_reading`.
-- Assumes nothing.
use mathlib.Core.Path.{◌≡◌, refl}
use mathlib.Core.Bool.{Bool, true, false, cond, not}
use mathlib.Core.Option.{none, some}
use lib.IntN.{ℤ}
use Rattle.figures.specs.declared.Filter.{Filter}
use Rattle.compensation.specs.Filter.{filtered, held_by}
use Rattle.compensation.specs.declared.steps.Values.{Values}
use Rattle.state.specs.Reading.{peak_after, trof_after, readings_after, remembered_of, state_after_values}
use Rattle.state.specs.ForCode.{remembering}
use Rattle.state.specs.declared.Readings.{Readings}
use Rattle.state.specs.declared.State.{State}

-- a first input is held, whatever stands in the record
pub held-by : (f : Filter) (r : Readings) (input : ℤ) → filtered f (not r.any) r.input r.elec input ≡ held_by f (remembered_of r) input
unfolding filtered
held-by f r input = go r.any
  where
    go : (any : Bool) → filtered f (not any) r.input r.elec input ≡ held_by f (cond any (some (record { input = r.input; held = r.elec })) none) input
    go true = refl
    go false = refl

pub remembered-first : (s : State) (input elec temp : ℤ) (v : Values) → state_after_values (remembering s input) (record { input = input; held = elec }) temp v ≡ state_after_values s (record { input = input; held = elec }) temp v
unfolding state_after_values readings_after peak_after trof_after
remembered-first s input elec temp v = refl
