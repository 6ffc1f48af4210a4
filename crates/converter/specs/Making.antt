-- Making a device (01, "Turned-down calls"): "Making a device checks the station first."
use Rattle.std.specs.Prelude.{Bool, cond, ◌&&◌, List, ℕ, eqb, leb, Result, Ok, Err}
use Rattle.refusal.specs.Refusal.{number}
use Rattle.refusal.specs.declared.Refusal.{Refusal}
use Rattle.figures.specs.Unused.{unused_zero}
use Rattle.sheet.specs.Read.{no_figures}
use Rattle.sheet.specs.Forms.{read_sheet}
use Rattle.state.specs.Request.{no_readings, no_snapshot, fresh}
use Rattle.in_force.specs.declared.Setup.{Setup}
use Rattle.converter.specs.declared.Device.{Device}
use Rattle.converter.specs.declared.Outcome.{Outcome}

-- 8: "not 1 to 247"
unfoldable pub station_fits : ℕ → Bool
station_fits station = leb 1 station && leb station 247

-- the figures in force at the start: the sheet's; "a waiting copy, which starts as the figures in force with 0 in unused points"
abbrev pub setup_of : List ℕ → ℕ → Setup
setup_of sheet station = record { figures = (read_sheet sheet).figures; copy = unused_zero (read_sheet sheet).figures; station = station }

abbrev pub started : Setup → Device
started setup = record { setup = setup; state = fresh }

-- "a refused making gives a record of zeros, which is no device"
abbrev pub no_device : Device
no_device = record { setup = record { figures = no_figures; copy = no_figures; station = 0 }; state = record { readings = no_readings; flag = 0; snapshot = no_snapshot } }

abbrev pub refused : ℕ → Outcome
refused number = record { number = number; device = no_device }

-- 8, then the sheet's number, 1 to 7
unfoldable pub made : List ℕ → ℕ → Outcome
made sheet station =
    cond (station_fits station)
    (cond (eqb (read_sheet sheet).number 0) (record { number = 0; device = started (setup_of sheet station) }) (refused (read_sheet sheet).number))
    (refused 8)

-- the record that says what a making gave
abbrev pub outcome_of : Result Device Refusal → Outcome
outcome_of (Ok device) = record { number = 0; device = device }
outcome_of (Err refusal) = refused (number refusal)
