-- The log (01, "The log"): "fed the making's sheet and station and the calls' arguments, nothing from device or answers. It keeps
-- the figures in force (the sheet's, SZ as last written), the held value (the filtered input), the readings with the peak resets
-- among them, and each raising and clearing of a FLAG bit." With the held value it keeps "the previous accepted unfiltered input"
-- (Change 2).
use Rattle.std.specs.Prelude.{cond, List, [], ◌∷◌, ℕ, eqb, ℤ}
use Rattle.std.proofs.Math.Option.{Option, none, some}
use Rattle.figures.specs.declared.Calibration.{Calibration}
use Rattle.compensation.specs.Filter.{Remembered, remembered}
use Rattle.compensation.specs.Values.{values_of}
use Rattle.compensation.specs.declared.steps.Values.{Values}
use Rattle.probe.specs.Probe.{is_beyond, temp_of}
use Rattle.register.specs.Number.{FLAG, RST, PEAKRESET}
use Rattle.modbus.specs.Frame.{judged}
use Rattle.modbus.specs.Judgement.{Frame, Refused, Read, Write, Act}
use Rattle.state.specs.Reading.{bad_reading}
use Rattle.in_force.specs.InForce.{setup_by}
use Rattle.state.specs.Request.{reboot, flag_whole}
use Rattle.in_force.specs.declared.Setup.{Setup}
use Rattle.converter.specs.Making.{setup_of}
use Rattle.converter.specs.Corner.{at, corner_refused}
use Rattle.converter.specs.Call.{Call, reading, frame, report, corner, probe}
use Rattle.converter.specs.declared.corner.Sample.{Sample}

-- a reading that joined: the figures in force at it, its input, unfiltered and filtered, TEMP and integrity byte
pub record Kept : Type 0 where
  pub figures : Calibration
  pub input : ℤ
  pub elec : ℤ
  pub temp : ℤ
  pub integrity : ℕ

-- "A reading joins by steps 1 to 5"
abbrev pub valued : Kept → Values
valued k = values_of k.figures k.elec k.temp k.integrity

pub data Entry : Type 0 where
  joined : Kept → Entry
  peak_was_reset : Entry

-- `raised m` raises the bits of m; `kept m` clears every bit that m lacks
pub data Event : Type 0 where
  raised : ℕ → Event
  kept : ℕ → Event

-- both lists have the newest first
pub record Log : Type 0 where
  pub setup : Setup
  pub filter : Option Remembered
  pub readings : List Entry
  pub events : List Event

-- the last reading kept, if there is one
abbrev pub latest : List Entry → Option Kept
latest [] = none
latest (joined k ∷ es) = some k
latest (peak_was_reset ∷ es) = latest es

-- "start and RST drop readings, peak resets and held value", and "RST forgets" the previous input (Change 2). REBOOT is raised and nothing
-- cleared: "A flag's history then runs back to the start or to the last write that lacked its bit, past all resets." (Change 7)
abbrev pub begun : Setup → List Event → Log
begun setup events = record { setup = setup; filter = none; readings = []; events = raised reboot ∷ events }

abbrev pub kept_of : Log → ℤ → ℤ → ℕ → Kept
kept_of l input temp integrity =
    let m : Remembered = remembered l.setup.figures.filter l.filter input in
    record { figures = l.setup.figures; input = m.input; elec = m.held; temp = temp; integrity = integrity }

abbrev pub join : Log → Kept → Log
join l k = record { setup = l.setup; filter = some (record { input = k.input; held = k.elec }); readings = joined k ∷ l.readings; events = raised (valued k).stat ∷ l.events }

-- "10 judged by the log": no peak reset before the first reading
abbrev pub reset_peaks : Option Kept → List Entry → List Entry
reset_peaks none es = es
reset_peaks (some k) es = peak_was_reset ∷ es

-- "Reads, SNAP, reports and refused calls .. do nothing."; "The log of 01 keeps the copy too, by these same rules from the calls alone,
-- and judges 17 by it as it judges 10" (Change 1): `setup_by`, over the copy and the figures that the log keeps
abbrev pub log_by : Log → Frame → Log
log_by l (Refused n) = l
log_by l (Read r) = l
log_by l (Write r x) = record {
  setup = setup_by l.setup (Write r x);
  filter = l.filter;
  readings = l.readings;
  events = cond (eqb r FLAG) (kept (flag_whole x) ∷ l.events) l.events;
}
log_by l (Act r) =
    let setup = setup_by l.setup (Act r) in
    cond (eqb r RST) (begun setup l.events)
    (record { setup = setup; filter = l.filter; readings = cond (eqb r PEAKRESET) (reset_peaks (latest l.readings) l.readings) l.readings; events = l.events })

abbrev pub note_sample : Log → ℤ → ℤ → ℕ → Log
note_sample l elec temp integrity = cond (bad_reading elec temp integrity) l (join l (kept_of l elec temp integrity))

abbrev pub note : Log → Call → Log
note l (reading elec temp integrity) = note_sample l elec temp integrity
note l (frame bytes room) = log_by l (judged bytes room l.setup.station)
note l report = l
note l (corner own samples) = let x : Sample = at samples own in cond (corner_refused samples) l (join l (kept_of l x.elec x.temp x.integrity))
-- "the exact value begins at this rounded TEMP" (Change 8)
note l (probe elec resistance integrity) = cond (is_beyond resistance) l (note_sample l elec (temp_of resistance) integrity)

abbrev pub noted : Log → List Call → Log
noted l [] = l
noted l (c ∷ cs) = noted (note l c) cs

abbrev pub log_of : List ℕ → ℕ → List Call → Log
log_of sheet station calls = noted (begun (setup_of sheet station) []) calls
