-- The calls on a device, and what each makes of it (01).
use Rattle.std.specs.Prelude.{cond, List, [], ◌∷◌, ℕ, ℤ}
use Rattle.probe.specs.Probe.{is_beyond, temp_of}
use Rattle.modbus.specs.Frame.{judged}
use Rattle.modbus.specs.Judgement.{Frame}
use Rattle.modbus.specs.Reply.{value_reply, write_reply, exception_reply}
use Rattle.state.specs.Reading.{bad_reading, state_after_reading}
use Rattle.in_force.specs.InForce.{setup_by}
use Rattle.state.specs.Request.{state_by}
use Rattle.answers.specs.Register.{answer_of, number_of}
use Rattle.state.specs.Report.{report_of}
use Rattle.converter.specs.Corner.{Corner, at, corner_refused}
use Rattle.converter.specs.declared.corner.Sample.{Sample}
use Rattle.converter.specs.declared.corner.Samples.{Samples}
use Rattle.converter.specs.declared.Device.{Device}
use Rattle.answers.specs.Answer.{Answer}
use Rattle.answers.specs.Answer.{Value, Done, Refused}

-- a call: its arguments alone. `room` is the length of the reply buffer.
pub data Call : Type 0 where
  reading : (elec temp : ℤ) (integrity : ℕ) → Call
  frame : (bytes : List ℕ) (room : ℕ) → Call
  report : Call
  -- "In demand 3's lists this call counts, for each device, as its corner's reading, refused if the call is." (Change 4)
  corner : (own : Corner) (samples : Samples) → Call
  -- "A second reading call takes resistance, in 0.0001 ohm, in place of TEMP, and is otherwise a reading, in demand 3's lists too" (Change 8)
  probe : (elec resistance : ℤ) (integrity : ℕ) → Call

-- a judged frame is obeyed
abbrev pub obeyed : Device → Frame → Device
obeyed d f = record { setup = setup_by d.setup f; state = state_by d.state f }

-- ---- the device after a call, and after a list of them: "Each call gets the device that the last gave back"

abbrev pub after_reading : Device → ℤ → ℤ → ℕ → Device
after_reading d elec temp integrity = record { setup = d.setup; state = state_after_reading d.setup.figures d.state elec temp integrity }

abbrev pub after_sample : Device → ℤ → ℤ → ℕ → Device
after_sample d elec temp integrity = cond (bad_reading elec temp integrity) d (after_reading d elec temp integrity)

abbrev pub after_call : Device → Call → Device
after_call d (reading elec temp integrity) = after_sample d elec temp integrity
after_call d (frame bytes room) = obeyed d (judged bytes room d.setup.station)
after_call d report = d
after_call d (corner own samples) = let x : Sample = at samples own in cond (corner_refused samples) d (after_reading d x.elec x.temp x.integrity)
after_call d (probe elec resistance integrity) = cond (is_beyond resistance) d (after_sample d elec (temp_of resistance) integrity)

abbrev pub run : Device → List Call → Device
run d [] = d
run d (c ∷ cs) = run (after_call d c) cs

-- ---- the number that a call gives, and a frame's reply

unfoldable pub answer_to_bytes : Device → List ℕ → ℕ → Answer
answer_to_bytes d bytes room = answer_of d.state d.setup (judged bytes room d.setup.station)

abbrev pub sample_number : ℤ → ℤ → ℕ → ℕ
sample_number elec temp integrity = cond (bad_reading elec temp integrity) 9 0

abbrev pub number : Device → Call → ℕ
number d (reading elec temp integrity) = sample_number elec temp integrity
number d (frame bytes room) = number_of (answer_to_bytes d bytes room)
number d report = (report_of d.state.readings).number
number d (corner own samples) = cond (corner_refused samples) 18 0
-- "(Number 20, probe, before 9 ..)"
number d (probe elec resistance integrity) = cond (is_beyond resistance) 20 (sample_number elec (temp_of resistance) integrity)

-- the reply's bytes, none where the device is silent
abbrev pub reply_with : List ℕ → ℕ → Answer → List ℕ
reply_with bytes room (Value x) = value_reply bytes room x
reply_with bytes room Done = write_reply bytes room
reply_with bytes room (Refused n) = exception_reply bytes room n

abbrev pub reply : Device → List ℕ → ℕ → List ℕ
reply d bytes room = reply_with bytes room (answer_to_bytes d bytes room)
