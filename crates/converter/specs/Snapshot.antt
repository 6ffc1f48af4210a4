-- SYSN by the calls alone (01, "The bus"): "SNAP copies SYS to SYSN. RST forgets readings, snapshot and filter." The log does nothing on
-- SNAP, so this goes beside it: SYS at the last accepted SNAP since start or RST, if there was one. 10 is judged by the log.
use Rattle.std.specs.Prelude.{cond, List, [], ◌∷◌, ℕ, eqb, ℤ}
use Rattle.std.proofs.Math.Option.{Option, none, some}
use Rattle.modbus.specs.Frame.{judged}
use Rattle.modbus.specs.Judgement.{Frame, Refused, Read, Write, Act}
use Rattle.converter.specs.Making.{setup_of}
use Rattle.converter.specs.Call.{Call, reading, frame, report, corner, probe}
use Rattle.converter.specs.Log.{Kept, valued, Log, latest, begun, note}

-- by the last reading kept
abbrev pub snap_by : Option Kept → Option ℤ → Option ℤ
snap_by none sysn = sysn
snap_by (some k) sysn = some (valued k).sys

-- "RST 100, SNAP 103"
abbrev pub shot_by : Log → Option ℤ → Frame → Option ℤ
shot_by l sysn (Refused n) = sysn
shot_by l sysn (Read r) = sysn
shot_by l sysn (Write r x) = sysn
shot_by l sysn (Act r) = cond (eqb r 100) none (cond (eqb r 103) (snap_by (latest l.readings) sysn) sysn)

abbrev pub shot : Log → Option ℤ → Call → Option ℤ
shot l sysn (reading elec temp integrity) = sysn
shot l sysn (frame bytes room) = shot_by l sysn (judged bytes room l.setup.station)
shot l sysn report = sysn
shot l sysn (corner own samples) = sysn
shot l sysn (probe elec resistance integrity) = sysn

abbrev pub shots : Log → Option ℤ → List Call → Option ℤ
shots l sysn [] = sysn
shots l sysn (c ∷ cs) = shots (note l c) (shot l sysn c) cs

abbrev pub sysn_of : List ℕ → ℕ → List Call → Option ℤ
sysn_of sheet station calls = shots (begun (setup_of sheet station) []) none calls
