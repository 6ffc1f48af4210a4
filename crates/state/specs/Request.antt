-- What a frame makes of a device but for its figures (01, "The bus"): "SNAP copies SYS to SYSN. RST forgets readings, snapshot and
-- filter." And of FLAG, "RST shall now add REBOOT to FLAG and clear nothing; only a write to FLAG clears." (Change 7)
use Rattle.std.specs.Prelude.{true, false, cond, ℕ, eqb, Float, pos, nat_abs}
use Rattle.std.specs.Int.Bits.{bit_and, bit_or}
use Rattle.compensation.specs.declared.steps.Values.{Values}
use Rattle.binary32.specs.Received.{counted}
use Rattle.register.specs.Number.{FLAG, RST, SNAP, PEAKRESET}
use Rattle.register.specs.Register.{range_of}
use Rattle.modbus.specs.Judgement.{Frame, Refused, Read, Write, Act}
use Rattle.state.specs.declared.Readings.{Readings}
use Rattle.state.specs.declared.Snapshot.{Snapshot}
use Rattle.state.specs.declared.State.{State}

-- where there is no reading, its fields are 0
abbrev pub no_values : Values
no_values = record { craw = pos 0; cell = pos 0; sraw = pos 0; sys = pos 0; stat = 0 }

abbrev pub no_readings : Readings
no_readings = record { any = false; input = pos 0; elec = pos 0; temp = pos 0; values = no_values; peak = pos 0; trof = pos 0 }

abbrev pub no_snapshot : Snapshot
no_snapshot = record { taken = false; sysn = pos 0 }

abbrev pub reboot : ℕ
reboot = 32768

-- "a start .. clears all, then raises 32768 (REBOOT)"
unfoldable pub fresh : State
fresh = record { readings = no_readings; flag = reboot; snapshot = no_snapshot }

-- "RST shall now add REBOOT to FLAG and clear nothing" (Change 7)
unfoldable pub restarted : State → State
restarted s = record { readings = no_readings; flag = bit_or s.flag reboot; snapshot = no_snapshot }

-- SNAP, and a peak reset, "which sets both to the present SYS"; 10 "before the first reading since start or RST"
unfoldable pub snapped : State → State
snapped s =
    cond s.readings.any
    (record { readings = s.readings; flag = s.flag; snapshot = record { taken = true; sysn = s.readings.values.sys } })
    s

abbrev pub peaks_at : Readings → Readings
peaks_at r = record { any = r.any; input = r.input; elec = r.elec; temp = r.temp; values = r.values; peak = r.values.sys; trof = r.values.sys }

unfoldable pub peaks_reset : State → State
peaks_reset s = cond s.readings.any (record { readings = peaks_at s.readings; flag = s.flag; snapshot = s.snapshot }) s

-- the actions; 99 is none of the state
unfoldable pub acted : State → ℕ → State
acted s r = cond (eqb r RST) (restarted s) (cond (eqb r SNAP) (snapped s) (cond (eqb r PEAKRESET) (peaks_reset s) s))

-- "FLAG takes whole 0 to 65,535"
abbrev pub flag_whole : Float → ℕ
flag_whole x = nat_abs (counted (range_of FLAG) x)

-- "a FLAG write clears the bits it lacks"
unfoldable pub flagged : State → ℕ → Float → State
flagged s r x = cond (eqb r FLAG) (record { readings = s.readings; flag = bit_and s.flag (flag_whole x); snapshot = s.snapshot }) s

unfoldable pub state_by : State → Frame → State
state_by s (Refused n) = s
state_by s (Read r) = s
state_by s (Write r x) = flagged s r x
state_by s (Act r) = acted s r
