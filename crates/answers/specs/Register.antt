-- What a frame is answered with, and the registers as they read (01, "The bus"; Change 1).
use Rattle.std.specs.Prelude.{cond, ℕ, eqb, leb, ℤ, pos, Float}
use Rattle.binary32.specs.Sent.{step_float, whole_float}
use Rattle.register.specs.Number.{STAT, SOUT, SYS, TEMP, SRAW, CELL, FLAG, CRAW, ELEC, SZ, SYSN, PEAK, TROF, CGAI, APPLY, RST}
use Rattle.modbus.specs.Judgement as frame
use Rattle.modbus.specs.Judgement.{Frame, Read, Write, Act}
use Rattle.figures.specs.declared.Calibration.{Calibration}
use Rattle.panel.specs.Figure.{is_figure, figure_float}
use Rattle.in_force.specs.InForce.{copy_fits}
use Rattle.in_force.specs.declared.Setup.{Setup}
use Rattle.state.specs.declared.Readings.{Readings}
use Rattle.state.specs.declared.State.{State}
use Rattle.answers.specs.Answer.{Answer}
use Rattle.answers.specs.Answer.{Value, Done, Refused}

-- "SOUT 9 and SYS 10 (equal), TEMP 11, SRAW 12, CELL 13, .. CRAW 15, ELEC 16, .. PEAK 24, TROF 25": those of a reading that
-- count in steps, and no other
unfoldable pub steps_at : Readings → ℕ → ℤ
steps_at r n =
    cond (eqb n SOUT) r.values.sys
    (cond (eqb n SYS) r.values.sys
    (cond (eqb n TEMP) r.temp
    (cond (eqb n SRAW) r.values.sraw
    (cond (eqb n CELL) r.values.cell
    (cond (eqb n CRAW) r.values.craw
    (cond (eqb n ELEC) r.elec
    (cond (eqb n PEAK) r.peak
    (cond (eqb n TROF) r.trof
    (pos 0)))))))))

-- "STAT and FLAG go as floats of their whole numbers."
unfoldable pub reading_float : Readings → ℕ → Float
reading_float r n = cond (eqb n STAT) (whole_float r.values.stat) (step_float (steps_at r n))

-- 10: "a reading's value .. before the first reading since start or RST"
unfoldable pub reading_at : Readings → ℕ → Answer
reading_at r n = cond r.any (Value (reading_float r n)) (Refused 10)

-- A listed register from CGAI on: "Reads show that copy at all times"; the actions, of which "reading .. gives 0.0 at any time",
-- "register 99 reads 0.0".
unfoldable pub panel_at : Calibration → ℕ → Answer
panel_at copy n = Value (cond (is_figure n) (figure_float copy n) (whole_float 0))

-- A listed register. "FLAG and SZ read at all times"; SYSN is 11 "with none taken".
unfoldable pub register_at : State → ℤ → Calibration → ℕ → Answer
register_at s sz copy n =
    cond (leb CGAI n) (panel_at copy n)
    (cond (eqb n FLAG) (Value (whole_float s.flag))
    (cond (eqb n SZ) (Value (step_float sz))
    (cond (eqb n SYSN) (cond s.snapshot.taken (Value (step_float s.snapshot.sysn)) (Refused 11))
    (reading_at s.readings n))))

-- 10 for SNAP and peak reset
unfoldable pub on_reading : State → Answer
on_reading s = cond s.readings.any Done (Refused 10)

-- 17: "unfit copy, for register 99"
unfoldable pub on_copy : Setup → Answer
on_copy s = cond (copy_fits s) Done (Refused 17)

-- RST needs nothing, 99 a copy that fits, SNAP and peak reset a reading
unfoldable pub answer_of : State → Setup → Frame → Answer
answer_of s setup (frame.Refused n) = Refused n
answer_of s setup (Read n) = register_at s setup.figures.system.sz setup.copy n
answer_of s setup (Write r x) = Done
answer_of s setup (Act r) = cond (eqb r RST) Done (cond (eqb r APPLY) (on_copy setup) (on_reading s))

-- An answer's number: "An accepted call gives 0".
abbrev pub number_of : Answer → ℕ
number_of (Value x) = 0
number_of Done = 0
number_of (Refused n) = n
