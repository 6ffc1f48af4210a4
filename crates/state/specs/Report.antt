-- "The report after a reading is four floats: SYS, PEAK, TROF and CELL." (01, "The reading")
use Rattle.std.specs.Prelude.{cond, Result, Ok, Err}
use Rattle.binary32.specs.Sent.{step_float, whole_float}
use Rattle.refusal.specs.Refusal.{number}
use Rattle.refusal.specs.declared.Refusal.{Refusal}
use Rattle.state.specs.declared.Readings.{Readings}
use Rattle.state.specs.declared.reporting.Report.{Report}
use Rattle.state.specs.declared.reporting.Reported.{Reported}

abbrev pub floats_of : Readings → Report
floats_of r = record { sys = step_float r.values.sys; peak = step_float r.peak; trof = step_float r.trof; cell = step_float r.values.cell }

-- "Beside a refusal each value .. is 0"
abbrev pub no_report : Report
no_report = record { sys = whole_float 0; peak = whole_float 0; trof = whole_float 0; cell = whole_float 0 }

-- 10: a "report .. before the first reading since start or RST"
unfoldable pub report_of : Readings → Reported
report_of r = cond r.any (record { number = 0; report = floats_of r }) (record { number = 10; report = no_report })

-- a report or its refusal, as C is given it
abbrev pub reported : Result Report Refusal → Reported
reported (Ok report) = record { number = 0; report = report }
reported (Err refusal) = record { number = number refusal; report = no_report }
