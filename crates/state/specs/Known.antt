-- 10: "before the first reading since start or RST", of a report, a reading's register, SNAP and peak reset (01, "Turned-down calls").
use Rattle.std.specs.Prelude.{cond, Result, Ok, Err}
use Rattle.refusal.specs.declared.Refusal.{Refusal}
use Rattle.refusal.specs.declared.Refusal.TheVariants.{NoReading}
use Rattle.state.specs.declared.Readings.{Readings}

abbrev pub known : Readings → Result Unit Refusal
known r = cond r.any (Ok tt) (Err NoReading)
