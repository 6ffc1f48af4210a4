-- 17: "unfit copy, for register 99", where a sheet with the copy's figures would not be accepted (Change 1).
use Rattle.std.specs.Prelude.{cond, Result, Ok, Err}
use Rattle.refusal.specs.declared.Refusal.{Refusal}
use Rattle.refusal.specs.declared.Refusal.TheVariants.{UnfitCopy}
use Rattle.in_force.specs.declared.Setup.{Setup}
use Rattle.in_force.specs.InForce.{copy_fits}

abbrev pub fits : Setup → Result Unit Refusal
fits s = cond (copy_fits s) (Ok tt) (Err UnfitCopy)
