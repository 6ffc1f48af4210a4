-- `register::is_listed` meets its contract: over the last ranges of numbers by one computed test, which the search for the others
-- gives up. Assumes nothing.
use mathlib.Core.Path.{ap}
use mathlib.Core.Bool.{true, false}
use Prim.Native.Nat.{◌+◌}
use native.Mathlib.Omega.{arith}
use Rattle.register.specs.Number.{RST, PEAKRESET, CTN}
use Rattle.register.specs.Register.{listed, access_of}
use Rattle.register.proofs.Registers.{past-last, listed-over}
use Rattle.register.proofs.is_listed.Goals as goal

pub returns-in_default-11 : goal.returns-in_default-11
unfolding access_of
returns-in_default-11 c = listed-over false 2 (RST + 1) tt c.args.register (omega arith) (omega arith)

pub returns-in_default-12 : goal.returns-in_default-12
unfolding access_of
returns-in_default-12 c = listed-over false 5 (PEAKRESET + 1) tt c.args.register (omega arith) (omega arith)

pub returns-in_default-13 : goal.returns-in_default-13
unfolding access_of
returns-in_default-13 c = ap listed (past-last c.args.register (omega arith))

pub returns-in-6-13 : goal.returns-in-6-13
unfolding access_of
returns-in-6-13 c = listed-over true 16 CTN tt c.args.register (omega arith) (omega arith)
