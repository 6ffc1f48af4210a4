-- `in_force::zero_steps` meets its contract. Assumes nothing.
use mathlib.Core.Path.{◌≡◌}
use Rattle.integers.proofs.Machine.{held}
use Rattle.binary32.specs.ForCode.{Computable}
use Rattle.binary32.specs.declared.received.Range.{Range}
use Rattle.register.specs.Number.{SZ}
use Rattle.register.specs.Register.{range_of}
use Rattle.register.proofs.Registers.{range-computable}
use Rattle.in_force.proofs.zero_steps.Goals as goal

of_range : {r : Range} → r ≡ range_of SZ → Computable r
of_range e = rw e (range-computable SZ)

pub count-requires : goal.count-requires
count-requires c = of_range c.range_of.ensures

pub returns : goal.returns
returns c = rw c.range_of.ensures at (held c.count.type_inv c.count.ensures)
