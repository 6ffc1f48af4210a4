-- `modbus::frame::write_asked` meets its contract: every register's range can be computed with. Assumes nothing.
use mathlib.Core.Logic.{inl}
use Rattle.register.proofs.Registers.{access-computable}
use Rattle.modbus.proofs.frame.write_asked.Goals as goal

pub write_of-requires : goal.write_of-requires
write_of-requires c = access-computable c.access_to.result _ (inl c.access_to.ensures)
