-- A register's range can be computed with.
use Rattle.vectors.proofs.Cases.{ranged}
use Rattle.vectors.proofs.received.unfit.Goals as goal

pub takes-requires : goal.takes-requires
takes-requires c = ranged _ c.range_of.ensures
