-- A register's range can be computed with.
use Rattle.vectors.proofs.Cases.{ranged}
use Rattle.vectors.proofs.received.is.Goals as goal

pub takes-requires : goal.takes-requires
takes-requires c = ranged _ c.range_of-range.ensures

pub count-requires : goal.count-requires
count-requires c = ranged _ c.range_of-range.ensures
