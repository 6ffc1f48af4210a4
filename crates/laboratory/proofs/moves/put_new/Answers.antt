-- The identity, and the sheet copied behind it. Assumes nothing.
use Rattle.integers.proofs.Puts.{◌then◌, at_front}
use Rattle.laboratory.proofs.moves.put_new.Goals as goal

pub returns : goal.returns
returns c = at_front (c.put_identity.ensures then c.copy.ensures)
