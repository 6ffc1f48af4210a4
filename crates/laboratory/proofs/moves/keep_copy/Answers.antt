-- What was put at the front. Assumes nothing.
use Rattle.integers.proofs.Puts.{at_front}
use Rattle.laboratory.proofs.moves.keep_copy.Goals as goal

pub returns : goal.returns
returns c = at_front c.copy.ensures
