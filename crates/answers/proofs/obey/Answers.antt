-- `obey` meets its contract: what holds of the definitions by the tests of a frame holds of what was done. Assumes nothing.
use Rattle.answers.proofs.Stored.{parted}
use Rattle.answers.proofs.obey.Goals as goal

pub returns-clause-parts : goal.returns-clause-parts
returns-clause-parts c = rw (c.answer.ensures.answer, c.answer.ensures.state, c.answer.ensures.setup) (parted c.args.state.now c.args.setup.now _)
