-- `Readings::peak_after` meets its contract: after a reading by std's `max`. Assumes nothing.
use mathlib.Core.Path.{◌∙◌}
use mir.Facts.{to_z-of_z}
use borrow.Author.Rules.{sfits_of}
use Rattle.integers.proofs.Machine.{held}
use Rattle.state.specs.Reading.{peak_after}
use Rattle.state.proofs.Extremes.{max_larger}
use Rattle.state.proofs.Readings.peak_after.Goals as goal

pub returns-then-self : goal.returns-then-self
unfolding peak_after
returns-then-self c = rw c.if-self.true (held c.max.type_inv c.max.ensures.value ∙ (search (to_z-of_z, sfits_of) ∙ max_larger c.args.self.now.peak c.args.values.sys))
