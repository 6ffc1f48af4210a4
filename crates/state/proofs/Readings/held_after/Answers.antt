-- `Readings::held_after` meets its contract: its callee's, at the readings. Assumes nothing.
use mathlib.Core.Path.{◌∙◌}
use mir.ValLaws.{to_z-of_z}
use Rattle.integers.proofs.Machine.{fits, known, held}
use Rattle.state.proofs.Remembered.{held-by}
use Rattle.state.proofs.Readings.held_after.Goals as goal

pub returns : goal.returns
returns c =
    let s = c in
    held c.filter_input.type_inv
    (simp (to_z-of_z, s.ranges.input, fits (known s.requires.previous_in) tt, fits (known s.requires.held_in) tt) at c.filter_input.ensures ∙ held-by s.args.filter s.args.self.now s.args.input)
