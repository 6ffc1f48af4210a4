-- `answers::panel_at` meets its contract: an action reads 0.0. Assumes nothing.
use mathlib.Core.Path.{sym, ◌∙◌}
use lib.Ieee.{of_int, of_bits}
use Rattle.answers.specs.Register.{panel_at}
use Rattle.answers.proofs.panel_at.Goals as goal

pub returns-else-is_figure : goal.returns-else-is_figure
unfolding panel_at of_int of_bits
returns-else-is_figure c = simp (sym c.is_figure.ensures ∙ c.if-is_figure.false)
