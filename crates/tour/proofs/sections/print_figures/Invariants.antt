-- The cursor has got past as many.
use Rattle.std.proofs.Common.{◌≡◌}
use Rattle.sheet.specs.Step.{moved}
use Rattle.tour.specs.Contents.{figures_end}
use Rattle.tour.proofs.sections.print_figures.Given as goal

abbrev pub invariant-loop : goal.invariant-loop
invariant-loop g l = l.cursor ≡ moved l.initial.cursor (figures_end l.initial.cursor.sheet.now l.initial.cursor.at l.counter)
