-- The cursor has got past as many.
use Rattle.std.proofs.Common.{◌≡◌}
use Rattle.sheet.specs.Step.{moved}
use Rattle.tour.specs.Contents.{points_end}
use Rattle.tour.proofs.sections.print_points.Given as goal

abbrev pub invariant-loop : goal.invariant-loop
invariant-loop g l = l.cursor ≡ moved l.initial.cursor (points_end l.initial.cursor.sheet.now l.initial.cursor.at l.each l.counter)
