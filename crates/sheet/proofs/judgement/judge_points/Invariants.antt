-- Invariant: no point before has a fault. Assumes nothing.
use Rattle.std.proofs.Common.{◌≡◌, ◌+◌, ◌*◌}
use Rattle.sheet.specs.Judge.{short_of, points_number}
use Rattle.sheet.proofs.judgement.judge_points.Given as goal

abbrev pub invariant-loop-i : goal.invariant-loop-i
invariant-loop-i g l = points_number (λ j. g.P.SheetPoint.point_number (short_of l.place.room) (l.place.at + g.P.SheetPoint.SIZE * j) l.points j) l.i ≡ 0
