-- Invariant: the points before are filled in. Assumes nothing.
use Rattle.std.proofs.Common.{◌≡◌, length}
use Rattle.sheet.specs.Read.{points_at}
use Rattle.sheet.proofs.reading.read_points.Given as goal

abbrev pub invariant-loop-i : goal.invariant-loop-i
invariant-loop-i g l = l.points ≡ points_at g.P.Point.unused g.P.SheetPoint.point_at g.P.SheetPoint.SIZE (length l.fn.points) l.sheet l.at l.i
