-- Invariant: the points before are written. Assumes nothing.
use Rattle.std.proofs.Common.{◌≡◌, ◌+◌, ◌*◌}
use Rattle.integers.specs.Bytes.{Put}
use Rattle.sheet.specs.Write.{points_bytes}
use Rattle.sheet_writer.proofs.put_points.Given as goal

abbrev pub invariant-loop-point : goal.invariant-loop-point
invariant-loop-point g l = record {
  put : Put (points_bytes g.P.Point.unused g.P.WrittenPoint.point_bytes l.points l.point-index) l.fn.out l.at l.out l.next;
  next : l.next ≡ l.at + g.P.SheetPoint.SIZE * l.point-index;
}
