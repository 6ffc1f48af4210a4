-- One point behind the other. Assumes nothing.
use Rattle.std.proofs.Common.{◌≡◌, ◌+◌, ◌*◌, add-one, arith}
use Rattle.std.proofs.Math.Nat.{mul-suc}
use Rattle.integers.proofs.Puts.{◌then◌, reads}
use Rattle.sheet_writer.proofs.Pieces.{points-bytes-next}
use Rattle.sheet_writer.proofs.put_points.Goals as goal

pub loop-point-preserved : goal.loop-point-preserved
loop-point-preserved g c =
    let i = c.loop-point.point-index in
    let size = g.P.SheetPoint.SIZE in
    let more : size * (i + 1) ≡ size * i + size = rw add-one (mul-suc size i) in
    rw c.SIZE-next.ensures (record {
      put = reads (points-bytes-next g.P.Point.unused g.P.WrittenPoint.point_bytes c.args.points.now i c.point-item.result (omega arith) c.point-item.is) (c.loop-point.invariant.put then c.put.ensures);
      next = omega arith;
    })
