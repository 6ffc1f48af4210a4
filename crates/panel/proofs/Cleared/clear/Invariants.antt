-- Invariant: the points before i are filled. Assumes nothing.
use Rattle.std.proofs.Common.{◌≡◌, length}
use Rattle.panel.proofs.Filled.{filled}
use Rattle.panel.proofs.Cleared.clear.Given as goal

abbrev pub invariant-loop-i : goal.invariant-loop-i
invariant-loop-i g l = (l.points ≡ filled g.Self.Point.unused l.count l.i l.fn.points) × (length l.points ≡ length l.fn.points)
