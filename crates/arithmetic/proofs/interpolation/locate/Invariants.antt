-- `locate` meets its contract. The loop's invariant: t lies past the first k points, of which `before` is the last.
use mathlib.Core.List.{map}
use Prim.Native.Nat.{◌<◌}
use lib.ListN.{take}
use Rattle.arithmetic.proofs.Rows.{Passed}
use Rattle.arithmetic.proofs.interpolation.locate.Given as goal

abbrev pub invariant-loop-k : goal.invariant-loop-k
invariant-loop-k g l = (l.k < l.count) × Passed (map g.P.Placed.point (take l.count l.points)) l.t l.k (g.P.Placed.point l.before)
