-- `locate` meets its contract: t lies past the first k points. Assumes nothing.
use native.Mathlib.Omega.{arith}
use lib.ListN.{length-take}
use mir.Syntax.{w64}
use mir.ValLaws.{to_z-of_z}
use Rattle.std.proofs.lemmas.List.{length-map}
use Rattle.arithmetic.proofs.Rows.{read, value-first, passed_first, value-last, passed-more, value-between, neighbouring}
use Rattle.arithmetic.proofs.interpolation.locate.Goals.{else-loop-k-test, then-loop-k-test+else-t-place-2+then-k-count}
use Rattle.arithmetic.proofs.interpolation.locate.Goals as goal

pub returns-then-t-place-clause-values : goal.returns-then-t-place-clause-values
returns-then-t-place-clause-values g c =
    let r = read g.P.Placed.point c.args.points.now c.args.count 0 c.index-points-0.result (omega arith) (omega arith) c.index-points-0.is in
    value-first c.args.t r (rw (to_z-of_z w64 _ c.ranges.t, to_z-of_z w64 c.place.result (record { sfits = c.place.type_inv }), c.place.ensures) at c.if-t-place.true)

pub loop-k-init : goal.loop-k-init
loop-k-init g c =
    let r = read g.P.Placed.point c.args.points.now c.args.count 0 c.index-points-0.result (omega arith) (omega arith) c.index-points-0.is in
    (omega arith, passed_first r (rw (to_z-of_z w64 c.place.result (record { sfits = c.place.type_inv }), c.place.ensures) at c.if-t-place.false))

pub returns-then-t-place-2-clause-values : goal.returns-then-t-place-2-clause-values
returns-then-t-place-2-clause-values g c =
    let r = read g.P.Placed.point c.args.points.now c.args.count c.loop-k.k c.index-points-k.result (omega arith) (omega arith) c.index-points-k.is in
    let a = rw (to_z-of_z w64 _ c.ranges.t) at c.loop-k.invariant.1 in
    value-between a r (rw (to_z-of_z w64 _ c.ranges.t, to_z-of_z w64 c.place-in-loop-k.result (record { sfits = c.place-in-loop-k.type_inv }), c.place-in-loop-k.ensures) at c.if-t-place-2.true)

pub returns-then-t-place-2-clause-lies : goal.returns-then-t-place-2-clause-lies
returns-then-t-place-2-clause-lies g c =
    let r = read g.P.Placed.point c.args.points.now c.args.count c.loop-k.k c.index-points-k.result (omega arith) (omega arith) c.index-points-k.is in
    let a = rw (to_z-of_z w64 _ c.ranges.t) at c.loop-k.invariant.1 in
    neighbouring a r (rw (to_z-of_z w64 _ c.ranges.t, to_z-of_z w64 c.place-in-loop-k.result (record { sfits = c.place-in-loop-k.type_inv }), c.place-in-loop-k.ensures) at c.if-t-place-2.true)

pub loop-k-preserved : goal.loop-k-preserved
loop-k-preserved g c =
    let r = read g.P.Placed.point c.args.points.now c.args.count c.loop-k.k c.index-points-k.result (omega arith) (omega arith) c.index-points-k.is in
    (omega arith, passed-more c.loop-k.invariant.1 r (rw (to_z-of_z w64 c.place-in-loop-k.result (record { sfits = c.place-in-loop-k.type_inv }), c.place-in-loop-k.ensures) at c.if-t-place-2.false))

pub returns-clause-values : goal.returns-clause-values
returns-clause-values g c =
    elim c.loop-k-test.branch [
      | else-loop-k-test w ↦
          let a = rw (to_z-of_z w64 _ c.ranges.t) at c.loop-k.invariant.1 in
          rw w.before-is (value-last a (simp (length-map, length-take) (omega arith)))
      | then-loop-k-test+else-t-place-2+then-k-count w ↦
          let r = read g.P.Placed.point c.args.points.now c.args.count c.loop-k.k w.index-points-k.result (omega arith) (omega arith) w.index-points-k.is in
          let e = rw (to_z-of_z w64 _ c.ranges.t, to_z-of_z w64 w.place-in-loop-k.result (record { sfits = w.place-in-loop-k.type_inv }), w.place-in-loop-k.ensures) at w.if-t-place-2.false in
          let a = rw (to_z-of_z w64 _ c.ranges.t) at c.loop-k.invariant.1 in
          rw w.before-is (value-last (passed-more a r e) (simp (length-map, length-take) (omega arith)))
    ]
