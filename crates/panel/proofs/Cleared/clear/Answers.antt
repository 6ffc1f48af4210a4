-- `clear` meets its contract: point by point, past the count and before it. Assumes nothing.
use mathlib.Core.Path.{◌≡◌, refl, ap, ◌∙◌}
use Prim.Native.Nat.{ℕ, suc, ◌+◌}
use native.Mathlib.Omega.{arith}
use lib.ListN.{length, set}
use Rattle.panel.proofs.Filled.{filled, filled-all, fills, keeps}
use Rattle.panel.proofs.Cleared.clear.Goals.{then-count-i, else-count-i}
use Rattle.panel.proofs.Cleared.clear.Goals as goal

pub loop-i-init : goal.loop-i-init
loop-i-init g c = (refl, refl)

pub loop-i-preserved : goal.loop-i-preserved
loop-i-preserved g c =
    let none = g.Self.Point.unused in
    let n = c.args.count in
    let i = c.loop-i.i in
    let l = c.args.points.now in
    let one : suc i ≡ i + 1 = omega arith in
    let next : filled none n (suc i) l ≡ filled none n (i + 1) l = ap (λ (k : ℕ). filled none n k l) one in
    let long = c.if-count-i.auto.points ∙ c.loop-i.auto.points in
    elim c.if-count-i.branch [
      | then-count-i w ↦
          let filling : set c.loop-i.points i w.unused.result ≡ filled none n (suc i) l = rw (c.loop-i.invariant.0, w.unused.ensures) (fills none n i l (omega arith) (omega arith)) in
          (w.points-is ∙ filling ∙ next, long)
      | else-count-i w ↦ (w.points-is ∙ c.loop-i.invariant.0 ∙ keeps none n i l (omega arith) ∙ next, long)
    ]

pub returns : goal.returns
returns g c =
    let none = g.Self.Point.unused in
    let l = c.args.points.now in
    let last : c.loop-i.i ≡ length l = omega arith in
    c.loop-i.invariant.0 ∙ ap (λ (k : ℕ). filled none c.args.count k l) last ∙ filled-all none c.args.count l
