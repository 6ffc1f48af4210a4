-- The first point with a fault. Assumes nothing.
use Rattle.std.proofs.Common.{ℕ, ◌+◌, ◌*◌, length, sym, ◌∙◌, arith}
use Rattle.sheet.specs.Judge.{short_of}
use Rattle.sheet.proofs.Chain.{points-fault}
use Rattle.refusal.proofs.Numbers.{number_above, refused}
use Rattle.sheet.proofs.judgement.judge_points.Goals as goal

pub returns-in_err-judge : goal.returns-in_err-judge
returns-in_err-judge g c =
    let e = rw (c.after.ensures, c.SIZE.ensures) at c.in_err-judge.ensures in
    let refusal = c.in_err-judge.field-0.0 in
    let point = λ (i : ℕ). g.P.SheetPoint.point_number (short_of c.args.place.room) (c.args.place.at + g.P.SheetPoint.SIZE * i) c.args.points.now i in
    let first = points-fault point c.loop-i.i (length c.args.points.now) (omega arith) c.loop-i.invariant (omega (arith, e, number_above refusal)) in
    refused c.from_residual.result refusal c.from_residual.ensures.1 ∙ e ∙ sym first
