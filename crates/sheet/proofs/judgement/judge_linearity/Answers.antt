-- The count, then the points. Assumes nothing.
use Rattle.std.proofs.Common.{◌≡◌, ◌+◌, ◌≤◌, length, sym, refl, ◌∙◌, arith, rules}
use Rattle.sheet.specs.Judge.{linearity_number, short_of}
use Rattle.sheet.proofs.Chain.{then-none, pass}
use Rattle.sheet.proofs.Numbers.{count-in}
use Rattle.sheet.proofs.Front.{linearity-front}
use Rattle.sheet.proofs.judgement.judge_linearity.Goals as goal

pub shared_ref_as_front-judge_points : goal.shared_ref_as_front-judge_points
shared_ref_as_front-judge_points c = (count-in 2 7 c.args.linearity.cln (then-none {a = short_of c.args.place.room (c.args.place.at + 1)} (sym c.in_ok-count.ensures)).1).1

pub returns : goal.returns
unfolding linearity_number
returns c =
    let few : c.args.linearity.cln ≤ 7 = (count-in 2 7 c.args.linearity.cln (then-none {a = short_of c.args.place.room (c.args.place.at + 1)} (sym c.in_ok-count.ensures)).1).1 in
    let all : length c.args.linearity.points ≡ 7 = search rules in
    pass c.in_ok-count.ensures refl ((rw c.after.ensures at c.judge_points.ensures) ∙ linearity-front (short_of c.args.place.room) (c.args.place.at + 1) c.args.linearity.cln c.args.linearity.points (omega arith))
