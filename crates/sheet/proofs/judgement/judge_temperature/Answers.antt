-- The count, then the points. Assumes nothing.
use Rattle.std.proofs.Common.{◌≡◌, ◌+◌, ◌≤◌, length, sym, refl, ◌∙◌, arith, rules}
use Rattle.sheet.specs.Judge.{temperature_number, short_of}
use Rattle.sheet.proofs.Chain.{then-none, pass}
use Rattle.sheet.proofs.Numbers.{count-in}
use Rattle.sheet.proofs.Front.{temperature-front}
use Rattle.sheet.proofs.judgement.judge_temperature.Goals as goal

pub shared_ref_as_front-judge_points : goal.shared_ref_as_front-judge_points
shared_ref_as_front-judge_points c = (count-in 2 5 c.args.temperature.ctn (then-none {a = short_of c.args.place.room (c.args.place.at + 1)} (sym c.in_ok-count.ensures)).1).1

pub returns : goal.returns
unfolding temperature_number
returns c =
    let few : c.args.temperature.ctn ≤ 5 = (count-in 2 5 c.args.temperature.ctn (then-none {a = short_of c.args.place.room (c.args.place.at + 1)} (sym c.in_ok-count.ensures)).1).1 in
    let all : length c.args.temperature.points ≡ 5 = search rules in
    pass c.in_ok-count.ensures refl ((rw c.after.ensures at c.judge_points.ensures) ∙ temperature-front (short_of c.args.place.room) (c.args.place.at + 1) c.args.temperature.ctn c.args.temperature.points (omega arith))
