-- temperaturehe count, then the points. Assumes nothing.
use Rattle.std.proofs.Common.{◌≡◌, length, take, arith, rules, length-take-le}
use Rattle.figures.specs.Unused.{no_temperature}
use Rattle.integers.proofs.Puts.{◌then◌}
use Rattle.sheet.specs.Write.{temperature_bytes, temperature_point_bytes}
use Rattle.sheet_writer.proofs.Pieces.{store, points-front}
use Rattle.sheet_writer.proofs.put_temperature.Goals as goal

pub returns : goal.returns
unfolding temperature_bytes
returns c =
    let n = c.args.temperature.ctn in
    let points = c.args.temperature.points in
    let all : length points ≡ 5 = search rules in
    let l : length (take n points) ≡ n = length-take-le n points (omega arith) in
    store c.args.out.now c.args.at n (omega arith) then (rw (l, points-front no_temperature temperature_point_bytes points n n (omega arith)) at c.put_points.ensures)
