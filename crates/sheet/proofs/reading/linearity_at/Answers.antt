-- linearityhe count, and as many points as the array has. Assumes nothing.
use Rattle.std.proofs.Common.{◌≡◌, ◌+◌, ◌≤◌, arith, rules}
use Rattle.figures.specs.Unused.{no_linearity}
use Rattle.sheet.specs.Read.{linearity_at, linearity_point_at}
use Rattle.sheet.proofs.Front.{front-unused, table-read}
use Rattle.sheet.proofs.reading.linearity_at.Goals as goal

pub read_points-requires : goal.read_points-requires
read_points-requires c =
    let u : c.unused-points.result ≡ no_linearity = search rules in
    let n : c.min-n.result ≤ 7 = omega arith in
    let f = front-unused no_linearity linearity_point_at 16 c.args.sheet.now (c.args.at + 1) 7 c.min-n.result n in
    rw u (omega arith, omega (arith, f.0), f.1)

pub returns : goal.returns
unfolding linearity_at
returns c =
    let u : c.unused-points.result ≡ no_linearity = search rules in
    let n : c.min-n.result ≤ 7 = omega arith in
    let p = table-read no_linearity linearity_point_at 16 c.args.sheet.now (c.args.at + 1) 7 c.min-n.result n (rw u at c.read_points.ensures) in
    rw (u, p, c.min-n.ensures, c.count_at-cln.ensures)
