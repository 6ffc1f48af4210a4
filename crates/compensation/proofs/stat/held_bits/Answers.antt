-- `held_bits` meets its contract: moved up, unmoved, moved down (StatBits.antt). Assumes nothing.
use mathlib.Core.Path.{◌≡◌, sym}
use lib.Signed.{◌<ℤ◌}
use mir.ValLaws.{to_z-of_z}
use Rattle.std.specs.Cmp.{int_ranks}
use Rattle.compensation.proofs.StatBits.{unmoved-none, raised-under, lowered-over}
use Rattle.compensation.proofs.stat.held_bits.Goals as goal

pub returns-in-Less : goal.returns-in-Less
returns-in-Less c =
    let s = c in
    let e = simp (to_z-of_z, s.ranges.raw, s.ranges.held) at c.in-Less.ensures in
    let l : s.args.raw <ℤ s.args.held = rw (sym e) at (int_ranks s.args.raw s.args.held) in
    raised-under s.args.under s.args.over l

pub returns-in-Equal : goal.returns-in-Equal
returns-in-Equal c =
    let s = c in
    let e = simp (to_z-of_z, s.ranges.raw, s.ranges.held) at c.in-Equal.ensures in
    let l : s.args.raw ≡ s.args.held = rw (sym e) at (int_ranks s.args.raw s.args.held) in
    unmoved-none s.args.under s.args.over l

pub returns-in-Greater : goal.returns-in-Greater
returns-in-Greater c =
    let s = c in
    let e = simp (to_z-of_z, s.ranges.raw, s.ranges.held) at c.in-Greater.ensures in
    let l : s.args.held <ℤ s.args.raw = rw (sym e) at (int_ranks s.args.raw s.args.held) in
    lowered-over s.args.under s.args.over l
