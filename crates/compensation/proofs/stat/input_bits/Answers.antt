-- `input_bits` meets its contract: no bits within the ranges and without a fault, else its callees', put together. Assumes nothing.
use mathlib.Core.Path.{◌≡◌, sym, ◌∙◌}
use mir.ValLaws.{to_z-of_z}
use Rattle.compensation.specs.Stat.{range, temp_under, temp_over, elec_under, elec_over}
use Rattle.compensation.specs.ForCode.{input_bits}
use Rattle.compensation.proofs.StatBits.{inside-none}
use Rattle.compensation.proofs.stat.input_bits.Goals as goal

pub returns-then-integrity-eq0 : goal.returns-then-integrity-eq0
unfolding input_bits
returns-then-integrity-eq0 c =
    let s = c in
    let of-temp : range temp_under temp_over s.args.temp 4 8 ≡ 0 = inside-none temp_under temp_over s.args.temp 4 8 (sym (simp (to_z-of_z, s.ranges.temp) at c.is_within.ensures) ∙ c.if-is_within.true) in
    let of-elec : range elec_under elec_over s.args.elec 16 32 ≡ 0 = inside-none elec_under elec_over s.args.elec 16 32 (sym (simp (to_z-of_z, s.ranges.elec) at c.is_within-then-is_within.ensures) ∙ c.if-is_within-2.true) in
    rw (of-temp, of-elec, c.if-integrity-eq0.true)

pub returns : goal.returns
unfolding input_bits
returns c =
    let s = c in
    let of-temp = simp (to_z-of_z, s.ranges.temp) at c.range_bits-of_temp.ensures in
    let of-elec = simp (to_z-of_z, s.ranges.elec) at c.range_bits-of_elec.ensures in
    rw (of-temp, of-elec, c.weight_if.ensures)
