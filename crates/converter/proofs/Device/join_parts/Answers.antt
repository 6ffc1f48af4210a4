-- `converter::Device::join_parts` meets its contract: steps 1 to 5, each by what those before it gave. Assumes nothing.
use mathlib.Core.Path.{ap}
use mir.ValLaws.{to_z-of_z}
use Rattle.integers.proofs.Machine.{held}
use Rattle.converter.specs.declared.Outcome.{Outcome}
use Rattle.converter.proofs.Entries.{filters, adjusts, corrects, scales, joins}
use Rattle.converter.proofs.Device.join_parts.Goals as goal

pub held_after-held-requires : goal.held_after-held-requires
held_after-held-requires c = rw (to_z-of_z _ _ c.ranges.elec) (filters c.requires.reached c.args.elec c.args.temp c.args.integrity c.requires.good)

pub input_at-input-requires : goal.input_at-input-requires
input_at-input-requires c = adjusts c.requires.reached c.args.elec c.args.temp c.args.integrity c.requires.good

pub cell_values-cell-requires : goal.cell_values-cell-requires
cell_values-cell-requires c =
    let h = held c.held_after-held.type_inv (simp (to_z-of_z, c.ranges.elec) at c.held_after-held.ensures) in
    let i = simp (to_z-of_z, c.ranges.temp) at c.input_at-input.ensures in
    corrects c.requires.reached c.args.elec c.args.temp c.args.integrity c.requires.good h i

pub values_from-values-requires : goal.values_from-values-requires
values_from-values-requires c =
    let h = held c.held_after-held.type_inv (simp (to_z-of_z, c.ranges.elec) at c.held_after-held.ensures) in
    let i = simp (to_z-of_z, c.ranges.temp) at c.input_at-input.ensures in
    scales c.requires.reached c.args.elec c.args.temp c.args.integrity c.requires.good h i c.cell_values-cell.ensures

pub returns : goal.returns
returns c =
    let h = held c.held_after-held.type_inv (simp (to_z-of_z, c.ranges.elec) at c.held_after-held.ensures) in
    let i = simp (to_z-of_z, c.ranges.temp) at c.input_at-input.ensures in
    let v = simp (to_z-of_z, c.ranges.temp) at c.values_from-values.ensures in
    let r = simp (to_z-of_z, c.ranges.elec) at c.remember.ensures in
    let s = simp (to_z-of_z, c.ranges.temp) at c.take.ensures in
    ap (λ (o : Outcome). o.device) (joins c.requires.reached c.args.elec c.args.temp c.args.integrity c.requires.good h i c.cell_values-cell.ensures v r s).is
