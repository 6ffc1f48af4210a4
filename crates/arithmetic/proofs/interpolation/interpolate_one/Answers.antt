-- `interpolate_one` meets its contract: the line between the points around t. Assumes nothing.
use mathlib.Core.Path.{◌∙◌}
use mir.Syntax.{w64}
use mir.ValLaws.{to_z-of_z}
use Rattle.arithmetic.specs.Table.{between}
use Rattle.arithmetic.proofs.interpolation.interpolate_one.Goals as goal

pub returns-in-Between : goal.returns-in-Between
unfolding between
returns-in-Between g c =
    let x1 = to_z-of_z w64 c.place.result (record { sfits = c.place.type_inv }) ∙ c.place.ensures in
    let v1 = to_z-of_z w64 c.value-in-Between.result (record { sfits = c.value-in-Between.type_inv }) ∙ c.value-in-Between.ensures in
    let x2 = to_z-of_z w64 c.place-in-Between.result (record { sfits = c.place-in-Between.type_inv }) ∙ c.place-in-Between.ensures in
    let v2 = to_z-of_z w64 c.value-in-Between-2.result (record { sfits = c.value-in-Between-2.type_inv }) ∙ c.value-in-Between-2.ensures in
    to_z-of_z w64 _ (record { sfits = c.line_at.type_inv })
    ∙ (rw (x1, v1, x2, v2, to_z-of_z w64 _ c.ranges.t) at c.line_at.ensures)
    ∙ (rw (to_z-of_z w64 _ c.ranges.t) at c.in-Between.ensures.values 1)
