-- `interpolate_two` meets its contract: both lines between the points around t. Assumes nothing.
use mathlib.Core.Path.{◌≡◌, ◌∙◌}
use mathlib.Core.List.{List}
use lib.IntN.{ℤ}
use mir.Syntax.{w64}
use mir.ValLaws.{to_z-of_z}
use Rattle.arithmetic.specs.Table.{Point, between, interpolated}
use Rattle.arithmetic.specs.Two.{interpolated_two}
use Rattle.arithmetic.proofs.interpolation.interpolate_two.Goals as goal

both : (table : List Point) (t : ℤ) {v w : ℤ} → v ≡ interpolated 1 table t → w ≡ interpolated 2 table t → record { first = v; second = w } ≡ interpolated_two table t
both table t e f = rw (e, f)

pub returns-in-Between : goal.returns-in-Between
unfolding between
returns-in-Between g c =
    let t1 = to_z-of_z w64 c.place.result (record { sfits = c.place.type_inv }) ∙ c.place.ensures in
    let v1 = to_z-of_z w64 c.value-in-Between.result (record { sfits = c.value-in-Between.type_inv }) ∙ c.value-in-Between.ensures in
    let t2 = to_z-of_z w64 c.place-in-Between.result (record { sfits = c.place-in-Between.type_inv }) ∙ c.place-in-Between.ensures in
    let v2 = to_z-of_z w64 c.value-in-Between-2.result (record { sfits = c.value-in-Between-2.type_inv }) ∙ c.value-in-Between-2.ensures in
    let u1 = to_z-of_z w64 c.place-in-Between-2.result (record { sfits = c.place-in-Between-2.type_inv }) ∙ c.place-in-Between-2.ensures in
    let w1 = to_z-of_z w64 c.value-in-Between-3.result (record { sfits = c.value-in-Between-3.type_inv }) ∙ c.value-in-Between-3.ensures in
    let u2 = to_z-of_z w64 c.place-in-Between-3.result (record { sfits = c.place-in-Between-3.type_inv }) ∙ c.place-in-Between-3.ensures in
    let w2 = to_z-of_z w64 c.value-in-Between-4.result (record { sfits = c.value-in-Between-4.type_inv }) ∙ c.value-in-Between-4.ensures in
    both _ c.args.t
    (to_z-of_z w64 _ (record { sfits = c.line_at.type_inv })
    ∙ (rw (t1, v1, t2, v2, to_z-of_z w64 _ c.ranges.t) at c.line_at.ensures)
    ∙ (rw (to_z-of_z w64 _ c.ranges.t) at c.in-Between.ensures.values 1))
    (to_z-of_z w64 _ (record { sfits = c.line_at-in-Between.type_inv })
    ∙ (rw (u1, w1, u2, w2, to_z-of_z w64 _ c.ranges.t) at c.line_at-in-Between.ensures)
    ∙ (rw (to_z-of_z w64 _ c.ranges.t) at c.in-Between.ensures.values 2))
