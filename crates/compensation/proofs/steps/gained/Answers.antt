-- `gained` meets its contract: no step leaves an i64. Assumes nothing.
use mathlib.Core.Path.{◌∙◌, ap₂}
use mir.Syntax.{w64}
use mir.ValLaws.{to_z-of_z}
use Rattle.integers.proofs.Machine.{plain, small, i64s}
use Rattle.compensation.specs.Reading.{scaled}
use Rattle.compensation.proofs.steps.gained.Goals as goal

pub scale-requires : goal.scale-requires
scale-requires c = let p = c.requires in small (search i64s depth 16) tt

pub returns : goal.returns
returns c =
    let p = c.requires in
    to_z-of_z w64 _ (record { sfits = c.scale.type_inv }) ∙ c.scale.ensures ∙ ap₂ scaled (plain (search i64s depth 12) tt) (plain (search i64s depth 12) tt)
