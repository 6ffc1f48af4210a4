-- `correction` meets its contract: CLK is computable, by the limits of a sheet. Assumes nothing.
use mathlib.Core.Path.{◌∙◌}
use mir.Syntax.{w64}
use mir.ValLaws.{to_z-of_z}
use Rattle.compensation.proofs.Computable.{clk-computable, linearities-are}
use Rattle.compensation.proofs.tables.correction.Goals as goal

pub interpolate_one-requires-clause-computable : goal.interpolate_one-requires-clause-computable
interpolate_one-requires-clause-computable c = rw (linearities-are c.args.table) (clk-computable c.args.table c.requires)

pub returns : goal.returns
returns c = to_z-of_z w64 _ (record { sfits = c.interpolate_one.type_inv }) ∙ (rw (to_z-of_z w64 _ c.ranges.craw, linearities-are c.args.table) at c.interpolate_one.ensures)
