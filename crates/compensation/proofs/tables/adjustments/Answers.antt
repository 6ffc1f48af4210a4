-- `adjustments` meets its contract: both columns are computable, by the limits of a sheet. Assumes nothing.
use mathlib.Core.Path.{◌≡◌}
use mir.Syntax.{w64}
use mir.Val.{to_z, of_z}
use mir.ValLaws.{to_z-of_z}
use borrow.Author.Rules.{rules}
use Rattle.compensation.proofs.Computable.{cto-computable, ctg-computable, temperatures-are}
use Rattle.compensation.proofs.tables.adjustments.Goals as goal

pub interpolate_two-values-requires-clause-computable : goal.interpolate_two-values-requires-clause-computable
interpolate_two-values-requires-clause-computable c = rw (temperatures-are c.args.table) (cto-computable c.args.table c.requires)

pub interpolate_two-values-requires-clause-computable_2 : goal.interpolate_two-values-requires-clause-computable_2
interpolate_two-values-requires-clause-computable_2 c = rw (temperatures-are c.args.table) (ctg-computable c.args.table c.requires)

pub returns : goal.returns
returns c =
    let first : to_z w64 (of_z w64 c.interpolate_two-values.result.first) ≡ c.interpolate_two-values.result.first = search rules in
    let second : to_z w64 (of_z w64 c.interpolate_two-values.result.second) ≡ c.interpolate_two-values.result.second = search rules in
    rw (first, second) (rw (to_z-of_z w64 _ c.ranges.temp, temperatures-are c.args.table) at c.interpolate_two-values.ensures)
