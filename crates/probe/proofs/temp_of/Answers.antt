-- `temp_of` meets its contract: `partition_point` ends between two neighbours of the table. Assumes nothing.
use mathlib.Core.Path.{◌≡◌, refl, sym, ◌∙◌, ap}
use mathlib.Core.Bool.{true, false}
use Prim.Native.Nat.{ℕ, suc, ◌-◌, ◌<◌, ◌≤◌}
use native.Mathlib.Omega.{arith}
use lib.Signed.{lt_z, ◌≤ℤ◌, ◌<ℤ◌}
use mir.Syntax.{w64}
use mir.Val.{to_z, of_z}
use mir.ValLaws.{to_z-of_z}
use borrow.Author.Rules.{rules}
use Rattle.std.specs.List.Sorted.{IsPartitionPoint}
use Rattle.std.proofs.lemmas.List.Sorted.{IsPartitionPoint-from_clause}
use Rattle.integers.proofs.Machine.{held as held_is}
use Rattle.integers.proofs.Order.{lt_yes, lt_no}
use Rattle.arithmetic.specs.Round.{round_div, round_magnitude}
use Rattle.probe.specs.Platinum.{formula, entry, platinum}
use Rattle.probe.specs.Pt100.{celsius}
use Rattle.probe.specs.Probe.{temp_of}
use Rattle.probe.specs.declared.TheConstants.{RESISTANCES}
use Rattle.probe.proofs.Table.{Resistances, parted, read_is, counted_is, counted_next, temp-first, temp-last, temp-between, segment}
use Rattle.probe.proofs.temp_of.Goals.{After-partition_point-high}
use Rattle.probe.proofs.temp_of.Goals as goal

held : Resistances RESISTANCES
unfolding platinum entry formula round_div round_magnitude
held = record { same = refl }

point : (c : After-partition_point-high) → let r = to_z w64 (of_z w64 c.args.resistance) in IsPartitionPoint (λ (x : ℕ). lt_z (to_z w64 x) r ≡ true) (λ (x : ℕ). lt_z (to_z w64 x) r ≡ false) RESISTANCES c.partition_point-high.result
point c =
    let r = to_z w64 (of_z w64 c.args.resistance) in
    IsPartitionPoint-from_clause (λ (x : ℕ). lt_z (to_z w64 x) r) RESISTANCES _ c.partition_point-high.ensures.partitioned (parted held r) (λ a r q k. search rules)

-- the entries before `high` are below the resistance, and that at `high` is not
below : (c : After-partition_point-high) (k : ℕ) → k < 201 → k < c.partition_point-high.result → entry (celsius k) <ℤ to_z w64 (of_z w64 c.args.resistance)
below c k l h = lt_yes (rw (read_is k l held) at ((point c).0 k 0 (omega arith) h))

upto : (c : After-partition_point-high) (k : ℕ) → k < 201 → c.partition_point-high.result ≤ k → to_z w64 (of_z w64 c.args.resistance) ≤ℤ entry (celsius k)
upto c k l h = lt_no (rw (read_is k l held) at ((point c).1 k 0 h l))

pub returns-then-high-eq0 : goal.returns-then-high-eq0
unfolding entry formula round_div round_magnitude
returns-then-high-eq0 c =
    let a = (goal.at.returns-then-high-eq0 c).After-partition_point-high in
    sym (temp-first c.args.resistance (rw (to_z-of_z w64 c.args.resistance c.ranges.resistance) at (upto a 0 (omega arith) (omega (arith, c.if-high-eq0.true)))))

pub returns-then-high-eq201 : goal.returns-then-high-eq201
unfolding entry formula round_div round_magnitude
returns-then-high-eq201 c =
    let a = (goal.at.returns-then-high-eq201 c).After-partition_point-high in
    sym (temp-last c.args.resistance (rw (to_z-of_z w64 c.args.resistance c.ranges.resistance) at (below a 200 (omega arith) (omega (arith, c.if-high-eq201.true)))))

pub line_at-requires : goal.line_at-requires
line_at-requires c =
    let a = (goal.at.line_at-requires c).After-partition_point-high in
    let bound : c.partition_point-high.result ≤ 201 = c.partition_point-high.ensures.bound in
    let first = c.if-high-eq0.false in
    let last = c.if-high-eq201.false in
    let high = c.partition_point-high.result in
    let inside : high < 201 = omega arith in
    let low : high - 1 < 201 = omega arith in
    let next : high ≡ suc (high - 1) = omega arith in
    rw (counted_is (high - 1) low, counted_next (high - 1) low, read_is (high - 1) low held, read_is high inside held)
    (segment (high - 1) high next inside (below a (high - 1) low (omega arith)) (upto a high inside (omega arith)))

pub returns : goal.returns
returns c =
    let a = (goal.at.returns c).After-partition_point-high in
    let bound : c.partition_point-high.result ≤ 201 = c.partition_point-high.ensures.bound in
    let first = c.if-high-eq0.false in
    let last = c.if-high-eq201.false in
    let high = c.partition_point-high.result in
    let inside : high < 201 = omega arith in
    let low : high - 1 < 201 = omega arith in
    let next : high ≡ suc (high - 1) = omega arith in
    held_is c.line_at.type_inv
    ((rw (counted_is (high - 1) low, counted_next (high - 1) low, read_is (high - 1) low held, read_is high inside held) at c.line_at.ensures)
    ∙ sym (temp-between (high - 1) high next inside (below a (high - 1) low (omega arith)) (upto a high inside (omega arith)))
    ∙ ap temp_of (to_z-of_z w64 c.args.resistance c.ranges.resistance))
