-- `stat_bits` meets its contract: the bits of its callees, put together (StatBits.antt). Assumes nothing.
use mir.Syntax.{w64}
use mir.ValLaws.{to_z-of_z}
use Rattle.integers.proofs.Machine.{eq-bits}
use Rattle.compensation.proofs.StatBits.{stat-held, stat-unmoved}
use Rattle.compensation.proofs.stat.stat_bits.Goals as goal

pub returns-then-system-sraw : goal.returns-then-system-sraw
returns-then-system-sraw c =
    let s = c in
    let a = s.args in
    stat-unmoved a.elec a.temp a.cell a.craw a.system a.sraw a.integrity (simp (to_z-of_z, s.ranges.elec, s.ranges.temp) at c.input_bits.ensures)
    (eq-bits w64 a.cell a.craw s.ranges.cell s.ranges.craw c.if-cell-craw.true) (eq-bits w64 a.system a.sraw s.ranges.system s.ranges.sraw c.if-system-sraw.true)

pub returns : goal.returns
returns c =
    let s = c in
    let a = s.args in
    stat-held a.elec a.temp a.cell a.craw a.system a.sraw a.integrity (simp (to_z-of_z, s.ranges.elec, s.ranges.temp) at c.input_bits-of_input.ensures)
    (simp (to_z-of_z, s.ranges.cell, s.ranges.craw) at c.held_bits-of_cell.ensures) (simp (to_z-of_z, s.ranges.system, s.ranges.sraw) at c.held_bits-of_system.ensures)
