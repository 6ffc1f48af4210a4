-- The theorem: for all acceptable figures a reading stays within 42, 52 and 416 steps of the exact value, and its flags are
-- right. The public numbers do not chain (42·5/4 + 1/2 is above 52), so 1315, 1660 and 13296 are carried in 1/32 of a step, and
-- weakened at the end. Assumes nothing.
use mathlib.Core.Path.{◌∙◌, subst}
use mathlib.Core.Logic.{◌↔◌}
use mathlib.Core.List.{List}
use Prim.Native.Nat.{ℕ, ◌*◌, ◌≤◌}
use native.Mathlib.Omega.{arith}
use native.Mathlib.Nat.{mul-le-mul_right}
use lib.IntN.{ℤ, pos, nat_abs, *ℤ_comm}
use Rattle.integers.specs.Within.{◌within◌}
use Rattle.integers.proofs.Order.{<-≤}
use Rattle.integers.proofs.Ring.{one-*ℤ}
use Rattle.arithmetic.specs.Fraction.{Fraction, ◌over◌, whole, Near}
use Rattle.arithmetic.specs.Table.{Point, interpolated, interpolated_f}
use Rattle.arithmetic.specs.Keeps.{Rising}
use Rattle.arithmetic.proofs.Near.{one-pos, near-whole, near_sub, near-units}
use Rattle.arithmetic.proofs.Exact.{Small, exact-small, interpolated-near}
use Rattle.figures.specs.Acceptable.{Acceptable}
use Rattle.figures.specs.Rows.{linearities, temperatures}
use Rattle.figures.specs.declared.Calibration.{Calibration}
use Rattle.compensation.specs.ReadingLimits.{elec_most}
use Rattle.compensation.specs.Reading.{one, scaled, o, g, y, raw_cell, craw, cell, raw_system, sraw, sys}
use Rattle.compensation.specs.Values.{values_of}
use Rattle.compensation.specs.Exact.{o_f, g_f, y_f, raw_cell_f, craw_f, cell_f, raw_system_f, sraw_f, sys_f}
use Rattle.compensation.specs.Faithful.{Within}
use Rattle.compensation.specs.Distances.{AlwaysFaithful}
use Rattle.compensation.proofs.Distance.{near-gain, near-adjust, near-correct}
use Rattle.compensation.proofs.Held.{near-hold, same-side}
use Rattle.compensation.proofs.Magnitudes.{one-above, magnitudes}
use Rattle.compensation.proofs.Flags.{raised_lt, raised-eq, stat-bits}

-- at a whole number
near-at : (j : ℕ) (table : List Point) (t : ℤ) → Rising table → Near 16 32 (interpolated j table t) (interpolated_f j table (whole t))
near-at j table t h = near-units 16 (subst (λ (z : ℤ). Near 1 2 (interpolated j table t) (interpolated_f j table (z over pos 1))) (*ℤ_comm t (pos 1) ∙ one-*ℤ t) (interpolated-near j table t (pos 1) one-pos h))

module _ (c : Calibration) (elec temp : ℤ) (ok : Acceptable c) (held : elec within elec_most) where
  o-near : Near 16 32 (o c elec temp) (o_f c elec temp)
  unfolding o_f
  o-near = near-at 1 (temperatures c.temperature) temp ok.temperature_ok.rising

  g-near : Near 16 32 (g c elec temp) (g_f c elec temp)
  unfolding g_f
  g-near = near-at 2 (temperatures c.temperature) temp ok.temperature_ok.rising

  g-small : Small 26843545 (g_f c elec temp)
  unfolding g_f
  g-small = exact-small 2 (temperatures c.temperature) (whole temp) ok.temperature_ok.ctg_in

  y-near : Near 1040 32 (y c elec temp) (y_f c elec temp)
  unfolding y y_f scaled
  y-near =
      near-gain 64 c.cell.cgai one one-above (omega (arith, ok.cell_ok.cgai_in.abs))
      (near_sub (near_sub (near-whole 0 32 elec) (near-whole 0 32 c.cell.cofs)) o-near)

  raw-cell-near : Near 1315 32 (raw_cell c elec temp) (raw_cell_f c elec temp)
  unfolding raw_cell raw_cell_f scaled
  raw-cell-near = near-adjust one one-above (omega (arith, (magnitudes c elec temp ok held).y-within.abs)) (omega (arith, g-small.small)) y-near g-near

  craw_near : Near 1315 32 (craw c elec temp) (craw_f c elec temp)
  unfolding craw craw_f
  craw_near = near-hold c.cell.cmin c.cell.cmax (<-≤ ok.cell_ok.ordered) raw-cell-near

  cell_near : Near 1660 32 (cell c elec temp) (cell_f c elec temp)
  unfolding cell cell_f
  cell_near = near-correct 1 (linearities c.linearity) ok.linearity_ok.rising ok.linearity_ok.gentle craw_near

  raw-system-near : Near 13296 32 (raw_system c elec temp) (raw_system_f c elec temp)
  unfolding raw_system raw_system_f scaled
  raw-system-near = near-gain 8 c.system.sgai one one-above (omega (arith, ok.system_ok.sgai_in.abs)) (near_sub cell_near (near-whole 0 32 c.system.sofs))

  sraw_near : Near 13296 32 (sraw c elec temp) (sraw_f c elec temp)
  unfolding sraw sraw_f
  sraw_near = near-hold c.system.smin c.system.smax (<-≤ ok.system_ok.ordered) raw-system-near

  sys_near : Near 13296 32 (sys c elec temp) (sys_f c elec temp)
  unfolding sys sys_f
  sys_near = near_sub sraw_near (near-whole 0 32 c.system.sz)

-- j/32 steps, in whole steps
in-steps : {k : ℕ} (j : ℕ) {x : ℤ} {q : Fraction} → Near j 32 x q → j ≤ 32 * k → Within k x q
in-steps j {q} h l = record { above = h.above; near = omega (arith, h.near, mul-le-mul_right (nat_abs q.low) l) }

both : {A B C : Type 0} → A ↔ B → B ↔ C → A ↔ C
both f g = ((λ a. g.0 (f.0 a)), (λ c. f.1 (g.1 c)))

pub faithful : AlwaysFaithful
unfolding values_of
faithful c elec temp integrity ok held =
    let s = stat-bits c elec temp integrity in
    let raw-cell = in-steps {k = 42} 1315 (raw-cell-near c elec temp ok held) (omega arith) in
    let raw-system = in-steps {k = 416} 13296 (raw-system-near c elec temp ok held) (omega arith) in
    record {
      craw_near = in-steps 1315 (craw_near c elec temp ok held) (omega arith);
      cell_near = in-steps 1660 (cell_near c elec temp ok held) (omega arith);
      sraw_near = in-steps 13296 (sraw_near c elec temp ok held) (omega arith);
      sys_near = in-steps 13296 (sys_near c elec temp ok held) (omega arith);
      raw_cell_above = raw-cell.above;
      raw_system_above = raw-system.above;
      crawur_right = λ far. both (raised_lt _ _ _ _ s.crawur_is) (same-side c.cell.cmin raw-cell far).0;
      crawor_right = λ far. both (raised_lt _ _ _ _ s.crawor_is) (same-side c.cell.cmax raw-cell far).1;
      sysur_right = λ far. both (raised_lt _ _ _ _ s.sysur_is) (same-side c.system.smin raw-system far).0;
      sysor_right = λ far. both (raised_lt _ _ _ _ s.sysor_is) (same-side c.system.smax raw-system far).1;
      tempur_right = raised_lt _ _ _ _ s.tempur_is;
      tempor_right = raised_lt _ _ _ _ s.tempor_is;
      ecomur_right = raised_lt _ _ _ _ s.ecomur_is;
      ecomor_right = raised_lt _ _ _ _ s.ecomor_is;
      lcinteg_right = raised-eq _ _ _ _ s.lcinteg_is;
    }
