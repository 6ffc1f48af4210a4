-- `values_from` meets its contract: each call gives its part of step 5, and the magnitudes (Magnitudes.antt) meet what the next one
-- asks. Assumes nothing.
use mathlib.Core.Path.{◌≡◌, refl, ◌∙◌, ap}
use Prim.Native.Nat.{ℕ}
use lib.IntN.{ℤ, ◌-ℤ◌}
use mir.Syntax.{w64}
use mir.Val.{to_z, of_z}
use mir.ValLaws.{to_z-of_z}
use borrow.Author.Rules.{rules}
use Rattle.integers.proofs.Order.{<-≤}
use Rattle.integers.proofs.Machine.{stored_is}
use Rattle.figures.specs.declared.Cell.{Cell}
use Rattle.figures.specs.declared.System.{System}
use Rattle.compensation.specs.declared.steps.CellValues.{CellValues}
use Rattle.compensation.specs.ForCode.{raw_system_from, sraw_from, sys_from, values_from, SystemInput}
use Rattle.compensation.specs.Stat.{stat_of}
use Rattle.compensation.proofs.Held.{clamped}
use Rattle.compensation.proofs.Magnitudes.{Holds, system-magnitudes}
use Rattle.compensation.proofs.steps.values_from.Goals as goal

-- ---- what is held: the cell value, and what each call gives of it
module _ {s : System} {cell : ℤ} (ok : SystemInput s cell) where
  cell-held : Holds cell cell
  cell-held = stored_is ok.cell_in.abs tt refl

  raw-held : {r : ℤ} → r ≡ raw_system_from s cell → Holds r (raw_system_from s cell)
  raw-held e = stored_is (system-magnitudes s cell ok).raw-system-within.abs tt e

  sraw-held : {r : ℤ} → r ≡ sraw_from s cell → Holds r (sraw_from s cell)
  sraw-held e = stored_is (system-magnitudes s cell ok).sraw-within.abs tt e

  sys-held : {r : ℤ} → r ≡ sys_from s cell → Holds r (sys_from s cell)
  sys-held e = stored_is (system-magnitudes s cell ok).sys-within.abs tt e

-- ---- the values, put together
built : (c : Cell) (s : System) (v : CellValues) (elec temp : ℤ) (integrity : ℕ) {w x y z : ℤ} {n : ℕ} → w ≡ v.craw → x ≡ v.cell → y ≡ sraw_from s v.cell → z ≡ sys_from s v.cell
    → n ≡ stat_of c s elec temp v.raw (raw_system_from s v.cell) integrity → record { craw = w; cell = x; sraw = y; sys = z; stat = n } ≡ values_from c s v elec temp integrity
unfolding values_from
built c s v elec temp integrity w x y z n = rw (w, x, z, y, n)

pub returns : goal.returns
returns c =
    let s = c in
    let p = c.requires.system_in in
    let a = s.args in
    let lo : to_z w64 (of_z w64 s.args.system.smin) ≡ s.args.system.smin = search rules in
    let hi : to_z w64 (of_z w64 s.args.system.smax) ≡ s.args.system.smax = search rules in
    let sz : to_z w64 (of_z w64 s.args.system.sz) ≡ s.args.system.sz = search rules in
    let raw = raw-held p (simp (cell-held p) at c.scaled_system-raw_system.ensures) in
    let sraw = sraw-held p ((simp (raw, lo, hi) at c.clamp-sraw.ensures.value) ∙ clamped _ _ _ (<-≤ p.acceptable.ordered)) in
    let sys = sys-held p (ap (λ (z : ℤ). z -ℤ a.system.sz) refl) in
    let raw-is : Holds a.values.raw a.values.raw = search rules in
    let craw_is : Holds a.values.craw a.values.craw = search rules in
    built a.cell a.system a.values a.elec a.temp a.integrity craw_is (cell-held p) sraw (rw (sraw, sz) sys)
    ((simp (raw-is, craw_is, to_z-of_z w64 a.elec c.ranges.elec, to_z-of_z w64 a.temp c.ranges.temp, raw, sraw) at c.stat_bits-stat.ensures)
    a.cell a.system (<-≤ c.requires.cell_ok.ordered) (<-≤ p.acceptable.ordered) c.requires.craw_held refl)
