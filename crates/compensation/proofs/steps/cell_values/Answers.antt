-- `cell_values` meets its contract: each call gives its step of the reading, and the magnitudes of the steps (Magnitudes.antt)
-- meet what the next one asks. Assumes nothing.
use mathlib.Core.Path.{◌≡◌, refl, ◌∙◌}
use mir.Syntax.{w64}
use mir.Val.{SFits, to_z, of_z}
use mir.ValLaws.{to_z-of_z}
use borrow.Author.Rules.{rules}
use lib.IntN.{ℤ, ◌+ℤ◌, ◌-ℤ◌}
use Rattle.integers.proofs.Machine.{fits, known, stored_is}
use Rattle.integers.proofs.Order.{<-≤}
use Rattle.arithmetic.proofs.Table.{interpolated-within}
use Rattle.arithmetic.specs.Table.{interpolated}
use Rattle.figures.specs.Rows.{linearities}
use Rattle.figures.specs.declared.Cell.{Cell}
use Rattle.figures.specs.declared.Linearity.{Linearity}
use Rattle.compensation.specs.declared.steps.Input.{Input}
use Rattle.compensation.specs.Hold.{hold}
use Rattle.compensation.specs.Reading.{one, scaled}
use Rattle.compensation.specs.ForCode.{y_at, raw_cell_at, craw_at, cell_value_at, cell_values_at, CellInput}
use Rattle.compensation.proofs.Held.{clamped}
use Rattle.compensation.proofs.Magnitudes.{Holds, CellMagnitudes, cell-magnitudes}
use Rattle.compensation.proofs.steps.cell_values.Goals.{After-correction}
use Rattle.compensation.proofs.steps.cell_values.Goals as goal

-- ---- what is held: the input, and what each call gives of it
module _ {c : Cell} {l : Linearity} {i : Input} (ok : CellInput c l i) where
  in-range : CellMagnitudes c l i
  in-range = cell-magnitudes c l i ok

  elec-held : Holds i.elec i.elec
  elec-held = stored_is ok.elec_in.abs tt refl

  o-held : Holds i.o i.o
  o-held = stored_is ok.o_in.abs tt refl

  g_held : Holds i.g i.g
  g_held = stored_is ok.g_in.abs tt refl

  y-held : {r : ℤ} → r ≡ scaled (i.elec -ℤ c.cofs -ℤ i.o) c.cgai → Holds r (y_at c i)
  unfolding y_at
  y-held e = stored_is in-range.y-within.abs tt e

  raw-held : {r : ℤ} → r ≡ scaled (y_at c i) (one +ℤ i.g) → Holds r (raw_cell_at c i)
  unfolding raw_cell_at
  raw-held e = stored_is in-range.raw-cell-within.abs tt e

  craw_held : {r : ℤ} → r ≡ hold c.cmin c.cmax (raw_cell_at c i) → Holds r (craw_at c i)
  unfolding craw_at
  craw_held e = stored_is in-range.craw-within.abs tt e

  correction-held : {r : ℤ} → r ≡ interpolated 1 (linearities l) (craw_at c i) → Holds r (interpolated 1 (linearities l) (craw_at c i))
  correction-held e = stored_is (interpolated-within 1 (linearities l) (craw_at c i) ok.linearity_ok.clk_in).abs tt e

  sum_fits : SFits w64 (craw_at c i +ℤ interpolated 1 (linearities l) (craw_at c i))
  unfolding cell_value_at
  sum_fits = let h = in-range.cell-within in fits (known h) tt

-- ---- the values, put together
built : (c : Cell) (l : Linearity) (i : Input) {x y z : ℤ} → x ≡ raw_cell_at c i → y ≡ craw_at c i → z ≡ cell_value_at c l i → record { raw = x; craw = y; cell = z } ≡ cell_values_at c l i
unfolding cell_values_at
built c l i x y z = rw (x, y, z)

-- ---- what each call asks
pub adjusted-raw-requires : goal.adjusted-raw-requires
adjusted-raw-requires c =
    let p = c.requires in
    let y = y-held p (simp (o-held p, elec-held p) at c.gained-y.ensures) in
    rw (y, g_held p) (record { y_in = (in-range p).y-within; g_in = p.g_in })

-- ---- what the calls give
module _ (c : After-correction) where
  y : Holds c.gained-y.result (y_at c.args.cell c.args.input)
  y = y-held c.requires (simp (o-held c.requires, elec-held c.requires) at c.gained-y.ensures)

  raw : Holds c.adjusted-raw.result (raw_cell_at c.args.cell c.args.input)
  raw = raw-held c.requires (simp (y, g_held c.requires) at c.adjusted-raw.ensures)

  craw : Holds c.clamp-craw.result (craw_at c.args.cell c.args.input)
  craw =
      let s = c in
      let lo : to_z w64 (of_z w64 s.args.cell.cmin) ≡ s.args.cell.cmin = search rules in
      let hi : to_z w64 (of_z w64 s.args.cell.cmax) ≡ s.args.cell.cmax = search rules in
      craw_held c.requires ((simp (raw, lo, hi) at c.clamp-craw.ensures.value) ∙ clamped _ _ _ (<-≤ c.requires.cell_ok.ordered))

  correction-is : Holds c.correction.result (interpolated 1 (linearities c.args.linearity) (craw_at c.args.cell c.args.input))
  correction-is = correction-held c.requires (simp craw at c.correction.ensures)

pub overflow_add-corrected : goal.overflow_add-corrected
overflow_add-corrected c = rw (craw c, correction-is c) (sum_fits c.requires)

pub returns : goal.returns
unfolding cell_value_at
returns c =
    let a = c.args in
    built a.cell a.linearity a.input (raw c) (craw c) (rw (craw c, correction-is c) (to_z-of_z w64 _ (sum_fits c.requires)))
