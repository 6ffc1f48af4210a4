-- How large each value and each product of a reading can be, for all acceptable figures and every ELEC that the filter can hold:
-- all fit an i64 (docs/magnitudes.md has them as a table). Assumes nothing.
use mathlib.Core.Path.{◌≡◌, refl}
use Prim.Native.Nat.{ℕ, ◌*◌, ◌^◌}
use native.Mathlib.Omega.{arith}
use lib.IntN.{ℤ, pos, ◌+ℤ◌, ◌-ℤ◌, ◌*ℤ◌}
use lib.Signed.{◌<ℤ◌, lt_z_yes}
use mir.Syntax.{w64}
use mir.Val.{to_z, of_z}
use Rattle.integers.specs.Within.{◌within◌}
use Rattle.integers.proofs.Magnitude.{within-add, within-neg, within-mul, within_more}
use Rattle.arithmetic.specs.Table.{interpolated}
use Rattle.arithmetic.proofs.Round.{round-within}
use Rattle.arithmetic.proofs.Table.{interpolated-within}
use Rattle.figures.specs.Acceptable.{Acceptable}
use Rattle.figures.specs.Rows.{linearities, temperatures}
use Rattle.figures.specs.declared.Calibration.{Calibration}
use Rattle.figures.specs.declared.Cell.{Cell}
use Rattle.figures.specs.declared.Linearity.{Linearity}
use Rattle.figures.specs.declared.System.{System}
use Rattle.compensation.specs.ReadingLimits.{elec_most}
use Rattle.compensation.specs.Reading.{one, scaled, y, raw_cell, craw, cell, raw_system, sraw, sys}
use Rattle.compensation.specs.ForCode.{input_at, y_at, raw_cell_at, craw_at, cell_value_at, raw_system_from, sraw_from, sys_from, cell_values_at, CellInput, SystemInput, ValuesInput}
use Rattle.compensation.specs.declared.steps.Input.{Input}
use Rattle.compensation.proofs.Held.{hold-within}

-- z is v, through an i64's bits and back
abbrev pub Holds : ℤ → ℤ → Type 0
Holds z v = to_z w64 (of_z w64 z) ≡ v

pub one-above : pos 0 <ℤ one
one-above = lt_z_yes tt

-- |x × gain| ≤ n·2^28: |round(x × gain ÷ 2^28)| ≤ n
scaled-within : {n : ℕ} (x gain : ℤ) → (x *ℤ gain) within (n * 2 ^ 28) → (scaled x gain) within n
unfolding scaled
scaled-within x gain h = round-within (x *ℤ gain) one one-above h

module _ (c : Cell) (l : Linearity) (i : Input) (ok : CellInput c l i) where
  y-product-in : ((i.elec -ℤ c.cofs -ℤ i.o) *ℤ c.cgai) within 698057942242426880
  y-product-in =
      within_more (within-mul (within-add (within-add ok.elec_in (within-neg ok.cell_ok.cofs_in)) (within-neg ok.o_in)) ok.cell_ok.cgai_in) (omega arith)

  y_in : (y_at c i) within 2600468480
  unfolding y_at
  y_in = scaled-within (i.elec -ℤ c.cofs -ℤ i.o) c.cgai (within_more y-product-in (omega arith))

  raw-cell-product-in : (y_at c i *ℤ (one +ℤ i.g)) within 767863734906388480
  raw-cell-product-in =
      let u : one within (2 ^ 28) = record { abs = omega arith } in
      within_more (within-mul y_in (within-add u ok.g_in)) (omega arith)

  raw-cell-in : (raw_cell_at c i) within 2860515323
  unfolding raw_cell_at
  raw-cell-in = scaled-within (y_at c i) (one +ℤ i.g) (within_more raw-cell-product-in (omega arith))

  craw_in : (craw_at c i) within 2097152000
  unfolding craw_at
  craw_in = hold-within c.cmin c.cmax (raw_cell_at c i) ok.cell_ok.cmin_in ok.cell_ok.cmax_in

  correction-in : (interpolated 1 (linearities l) (craw_at c i)) within 65536000
  correction-in = interpolated-within 1 (linearities l) (craw_at c i) ok.linearity_ok.clk_in

  cell_in : (cell_value_at c l i) within 2162688000
  unfolding cell_value_at
  cell_in = within-add craw_in correction-in

module _ (s : System) (cell : ℤ) (ok : SystemInput s cell) where
  raw-system-product-in : ((cell -ℤ s.sofs) *ℤ s.sgai) within 9147936743096320000
  raw-system-product-in = within_more (within-mul (within-add ok.cell_in (within-neg ok.acceptable.sofs_in)) ok.acceptable.sgai_in) (omega arith)

  raw-system-in : (raw_system_from s cell) within 34078720000
  raw-system-in = scaled-within (cell -ℤ s.sofs) s.sgai (within_more raw-system-product-in (omega arith))

  sraw_in : (sraw_from s cell) within 2097152000
  sraw_in = hold-within s.smin s.smax (raw_system_from s cell) ok.acceptable.smin_in ok.acceptable.smax_in

  sys_in : (sys_from s cell) within 4194304000
  sys_in = within-add sraw_in (within-neg ok.acceptable.sz_in)

-- ---- all of them

-- of steps 3 and 4
pub record CellMagnitudes (c : Cell) (l : Linearity) (i : Input) : Type 0 where
  pub y-within : (y_at c i) within 2600468480
  pub raw-cell-within : (raw_cell_at c i) within 2860515323
  pub craw-within : (craw_at c i) within 2097152000
  pub cell-within : (cell_value_at c l i) within 2162688000

pub cell-magnitudes : (c : Cell) (l : Linearity) (i : Input) → CellInput c l i → CellMagnitudes c l i
cell-magnitudes c l i ok = record {
  y-within = y_in c l i ok;
  raw-cell-within = raw-cell-in c l i ok;
  craw-within = craw_in c l i ok;
  cell-within = cell_in c l i ok;
}

-- of step 5
pub record SystemMagnitudes (s : System) (cell : ℤ) : Type 0 where
  pub raw-system-within : (raw_system_from s cell) within 34078720000
  pub sraw-within : (sraw_from s cell) within 2097152000
  pub sys-within : (sys_from s cell) within 4194304000

pub system-magnitudes : (s : System) (cell : ℤ) → SystemInput s cell → SystemMagnitudes s cell
system-magnitudes s cell ok = record { raw-system-within = raw-system-in s cell ok; sraw-within = sraw_in s cell ok; sys-within = sys_in s cell ok }

-- of a reading
pub record Magnitudes (c : Calibration) (elec temp : ℤ) : Type 0 where
  pub y-within : (y c elec temp) within 2600468480
  pub raw-cell-within : (raw_cell c elec temp) within 2860515323
  pub craw-within : (craw c elec temp) within 2097152000
  pub cell-within : (cell c elec temp) within 2162688000
  pub raw-system-within : (raw_system c elec temp) within 34078720000
  pub sraw-within : (sraw c elec temp) within 2097152000
  pub sys-within : (sys c elec temp) within 4194304000

-- ---- what each step gives by acceptable figures is what the next may be handed

module _ (c : Calibration) (elec temp : ℤ) (ok : Acceptable c) (held : elec within elec_most) where
  pub cell-input : CellInput c.cell c.linearity (input_at c.temperature elec temp)
  cell-input = record {
    cell_ok = ok.cell_ok;
    linearity_ok = ok.linearity_ok;
    elec_in = held;
    o_in = interpolated-within 1 (temperatures c.temperature) temp ok.temperature_ok.cto_in;
    g_in = interpolated-within 2 (temperatures c.temperature) temp ok.temperature_ok.ctg_in;
  }

  cell-kept : CellMagnitudes c.cell c.linearity (input_at c.temperature elec temp)
  cell-kept = cell-magnitudes c.cell c.linearity (input_at c.temperature elec temp) cell-input

  pub values-input : ValuesInput c.cell c.system (cell_values_at c.cell c.linearity (input_at c.temperature elec temp))
  unfolding cell_values_at craw_at
  values-input = record { cell_ok = ok.cell_ok; system_in = record { acceptable = ok.system_ok; cell_in = cell-kept.cell-within }; craw_held = refl }

  system-kept : SystemMagnitudes c.system (cell_value_at c.cell c.linearity (input_at c.temperature elec temp))
  unfolding cell_values_at
  system-kept = system-magnitudes c.system _ values-input.system_in

  pub magnitudes : Magnitudes c elec temp
  unfolding y y_at raw_cell raw_cell_at craw craw_at cell cell_value_at raw_system sraw sys
  magnitudes = record {
    y-within = cell-kept.y-within;
    raw-cell-within = cell-kept.raw-cell-within;
    craw-within = cell-kept.craw-within;
    cell-within = cell-kept.cell-within;
    raw-system-within = system-kept.raw-system-within;
    sraw-within = system-kept.sraw-within;
    sys-within = system-kept.sys-within;
  }
