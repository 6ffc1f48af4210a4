-- For the code alone, and nothing to be believed: a reading in the pieces in which the functions of `src/` find it, and what each of
-- them may be handed, so that no product leaves an i64. The pieces, put together, are `values_of` (`values-joined`,
-- proofs/Joined.antt); no definition but these rests on them.
use Rattle.std.specs.Prelude.{◌≡◌, ℕ, eqb, ℤ, ◌+ℤ◌, ◌-ℤ◌, ◌≤ℤ◌}
use Rattle.std.specs.Int.Bits.{bit_or}
use Rattle.integers.specs.Within.{◌within◌}
use Rattle.arithmetic.specs.Table.{interpolated}
use Rattle.figures.specs.Limits.{cto_most, ctg_most}
use Rattle.figures.specs.Acceptable.{CellAcceptable, LinearityAcceptable, SystemAcceptable, FilterAcceptable}
use Rattle.figures.specs.Rows.{linearities, temperatures}
use Rattle.figures.specs.declared.Cell.{Cell}
use Rattle.figures.specs.declared.Filter.{Filter}
use Rattle.figures.specs.declared.Linearity.{Linearity}
use Rattle.figures.specs.declared.System.{System}
use Rattle.figures.specs.declared.Temperature.{Temperature}
use Rattle.compensation.specs.ReadingLimits.{elec_most}
use Rattle.compensation.specs.Hold.{hold}
use Rattle.compensation.specs.Reading.{one, scaled}
use Rattle.compensation.specs.Stat.{weigh, range, temp_under, temp_over, elec_under, elec_over, stat_of}
use Rattle.compensation.specs.declared.steps.CellValues.{CellValues}
use Rattle.compensation.specs.declared.steps.Input.{Input}
use Rattle.compensation.specs.declared.steps.Values.{Values}

-- ---- steps 2 to 5, each by the part of the figures that it needs

-- 2, beside ELEC as the filter holds it
abbrev pub input_at : Temperature → ℤ → ℤ → Input
input_at t elec temp = record { elec = elec; o = interpolated 1 (temperatures t) temp; g = interpolated 2 (temperatures t) temp }

-- 3
unfoldable pub y_at : Cell → Input → ℤ
y_at c i = scaled (i.elec -ℤ c.cofs -ℤ i.o) c.cgai

unfoldable pub raw_cell_at : Cell → Input → ℤ
raw_cell_at c i = scaled (y_at c i) (one +ℤ i.g)

unfoldable pub craw_at : Cell → Input → ℤ
craw_at c i = hold c.cmin c.cmax (raw_cell_at c i)

-- 4
unfoldable pub cell_value_at : Cell → Linearity → Input → ℤ
cell_value_at c l i = craw_at c i +ℤ interpolated 1 (linearities l) (craw_at c i)

-- 3 and 4
unfoldable pub cell_values_at : Cell → Linearity → Input → CellValues
cell_values_at c l i = record { raw = raw_cell_at c i; craw = craw_at c i; cell = cell_value_at c l i }

-- 5
abbrev pub raw_system_from : System → ℤ → ℤ
raw_system_from s cell = scaled (cell -ℤ s.sofs) s.sgai

abbrev pub sraw_from : System → ℤ → ℤ
sraw_from s cell = hold s.smin s.smax (raw_system_from s cell)

abbrev pub sys_from : System → ℤ → ℤ
sys_from s cell = sraw_from s cell -ℤ s.sz

-- 5 after 3 and 4, and STAT; ELEC as the filter holds it
unfoldable pub values_from : Cell → System → CellValues → ℤ → ℤ → ℕ → Values
values_from c s v elec temp integrity = record {
  craw = v.craw;
  cell = v.cell;
  sraw = sraw_from s v.cell;
  sys = sys_from s v.cell;
  stat = stat_of c s elec temp v.raw (raw_system_from s v.cell) integrity;
}

-- ---- what each may be handed

-- step 1: an accepted input, the one before it, and the held value of accepted ones
pub record FilterInput (f : Filter) (previous held input : ℤ) : Type 0 where
  pub acceptable : FilterAcceptable f
  pub previous_in : previous within elec_most
  pub held_in : held within elec_most
  pub input_in : input within elec_most

-- steps 3 and 4: acceptable figures, ELEC as the filter holds it, and o and g between the values of an acceptable table
pub record CellInput (c : Cell) (l : Linearity) (i : Input) : Type 0 where
  pub cell_ok : CellAcceptable c
  pub linearity_ok : LinearityAcceptable l
  pub elec_in : i.elec within elec_most
  pub o_in : i.o within cto_most
  pub g_in : i.g within ctg_most

pub record GainInput (c : Cell) (o elec : ℤ) : Type 0 where
  pub acceptable : CellAcceptable c
  pub o_in : o within cto_most
  pub elec_in : elec within elec_most

pub record AdjustInput (y g : ℤ) : Type 0 where
  pub y_in : y within 2600468480
  pub g_in : g within ctg_most

-- step 5
pub record SystemInput (s : System) (cell : ℤ) : Type 0 where
  pub acceptable : SystemAcceptable s
  pub cell_in : cell within 2162688000

-- what steps 3 and 4 leave by acceptable figures
pub record ValuesInput (c : Cell) (s : System) (v : CellValues) : Type 0 where
  pub cell_ok : CellAcceptable c
  pub system_in : SystemInput s v.cell
  pub craw_held : v.craw ≡ hold c.cmin c.cmax v.raw

-- ---- STAT

-- the bits of ELEC, TEMP and the integrity byte
unfoldable pub input_bits : ℤ → ℤ → ℕ → ℕ
input_bits elec temp integrity = bit_or (range temp_under temp_over temp 4 8) (bit_or (range elec_under elec_over elec 16 32) (weigh (eqb integrity 1) 2048))

-- n are the bits of a raw value x that was held at h, by whichever limits
abbrev pub HeldBits : ℤ → ℤ → ℕ → ℕ → ℕ → Type 0
HeldBits x h under over n = (lo hi : ℤ) → lo ≤ℤ hi → h ≡ hold lo hi x → n ≡ range lo hi x under over

-- n is STAT, of a raw cell x that was held at h and a raw system y at k, by whichever figures
abbrev pub HeldStat : ℤ → ℤ → ℕ → ℤ → ℤ → ℤ → ℤ → ℕ → Type 0
HeldStat elec temp integrity x h y k n =
    (c : Cell) (s : System) → c.cmin ≤ℤ c.cmax → s.smin ≤ℤ s.smax → h ≡ hold c.cmin c.cmax x → k ≡ hold s.smin s.smax y → n ≡ stat_of c s elec temp x y integrity
