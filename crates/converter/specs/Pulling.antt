-- Change 5 over whole runs: "Test rigs load cells both ways". Two devices, made of a sheet and of one whose figures mirror its own, and any
-- list of readings, pushed on the one and, ELEC with the other sign, pulled on the other.
use Rattle.std.specs.Prelude.{◌≡◌, List, map, ℕ, neg_ℤ, ◌+ℤ◌}
use Rattle.integers.specs.Within.{◌within◌}
use Rattle.arithmetic.specs.Fraction.{whole}
use Rattle.arithmetic.specs.Table.{Point, interpolated_f}
use Rattle.arithmetic.specs.Keeps.{ColumnWithin}
use Rattle.arithmetic.specs.Mirror.{HalfWay}
use Rattle.figures.specs.Rows.{linearities}
use Rattle.figures.specs.Mirror.{Mirrors}
use Rattle.sheet.specs.Forms.{read_sheet}
use Rattle.compensation.specs.Pulling.{ChangeSides}
use Rattle.state.specs.declared.State.{State}
use Rattle.converter.specs.Making.{made}
use Rattle.converter.specs.Call.{Call, reading, number, run}
use Rattle.converter.specs.declared.Device.{Device}
use Rattle.converter.specs.declared.corner.Sample.{Sample}

abbrev pub push : Sample → Call
push x = reading x.elec x.temp x.integrity

abbrev pub pull : Sample → Call
pull x = reading (neg_ℤ x.elec) x.temp x.integrity

-- the state of the device pushed, p, and of the one pulled, q: ELEC as it came and as it is held, and CRAW, with the other sign; CELL to
-- `step`, and what comes of it to `steps`, or exactly, by the linearity table of p; and FLAG
module _ (step steps : ℕ) (table : List Point) (p q : State) where
  pub record Opposite : Type 0 where
    pub any_is : q.readings.any ≡ p.readings.any
    pub input_is : q.readings.input ≡ neg_ℤ p.readings.input
    pub elec_is : q.readings.elec ≡ neg_ℤ p.readings.elec
    pub temp_is : q.readings.temp ≡ p.readings.temp
    pub craw_is : q.readings.values.craw ≡ neg_ℤ p.readings.values.craw
    pub cell_near : (q.readings.values.cell +ℤ p.readings.values.cell) within step
    pub sraw_near : (q.readings.values.sraw +ℤ p.readings.values.sraw) within steps
    pub sys_near : (q.readings.values.sys +ℤ p.readings.values.sys) within steps
    -- exactly, unless the exact correction of the last reading lies half-way between two steps
    pub exactly : (HalfWay (interpolated_f 1 table (whole p.readings.values.craw)) → ⊥)
        → (q.readings.values.cell ≡ neg_ℤ p.readings.values.cell) × (q.readings.values.sraw ≡ neg_ℤ p.readings.values.sraw) × (q.readings.values.sys ≡ neg_ℤ p.readings.values.sys)
    -- a trough of the one is a peak of the other
    pub peak_near : (q.readings.peak +ℤ p.readings.trof) within steps
    pub trof_near : (q.readings.trof +ℤ p.readings.peak) within steps
    pub flags : ChangeSides p.flag q.flag

-- a sheet for the cell pushed and one for it pulled, each accepted
pub record Pair (sheet mirror : List ℕ) (station other : ℕ) : Type 0 where
  pub accepted : (made sheet station).number ≡ 0
  pub mirror_accepted : (made mirror other).number ≡ 0
  pub mirrors : Mirrors (read_sheet sheet).figures (read_sheet mirror).figures

abbrev pub table_of : List ℕ → List Point
table_of sheet = linearities (read_sheet sheet).figures.linearity

-- the state of a device made of a sheet, after some calls
abbrev pub state_of : List ℕ → ℕ → List Call → State
state_of sheet station calls = (run (made sheet station).device calls).state

pub record MirroredSheet (sheet : List ℕ) (station : ℕ) : Type 0 where
  pub bytes : List ℕ
  pub pair : Pair sheet bytes station station

pub record BothWays : Type 0 where
  -- the same readings are turned down, with the same number
  pub number_is : (d e : Device) (x : Sample) → number e (pull x) ≡ number d (push x)
  -- after any run
  pub near : (sheet mirror : List ℕ) (station other : ℕ) → Pair sheet mirror station other
      → (samples : List Sample) → Opposite 1 8 (table_of sheet) (state_of sheet station (map push samples)) (state_of mirror other (map pull samples))
  -- and exactly, where the sheet corrects nothing: every CLK is 0
  pub exact : (sheet mirror : List ℕ) (station other : ℕ) → Pair sheet mirror station other → ColumnWithin 1 0 (table_of sheet)
      → (samples : List Sample) → Opposite 0 0 (table_of sheet) (state_of sheet station (map push samples)) (state_of mirror other (map pull samples))
  -- for every accepted sheet there is such a pair
  pub paired : (sheet : List ℕ) (station : ℕ) → (made sheet station).number ≡ 0 → MirroredSheet sheet station
