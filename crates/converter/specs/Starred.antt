-- The starred cases of 01's "Edges", and the entries "to be proved" of Change 8, all layers together: one table with one statement, that the definitions give each row's
-- results from its arguments. Nothing is to be believed here but that it is the paper's list.
use Rattle.std.specs.Prelude.{◌≡◌, Bool, true, false, List, [], ◌∷◌, map, ℕ, ◌+◌, ℤ, pos, neg_ℤ, length, Float}
use Rattle.std.specs.Float.{fin, binary32}
use Rattle.std.specs.Float.Ieee.{to_bits, of_bits}
use Rattle.arithmetic.specs.Round.{round_div}
use Rattle.arithmetic.specs.Table.{interpolated}
use Rattle.arithmetic.specs.Mirror.{two_points}
use Rattle.figures.specs.Default.{default_sheet, apart}
use Rattle.figures.specs.Unused.{no_temperature}
use Rattle.figures.specs.declared.Calibration.{Calibration}
use Rattle.figures.specs.declared.Filter.{Filter}
use Rattle.sheet.specs.Forms.{sheet_number}
use Rattle.sheet.specs.Write.{sheet_bytes}
use Rattle.compensation.specs.Filter.{filtered}
use Rattle.compensation.specs.Reading.{raw_cell, craw}
use Rattle.compensation.specs.Stat.{bit_at, stat, crawor}
use Rattle.probe.specs.Platinum.{entry}
use Rattle.binary32.specs.Sent.{step_float}
use Rattle.binary32.specs.Received.{takes, counted}
use Rattle.register.specs.Number.{SZ}
use Rattle.register.specs.Register.{range_of}

-- ---- what the cases are about

-- "CGAI 5,368,709,120, .. COFS 0", with g at every temperature: CTG g at both points
abbrev pub gain_of20 : ℤ → Calibration
gain_of20 g = record {
  cell = record { cofs = pos 0; cgai = pos 5368709120; cmin = default_sheet.cell.cmin; cmax = default_sheet.cell.cmax };
  temperature = record {
    ctn = 2;
    points = record { ct = pos 0; cto = pos 0; ctg = g } ∷ record { ct = pos 1638400; cto = pos 0; ctg = g } ∷ no_temperature ∷ no_temperature ∷ no_temperature ∷ [];
  };
  linearity = default_sheet.linearity;
  system = default_sheet.system;
  filter = default_sheet.filter;
}

-- "FFST 4"
abbrev pub four_steps : ℤ → Filter
four_steps fflv = record { fflv = fflv; ffst = pos 4 }

-- ---- a case: its arguments, and last its results

pub data Case : Type 0 where
  -- a ÷ d is r
  rounded : (a d r : ℤ) → Case
  -- `two_points` at t give v
  at_points : (t v : ℤ) → Case
  -- the default sheet at this ELEC: raw cell, CRAW, and CRAWOR 0 or 1
  in_default : (elec raw held : ℤ) (over : ℕ) → Case
  -- `gain_of20` with g, at ELEC 6,553,600: raw cell
  adjusted : (g raw : ℤ) → Case
  -- held 0, input 10, `four_steps`, after the input 0 ("The filter cases in 01 start from input 0 and hold unchanged.", Change 2): by FFLV,
  -- the held value
  filtered_by : (fflv held : ℤ) → Case
  -- steps, and the pattern of their float
  goes_out : (steps : ℤ) (pattern : ℕ) → Case
  -- CLK this far apart: the sheet's number, 0 for an accepted one
  sheet_judged : (clk : ℤ) (number : ℕ) → Case
  -- a pattern written to SZ: the float that it is, whether SZ takes it, and SZ in steps
  becomes : (pattern : ℕ) (x : Float) (taken : Bool) (steps : ℤ) → Case
  -- the platinum table's entry at a °C
  resistance : (celsius ohms : ℤ) → Case

-- the case with its arguments alone, each result 0
abbrev pub asked : Case → Case
asked (rounded a d _) = rounded a d (pos 0)
asked (at_points t _) = at_points t (pos 0)
asked (in_default elec _ _ _) = in_default elec (pos 0) (pos 0) 0
asked (adjusted g _) = adjusted g (pos 0)
asked (filtered_by fflv _) = filtered_by fflv (pos 0)
asked (goes_out steps _) = goes_out steps 0
asked (sheet_judged clk _) = sheet_judged clk 0
asked (becomes pattern _ _ _) = becomes pattern (fin false 0 (pos 0)) false (pos 0)
asked (resistance celsius _) = resistance celsius (pos 0)

-- with the results that the definitions give from its arguments
abbrev pub worked : Case → Case
worked (rounded a d _) = rounded a d (round_div a d)
worked (at_points t _) = at_points t (interpolated 1 two_points t)
worked (in_default elec _ _ _) =
    in_default elec (raw_cell default_sheet elec (pos 0)) (craw default_sheet elec (pos 0)) (bit_at crawor (stat default_sheet elec (pos 0) 0))
worked (adjusted g _) = adjusted g (raw_cell (gain_of20 g) (pos 6553600) (pos 0))
worked (filtered_by fflv _) = filtered_by fflv (filtered (four_steps fflv) false (pos 0) (pos 0) (pos 10))
worked (goes_out steps _) = goes_out steps (to_bits binary32 (step_float steps))
worked (sheet_judged clk _) = sheet_judged clk (sheet_number (sheet_bytes (apart clk)))
worked (becomes pattern _ _ _) =
    becomes pattern (of_bits binary32 pattern) (takes (range_of SZ) (of_bits binary32 pattern)) (counted (range_of SZ) (of_bits binary32 pattern))
worked (resistance celsius _) = resistance celsius (entry celsius)

-- ---- the table, in the paper's order

abbrev pub starred : List Case
starred =
    -- "round: 5÷2 is 3;", and Change 5: "In 01, −5÷2 becomes −3, −3÷2 becomes −2,"
    rounded (pos 5) (pos 2) (pos 3)
    ∷ rounded (neg_ℤ (pos 5)) (pos 2) (neg_ℤ (pos 3))
    ∷ rounded (neg_ℤ (pos 3)) (pos 2) (neg_ℤ (pos 2))
    -- "Points 0→0, 4→10: at 1 gives 3; at −7 gives 0; at 9 gives 10."
    ∷ at_points (pos 1) (pos 3)
    ∷ at_points (neg_ℤ (pos 7)) (pos 0)
    ∷ at_points (pos 9) (pos 10)
    -- "Default sheet, raw cell 9,830,400: no CRAWOR; 9,830,401 raises it, CRAW 9,830,400."
    ∷ in_default (pos 9830400) (pos 9830400) (pos 9830400) 0
    ∷ in_default (pos 9830401) (pos 9830401) (pos 9830400) 1
    -- "CGAI 5,368,709,120, ELEC 6,553,600, COFS 0, no adjustments: raw cell 131,072,000; with g 2,684,355: 132,382,720."
    ∷ adjusted (pos 0) (pos 131072000)
    ∷ adjusted (pos 2684355) (pos 132382720)
    -- "Held 0, input 10, FFST 4: FFLV 10 gives 3; FFLV 9 gives 10."
    ∷ filtered_by (pos 10) (pos 3)
    ∷ filtered_by (pos 9) (pos 10)
    -- "Floats: 6,553,600 is 42C80000 (hexadecimal); 0 is 00000000; −1 is B7800000; 16,777,217 is 43800000."
    ∷ goes_out (pos 6553600) 0x42C80000
    ∷ goes_out (pos 0) 0x00000000
    ∷ goes_out (neg_ℤ (pos 1)) 0xB7800000
    ∷ goes_out (pos 16777217) 0x43800000
    -- "CLX 400 apart: CLK 100 apart is accepted, 101 is refused with 5."
    ∷ sheet_judged (pos 100) 0
    ∷ sheet_judged (pos 101) 5
    -- "SZ 2^−17 becomes 1 step,", and Change 5: "SZ −2^−17 becomes −1 step". `fin s m e` is m × 2^e, negative where s is `true`.
    ∷ becomes 0x37000000 (fin false 1 (neg_ℤ (pos 17))) true (pos 1)
    ∷ becomes 0xB7000000 (fin true 1 (neg_ℤ (pos 17))) true (neg_ℤ (pos 1))
    -- Change 8: "−50 is 803,063; 0 is 1,000,000; 100 is 1,385,055; 150 is 1,573,251"
    ∷ resistance (neg_ℤ (pos 50)) (pos 803063)
    ∷ resistance (pos 0) (pos 1000000)
    ∷ resistance (pos 100) (pos 1385055)
    ∷ resistance (pos 150) (pos 1573251)
    ∷ []

-- Each case is worked from what it asks: of every kind some case has a result that is not 0, so that none is taken over. And no
-- case is missing: the papers' nine lines have so many.
pub record Starred : Type 0 where
  pub hold : map worked (map asked starred) ≡ starred
  pub all : length starred ≡ 3 + 3 + 2 + 2 + 2 + 4 + 2 + 2 + 4
