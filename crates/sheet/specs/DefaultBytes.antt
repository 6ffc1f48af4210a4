-- The default sheet once more, byte by byte: "The default sheet is 001's: offsets and adjustments 0, gains 1, CT 0 and 25 °C, CLX 0
-- and 100, both ranges ±150, SZ 0, filter 0 and 0" (01). A step is 1/65,536 of a unit and a gain counts in 2^28 parts, so the
-- third byte of a figure counts whole units, and the fourth of a gain in sixteenths.
use Rattle.std.specs.Prelude.{◌≡◌, ℕ, List, [], ◌∷◌, ◌++◌, pos}
use Rattle.figures.specs.Default.{default_sheet}
use Rattle.figures.specs.Unused.{no_temperature, no_linearity}
use Rattle.figures.specs.declared.Calibration.{Calibration}
use Rattle.sheet.specs.Write.{sheet_bytes}

-- figures: 0, a gain of 1, and so many units, above 0 and below
abbrev nought : List ℕ
nought = 0 ∷ 0 ∷ 0 ∷ 0 ∷ 0 ∷ 0 ∷ 0 ∷ 0 ∷ []

abbrev gain_of1 : List ℕ
gain_of1 = 0 ∷ 0 ∷ 0 ∷ 16 ∷ 0 ∷ 0 ∷ 0 ∷ 0 ∷ []

abbrev units : ℕ → List ℕ
units n = 0 ∷ 0 ∷ n ∷ 0 ∷ 0 ∷ 0 ∷ 0 ∷ 0 ∷ []

abbrev minus150 : List ℕ
minus150 = 0 ∷ 0 ∷ 106 ∷ 255 ∷ 255 ∷ 255 ∷ 255 ∷ 255 ∷ []

abbrev pub default_bytes : List ℕ
default_bytes =
    -- cell: COFS, CGAI, CMIN, CMAX
    4 ∷ nought ++ gain_of1 ++ minus150 ++ units 150
    -- temperature: CT, CTO, CTG of two points
    ++ 2 ∷ units 0 ++ nought ++ nought ++ units 25 ++ nought ++ nought
    -- linearity: CLX, CLK of two points
    ++ 2 ∷ units 0 ++ nought ++ units 100 ++ nought
    -- system: SOFS, SGAI, SMIN, SMAX, SZ
    ++ 5 ∷ nought ++ gain_of1 ++ minus150 ++ units 150 ++ nought
    -- filter: FFLV, FFST
    ++ 2 ∷ nought ++ nought

abbrev pub DefaultBytes : Type 0
DefaultBytes = sheet_bytes default_sheet ≡ default_bytes

-- ---- Of the default's figures many are 0. These all differ, so that no two can stand for each other unseen.

abbrev small : ℕ → List ℕ
small n = n ∷ 0 ∷ 0 ∷ 0 ∷ 0 ∷ 0 ∷ 0 ∷ 0 ∷ []

abbrev pub differing : Calibration
differing = record {
  cell = record { cofs = pos 1; cgai = pos 2; cmin = pos 3; cmax = pos 4 };
  temperature = record {
    ctn = 2;
    points = record { ct = pos 5; cto = pos 6; ctg = pos 7 } ∷ record { ct = pos 8; cto = pos 9; ctg = pos 10 } ∷ no_temperature ∷ no_temperature ∷ no_temperature ∷ [];
  };
  linearity = record {
    cln = 2;
    points = record { clx = pos 11; clk = pos 12 } ∷ record { clx = pos 13; clk = pos 14 } ∷ no_linearity ∷ no_linearity ∷ no_linearity ∷ no_linearity ∷ no_linearity ∷ [];
  };
  system = record { sofs = pos 15; sgai = pos 16; smin = pos 17; smax = pos 18; sz = pos 19 };
  filter = record { fflv = pos 20; ffst = pos 21 };
}

abbrev pub differing_bytes : List ℕ
differing_bytes =
    4 ∷ small 1 ++ small 2 ++ small 3 ++ small 4
    ++ 2 ∷ small 5 ++ small 6 ++ small 7 ++ small 8 ++ small 9 ++ small 10
    ++ 2 ∷ small 11 ++ small 12 ++ small 13 ++ small 14
    ++ 5 ∷ small 15 ++ small 16 ++ small 17 ++ small 18 ++ small 19
    ++ 2 ∷ small 20 ++ small 21

abbrev pub DifferingBytes : Type 0
DifferingBytes = sheet_bytes differing ≡ differing_bytes
