-- Which figure a register is, once more by Change 1's numbers alone, and what a write does to the figures, as properties: "CGAI 40, COFS
-- 41, CMIN 44, CMAX 45, CLN 50, CLX 51 to 57, CLK 61 to 67, SGAI 70, SOFS 71, SMIN 74, SMAX 75, FFLV 92, FFST 93, CTN 110, CT 111 to
-- 115, CTG 116 to 120, CTO 121 to 125". `figure_at`, `is_figure` and `written` of `Figure.antt` have them (proofs/Placed.antt).
use Rattle.std.specs.Prelude.{◌≡◌, true, false, List, ◌∷◌, ◌++◌, ℕ, ◌+◌, ◌<◌, pos, Float, get_or}
use Rattle.figures.specs.Unused.{no_linearity, no_temperature}
use Rattle.figures.specs.Representable.{Representable}
use Rattle.figures.specs.declared.TemperaturePoint.{TemperaturePoint}
use Rattle.figures.specs.declared.LinearityPoint.{LinearityPoint}
use Rattle.figures.specs.declared.Calibration.{Calibration}
use Rattle.binary32.specs.Received.{counted}
use Rattle.register.specs.Register.{range_of}
use Rattle.register.specs.Listed.{from, is_in}
use Rattle.panel.specs.Figure.{figure_at, is_figure, written}

-- a table's point, by its index
abbrev pub temperature_point : Calibration → ℕ → TemperaturePoint
temperature_point c i = get_or c.temperature.points i no_temperature

abbrev pub linearity_point : Calibration → ℕ → LinearityPoint
linearity_point c i = get_or c.linearity.points i no_linearity

pub record Shown (c : Calibration) : Type 0 where
  pub cgai : figure_at c 40 ≡ c.cell.cgai
  pub cofs : figure_at c 41 ≡ c.cell.cofs
  pub cmin : figure_at c 44 ≡ c.cell.cmin
  pub cmax : figure_at c 45 ≡ c.cell.cmax
  pub cln : figure_at c 50 ≡ pos c.linearity.cln
  pub clx : (i : ℕ) → i < 7 → figure_at c (51 + i) ≡ (linearity_point c i).clx
  pub clk : (i : ℕ) → i < 7 → figure_at c (61 + i) ≡ (linearity_point c i).clk
  pub sgai : figure_at c 70 ≡ c.system.sgai
  pub sofs : figure_at c 71 ≡ c.system.sofs
  pub smin : figure_at c 74 ≡ c.system.smin
  pub smax : figure_at c 75 ≡ c.system.smax
  pub fflv : figure_at c 92 ≡ c.filter.fflv
  pub ffst : figure_at c 93 ≡ c.filter.ffst
  pub ctn : figure_at c 110 ≡ pos c.temperature.ctn
  pub ct : (i : ℕ) → i < 5 → figure_at c (111 + i) ≡ (temperature_point c i).ct
  pub ctg : (i : ℕ) → i < 5 → figure_at c (116 + i) ≡ (temperature_point c i).ctg
  pub cto : (i : ℕ) → i < 5 → figure_at c (121 + i) ≡ (temperature_point c i).cto

abbrev pub numbers : List ℕ
numbers = 40 ∷ 41 ∷ 44 ∷ 45 ∷ 50 ∷ from 7 51 ++ from 7 61 ++ (70 ∷ 71 ∷ 74 ∷ 75 ∷ 92 ∷ 93 ∷ 110 ∷ from 5 111 ++ from 5 116 ++ from 5 121)

pub record Placed : Type 0 where
  pub shown : (c : Calibration) → Shown c
  -- these registers and no other
  pub these : (n : ℕ) → is_figure n ≡ is_in numbers n
  pub no_other : (c : Calibration) (n : ℕ) → is_figure n ≡ false → figure_at c n ≡ pos 0
  -- after a write the register shows the value's count, and any other what it showed; SZ has no register here
  pub written_read : (c : Calibration) → Representable c → (n : ℕ) (x : Float) → is_figure n ≡ true → figure_at (written c n x) n ≡ counted (range_of n) x
  pub others_kept : (c : Calibration) → Representable c → (n : ℕ) (x : Float) (m : ℕ) → (m ≡ n → ⊥) → figure_at (written c n x) m ≡ figure_at c m
  pub sz_kept : (c : Calibration) (n : ℕ) (x : Float) → (written c n x).system.sz ≡ c.system.sz
