-- Which figure a register is (Change 1): "CGAI 40, COFS 41, CMIN 44, CMAX 45, CLN 50, CLX 51 to 57, CLK 61 to 67, SGAI 70, SOFS 71,
-- SMIN 74, SMAX 75, FFLV 92, FFST 93, CTN 110, CT 111 to 115, CTG 116 to 120, CTO 121 to 125". Scale and range of each stand in
-- `register/specs/Register.antt`.
use Rattle.std.specs.Prelude.{Bool, false, cond, ◌&&◌, ◌||◌, List, [], ◌∷◌, ℕ, suc, ◌+◌, ◌-◌, eqb, leb, ltb, ℤ, pos, nat_abs, Float, get_or}
use Rattle.figures.specs.Unused.{no_linearity, no_temperature}
use Rattle.figures.specs.declared.Cell.{Cell}
use Rattle.figures.specs.declared.TemperaturePoint.{TemperaturePoint}
use Rattle.figures.specs.declared.Temperature.{Temperature}
use Rattle.figures.specs.declared.LinearityPoint.{LinearityPoint}
use Rattle.figures.specs.declared.Linearity.{Linearity}
use Rattle.figures.specs.declared.System.{System}
use Rattle.figures.specs.declared.Filter.{Filter}
use Rattle.figures.specs.declared.Calibration.{Calibration}
use Rattle.binary32.specs.Sent.{count_float}
use Rattle.binary32.specs.Received.{counted}
use Rattle.register.specs.Number.{CGAI, COFS, CMIN, CMAX, CLN, CLX, CLK, SGAI, SOFS, SMIN, SMAX, FFLV, FFST, CTN, CT, CTG, CTO}
use Rattle.register.specs.Register.{range_of}

-- ---- the figure at a register; 0 at any other

abbrev pub among : ℕ → ℕ → ℕ → Bool
among first last n = leb first n && leb n last

unfoldable pub cell_figure : Cell → ℕ → ℤ
cell_figure c n = cond (eqb n CGAI) c.cgai (cond (eqb n COFS) c.cofs (cond (eqb n CMIN) c.cmin (cond (eqb n CMAX) c.cmax (pos 0))))

unfoldable pub linearity_figure : Linearity → ℕ → ℤ
linearity_figure l n =
    cond (eqb n CLN) (pos l.cln)
    (cond (among CLX (CLX + 6) n) (get_or l.points (n - CLX) no_linearity).clx
    (cond (among CLK (CLK + 6) n) (get_or l.points (n - CLK) no_linearity).clk
    (pos 0)))

unfoldable pub system_figure : System → ℕ → ℤ
system_figure s n = cond (eqb n SGAI) s.sgai (cond (eqb n SOFS) s.sofs (cond (eqb n SMIN) s.smin (cond (eqb n SMAX) s.smax (pos 0))))

unfoldable pub filter_figure : Filter → ℕ → ℤ
filter_figure f n = cond (eqb n FFLV) f.fflv (cond (eqb n FFST) f.ffst (pos 0))

unfoldable pub temperature_figure : Temperature → ℕ → ℤ
temperature_figure t n =
    cond (eqb n CTN) (pos t.ctn)
    (cond (among CT (CT + 4) n) (get_or t.points (n - CT) no_temperature).ct
    (cond (among CTG (CTG + 4) n) (get_or t.points (n - CTG) no_temperature).ctg
    (cond (among CTO (CTO + 4) n) (get_or t.points (n - CTO) no_temperature).cto
    (pos 0))))

unfoldable pub figure_at : Calibration → ℕ → ℤ
figure_at c n =
    cond (ltb n CLN) (cell_figure c.cell n)
    (cond (ltb n SGAI) (linearity_figure c.linearity n)
    (cond (ltb n FFLV) (system_figure c.system n)
    (cond (ltb n CTN) (filter_figure c.filter n)
    (temperature_figure c.temperature n))))

-- is a register that of a figure?
unfoldable pub is_figure : ℕ → Bool
is_figure n =
    cond (ltb n CLN) (eqb n CGAI || (eqb n COFS || (eqb n CMIN || (eqb n CMAX || false))))
    (cond (ltb n SGAI) (eqb n CLN || (among CLX (CLX + 6) n || (among CLK (CLK + 6) n || false)))
    (cond (ltb n FFLV) (eqb n SGAI || (eqb n SOFS || (eqb n SMIN || (eqb n SMAX || false))))
    (cond (ltb n CTN) (eqb n FFLV || (eqb n FFST || false))
    (eqb n CTN || (among CT (CT + 4) n || (among CTG (CTG + 4) n || (among CTO (CTO + 4) n || false)))))))

-- "each figure ÷ its own scale with one rounding, counts and FFST whole"
unfoldable pub figure_float : Calibration → ℕ → Float
figure_float c n = count_float (range_of n).shift (figure_at c n)

-- ---- all figures, that of register n being z: each field with its register's number

abbrev pub put : ℕ → ℤ → ℕ → ℤ → ℤ
put n z m v = cond (eqb m n) z v

-- each point, with its index
abbrev pub numbered : {A : Type 0} → (ℕ → A → A) → ℕ → List A → List A
numbered f i [] = []
numbered f i (p ∷ ps) = f i p ∷ numbered f (suc i) ps

module _ (n : ℕ) (z : ℤ) where
  unfoldable pub cell_with : Cell → Cell
  cell_with c = record { cofs = put n z COFS c.cofs; cgai = put n z CGAI c.cgai; cmin = put n z CMIN c.cmin; cmax = put n z CMAX c.cmax }

  unfoldable pub temperature_point_with : ℕ → TemperaturePoint → TemperaturePoint
  temperature_point_with i p = record { ct = put n z (CT + i) p.ct; cto = put n z (CTO + i) p.cto; ctg = put n z (CTG + i) p.ctg }

  unfoldable pub temperature_with : Temperature → Temperature
  temperature_with t = record { ctn = nat_abs (put n z CTN (pos t.ctn)); points = numbered temperature_point_with 0 t.points }

  unfoldable pub linearity_point_with : ℕ → LinearityPoint → LinearityPoint
  linearity_point_with i p = record { clx = put n z (CLX + i) p.clx; clk = put n z (CLK + i) p.clk }

  unfoldable pub linearity_with : Linearity → Linearity
  linearity_with l = record { cln = nat_abs (put n z CLN (pos l.cln)); points = numbered linearity_point_with 0 l.points }

  -- SZ has no register in the copy
  unfoldable pub system_with : System → System
  system_with s = record { sofs = put n z SOFS s.sofs; sgai = put n z SGAI s.sgai; smin = put n z SMIN s.smin; smax = put n z SMAX s.smax; sz = s.sz }

  unfoldable pub filter_with : Filter → Filter
  filter_with f = record { fflv = put n z FFLV f.fflv; ffst = put n z FFST f.ffst }

  unfoldable pub with_figure : Calibration → Calibration
  with_figure c = record {
    cell = cell_with c.cell;
    temperature = temperature_with c.temperature;
    linearity = linearity_with c.linearity;
    system = system_with c.system;
    filter = filter_with c.filter;
  }

-- "Values are rounded as SZ is, gains and gain adjustments to 1/2^28."
unfoldable pub written : Calibration → ℕ → Float → Calibration
written c n x = with_figure n (counted (range_of n) x) c
