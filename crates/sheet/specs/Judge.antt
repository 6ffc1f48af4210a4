-- How figures are judged (01, "Turned-down calls"): "A sheet is judged left to right: for each figure 1, then 3, then 4, 5 or 6
-- once both sides are known; 7 last." The same judgement serves a sheet's figures, which may be missing, and figures by
-- themselves, which are not: `short` says whether what ends at a place is missing.
use Rattle.std.specs.Prelude.{ℕ, zero, suc, ◌+◌, ◌*◌, cond, List, get_or, ℤ, pos, ◌-ℤ◌, neg_ℤ, int_lt, nat_lt, slice_index_or, unsigned_abs}
use Rattle.figures.specs.Limits.{cofs_most, cgai_most, cell_most, ct_most, cto_most, ctg_most, clx_most, clk_most, sofs_most, sgai_most, system_most, sz_most, fflv_most, ffst_most}
use Rattle.figures.specs.Unused.{no_linearity, no_temperature}
use Rattle.figures.specs.declared.Cell.{Cell}
use Rattle.figures.specs.declared.TemperaturePoint.{TemperaturePoint}
use Rattle.figures.specs.declared.Temperature.{Temperature}
use Rattle.figures.specs.declared.LinearityPoint.{LinearityPoint}
use Rattle.figures.specs.declared.Linearity.{Linearity}
use Rattle.figures.specs.declared.System.{System}
use Rattle.figures.specs.declared.Filter.{Filter}
use Rattle.figures.specs.declared.Calibration.{Calibration}
use Rattle.sheet.specs.Places.{temperature_point_size, linearity_point_size, temperature_start, linearity_start, system_start, filter_start}

-- the first fault counts
infixr 40 ◌then◌
abbrev pub ◌then◌ : ℕ → ℕ → ℕ
zero then later = later
suc n then later = suc n

-- ---- the numbers

-- 1 "it ends before a count or figure that is due": room for `room` bytes, and what is due ends at `end`
unfoldable pub short_of : ℕ → ℕ → ℕ
short_of room end = cond (nat_lt room end) 1 0

-- figures by themselves are all there
abbrev pub never : ℕ → ℕ
never end = 0

-- 2 "count not in the table above"
unfoldable pub wrong_count : ℕ → ℕ → ℕ → ℕ
wrong_count least most n = cond (nat_lt n least) 2 (cond (nat_lt most n) 2 0)

-- 3 "beyond its range"
unfoldable pub out_of_range : ℤ → ℤ → ℤ → ℕ
out_of_range least most v = cond (int_lt v least) 3 (cond (int_lt most v) 3 0)

-- 4 "CT or CLX not above the one before", 6 "CMIN not below CMAX, or SMIN not below SMAX"
unfoldable pub not_below : ℕ → ℤ → ℤ → ℕ
not_below number a b = cond (int_lt a b) 0 number

-- 5 "the CLK rule broken": 4 × the change of CLK is at most the change of CLX, signs ignored
unfoldable pub too_steep : LinearityPoint → LinearityPoint → ℕ
too_steep p q = cond (nat_lt (unsigned_abs (q.clx -ℤ p.clx)) (4 * unsigned_abs (q.clk -ℤ p.clk))) 5 0

-- 7 "bytes after the last section"
unfoldable pub trailing : ℕ → ℕ → ℕ
trailing room end = cond (nat_lt end room) 7 0

-- ---- the points of a table, each by its index

abbrev pub points_number : (ℕ → ℕ) → ℕ → ℕ
points_number number zero = 0
points_number number (suc i) = points_number number i then number i

-- a point against the one before; the first has none
abbrev pub against : {A : Type 0} → A → (A → A → ℕ) → List A → ℕ → ℕ
against none number points zero = 0
against none number points (suc i) = number (slice_index_or points i none) (slice_index_or points (suc i) none)

module _ (short : ℕ → ℕ) where
  -- ---- a count and a figure at a place

  abbrev pub count_number : ℕ → ℕ → ℕ → ℕ → ℕ
  count_number at least most n = short (at + 1) then wrong_count least most n

  abbrev pub range_number : ℕ → ℤ → ℤ → ℤ → ℕ
  range_number at least most v = short (at + 8) then out_of_range least most v

  -- of magnitude `most` or less
  abbrev pub figure_number : ℕ → ℕ → ℤ → ℕ
  figure_number at most v = range_number at (neg_ℤ (pos most)) (pos most) v

  -- ---- the sections, each from its place

  unfoldable pub cell_number : ℕ → ℕ → Cell → ℕ
  cell_number at count c =
      count_number at 4 4 count
      then figure_number (at + 1) cofs_most c.cofs
      then figure_number (at + 9) cgai_most c.cgai
      then figure_number (at + 17) cell_most c.cmin
      then figure_number (at + 25) cell_most c.cmax
      then not_below 6 c.cmin c.cmax

  unfoldable pub temperature_point_number : ℕ → List TemperaturePoint → ℕ → ℕ
  temperature_point_number at points i =
      figure_number at ct_most (get_or points i no_temperature).ct
      then against no_temperature (λ p q. not_below 4 p.ct q.ct) points i
      then figure_number (at + 8) cto_most (get_or points i no_temperature).cto
      then figure_number (at + 16) ctg_most (get_or points i no_temperature).ctg

  unfoldable pub temperature_number : ℕ → Temperature → ℕ
  temperature_number at t = count_number at 2 5 t.ctn then points_number (λ i. temperature_point_number (at + 1 + temperature_point_size * i) t.points i) t.ctn

  unfoldable pub linearity_point_number : ℕ → List LinearityPoint → ℕ → ℕ
  linearity_point_number at points i =
      figure_number at clx_most (get_or points i no_linearity).clx
      then against no_linearity (λ p q. not_below 4 p.clx q.clx) points i
      then figure_number (at + 8) clk_most (get_or points i no_linearity).clk
      then against no_linearity too_steep points i

  unfoldable pub linearity_number : ℕ → Linearity → ℕ
  linearity_number at l = count_number at 2 7 l.cln then points_number (λ i. linearity_point_number (at + 1 + linearity_point_size * i) l.points i) l.cln

  unfoldable pub system_number : ℕ → ℕ → System → ℕ
  system_number at count s =
      count_number at 5 5 count
      then figure_number (at + 1) sofs_most s.sofs
      then figure_number (at + 9) sgai_most s.sgai
      then figure_number (at + 17) system_most s.smin
      then figure_number (at + 25) system_most s.smax
      then not_below 6 s.smin s.smax
      then figure_number (at + 33) sz_most s.sz

  -- "FFLV 0 to 39,321,600; FFST 0 to 1,000"
  unfoldable pub filter_number : ℕ → ℕ → Filter → ℕ
  filter_number at count f =
      count_number at 2 2 count
      then range_number (at + 1) (pos 0) (pos fflv_most) f.fflv
      then range_number (at + 9) (pos 0) (pos ffst_most) f.ffst

-- ---- all five, with the counts that stand before cell, system and filter

unfoldable pub sections_number : (ℕ → ℕ) → ℕ → ℕ → ℕ → Calibration → ℕ
sections_number short cell system filter c =
    let ctn = c.temperature.ctn in
    let cln = c.linearity.cln in
    cell_number short 0 cell c.cell
    then temperature_number short temperature_start c.temperature
    then linearity_number short (linearity_start ctn) c.linearity
    then system_number short (system_start ctn cln) system c.system
    then filter_number short (filter_start ctn cln) filter c.filter

-- figures by themselves: 2 to 6 in sheet order
unfoldable pub figures_number : Calibration → ℕ
figures_number c = sections_number never 4 5 2 c
