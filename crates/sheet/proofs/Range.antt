-- Which numbers occur: a sheet gets 0 to 7, figures by themselves 0 or 2 to 6. What holds of 0, of 2 to 6 and of the number for
-- what is missing holds of every judgement. Assumes nothing.
use Rattle.std.proofs.Common.{◌≡◌, ℕ, zero, suc, ◌+◌, ◌*◌, ◌≤◌, Bool, true, false, cond, ltb, ◌⊎◌, List, length, get_or, drop, ℤ, pos, ◌-ℤ◌, neg_ℤ, nat_abs, refl, inl, inr, arith}
use lib.Signed.{lt_z}
use Rattle.figures.specs.Limits.{cofs_most, cgai_most, cell_most, ct_most, cto_most, ctg_most, clx_most, clk_most, sofs_most, sgai_most, system_most, sz_most, fflv_most, ffst_most}
use Rattle.figures.specs.Unused.{no_linearity, no_temperature}
use Rattle.figures.specs.declared.Cell.{Cell}
use Rattle.figures.specs.declared.TemperaturePoint.{TemperaturePoint}
use Rattle.figures.specs.declared.Temperature.{Temperature}
use Rattle.figures.specs.declared.LinearityPoint.{LinearityPoint}
use Rattle.figures.specs.declared.Linearity.{Linearity}
use Rattle.figures.specs.declared.System.{System}
use Rattle.figures.specs.declared.Filter.{Filter}
use Rattle.figures.specs.declared.Calibration.{Calibration}
use Rattle.sheet.specs.Places.{temperature_start, linearity_start, system_start, filter_start, sheet_end, identity_size}
use Rattle.sheet.specs.Judge.{◌then◌, short_of, never, wrong_count, out_of_range, not_below, too_steep, trailing, points_number, against}
use Rattle.sheet.specs.Judge.{count_number, range_number, figure_number, cell_number, temperature_point_number, temperature_number, linearity_point_number, linearity_number, system_number, filter_number, sections_number, figures_number}
use Rattle.sheet.specs.Read.{figures_of, old_number, ctn_of, cln_of}
use Rattle.sheet.specs.Forms.{serial_most, day_most, identity_at, identity_number, own_identity_number, is_new, new_number, sheet_number}
use Rattle.sheet.specs.declared.Identity.{Identity}
use Rattle.sheet.specs.Bytes.{count_at}

module _ (P : ℕ → Type 0) where
  keep : {a b : ℕ} → P a → P b → P (a then b)
  keep {a = zero} p q = q
  keep {a = suc n} p q = p

  picked : {a b : ℕ} (t : Bool) → P a → P b → P (cond t a b)
  picked true p q = p
  picked false p q = q

  module _ (none : P 0) where
    points-keep : (number : ℕ → ℕ) (n : ℕ) → ((i : ℕ) → P (number i)) → P (points_number number n)
    points-keep number zero h = none
    points-keep number (suc n) h = keep (points-keep number n h) (h n)

    against-keeps : {A : Type 0} (first : A) (number : A → A → ℕ) (ps : List A) (i : ℕ) → ((p q : A) → P (number p q)) → P (against first number ps i)
    against-keeps first number ps zero h = none
    against-keeps first number ps (suc i) h = h _ _

    module _ (two : P 2) (three : P 3) (four : P 4) (five : P 5) (six : P 6) (short : ℕ → ℕ) (missing : (e : ℕ) → P (short e)) where
      count-keeps : (at least most n : ℕ) → P (count_number short at least most n)
      unfolding wrong_count
      count-keeps at least most n = keep (missing (at + 1)) (picked (ltb n least) two (picked (ltb most n) two none))

      range-keeps : (at : ℕ) (least most v : ℤ) → P (range_number short at least most v)
      unfolding out_of_range
      range-keeps at least most v = keep (missing (at + 8)) (picked (lt_z v least) three (picked (lt_z most v) three none))

      below-keeps : (k : ℕ) (a b : ℤ) → P k → P (not_below k a b)
      unfolding not_below
      below-keeps k a b h = picked (lt_z a b) none h

      steep-keeps : (p q : LinearityPoint) → P (too_steep p q)
      unfolding too_steep
      steep-keeps p q = picked (ltb (nat_abs (q.clx -ℤ p.clx)) (4 * nat_abs (q.clk -ℤ p.clk))) five none

      figure-keeps : (at n : ℕ) (v : ℤ) → P (figure_number short at n v)
      figure-keeps at n v = range-keeps at (neg_ℤ (pos n)) (pos n) v

      cell-keeps : (at n : ℕ) (c : Cell) → P (cell_number short at n c)
      unfolding cell_number
      cell-keeps at n c =
          keep (count-keeps at 4 4 n) (keep (figure-keeps (at + 1) cofs_most c.cofs) (keep (figure-keeps (at + 9) cgai_most c.cgai) (keep (figure-keeps (at + 17) cell_most c.cmin) (keep (figure-keeps (at + 25) cell_most c.cmax) (below-keeps 6 c.cmin c.cmax six)))))

      temperature-point-keeps : (at : ℕ) (ps : List TemperaturePoint) (i : ℕ) → P (temperature_point_number short at ps i)
      unfolding temperature_point_number
      temperature-point-keeps at ps i =
          keep (figure-keeps (at) ct_most (get_or ps i no_temperature).ct) (keep (against-keeps no_temperature (λ p q. not_below 4 p.ct q.ct) ps i (λ p q. below-keeps 4 p.ct q.ct four))
          (keep (figure-keeps (at + 8) cto_most (get_or ps i no_temperature).cto) (figure-keeps (at + 16) ctg_most (get_or ps i no_temperature).ctg)))

      temperature-keeps : (at : ℕ) (t : Temperature) → P (temperature_number short at t)
      unfolding temperature_number
      temperature-keeps at t =
          keep (count-keeps at 2 5 t.ctn) (points-keep (λ i. temperature_point_number short (at + 1 + 24 * i) t.points i) t.ctn (λ i. temperature-point-keeps (at + 1 + 24 * i) t.points i))

      linearity-point-keeps : (at : ℕ) (ps : List LinearityPoint) (i : ℕ) → P (linearity_point_number short at ps i)
      unfolding linearity_point_number
      linearity-point-keeps at ps i =
          keep (figure-keeps (at) clx_most (get_or ps i no_linearity).clx)
          (keep (against-keeps no_linearity (λ p q. not_below 4 p.clx q.clx) ps i (λ p q. below-keeps 4 p.clx q.clx four))
          (keep (figure-keeps (at + 8) clk_most (get_or ps i no_linearity).clk) (against-keeps no_linearity too_steep ps i steep-keeps)))

      linearity-keeps : (at : ℕ) (l : Linearity) → P (linearity_number short at l)
      unfolding linearity_number
      linearity-keeps at l =
          keep (count-keeps at 2 7 l.cln) (points-keep (λ i. linearity_point_number short (at + 1 + 16 * i) l.points i) l.cln (λ i. linearity-point-keeps (at + 1 + 16 * i) l.points i))

      system-keeps : (at n : ℕ) (s : System) → P (system_number short at n s)
      unfolding system_number
      system-keeps at n s =
          keep (count-keeps at 5 5 n) (keep (figure-keeps (at + 1) sofs_most s.sofs) (keep (figure-keeps (at + 9) sgai_most s.sgai) (keep (figure-keeps (at + 17) system_most s.smin)
          (keep (figure-keeps (at + 25) system_most s.smax) (keep (below-keeps 6 s.smin s.smax six) (figure-keeps (at + 33) sz_most s.sz))))))

      filter-keeps : (at n : ℕ) (f : Filter) → P (filter_number short at n f)
      unfolding filter_number
      filter-keeps at n f = keep (count-keeps at 2 2 n) (keep (range-keeps (at + 1) (pos 0) (pos fflv_most) f.fflv) (range-keeps (at + 9) (pos 0) (pos ffst_most) f.ffst))

      identity-keeps : (n : ℕ) (i : Identity) → P (identity_number short n i)
      unfolding identity_number
      identity-keeps n i = keep (count-keeps 0 2 2 n) (keep (range-keeps 1 (pos 0) (pos serial_most) i.serial) (range-keeps 9 (pos 0) (pos day_most) i.day))

      sections-keep : (a b d : ℕ) (c : Calibration) → P (sections_number short a b d c)
      unfolding sections_number
      sections-keep a b d c =
          keep (cell-keeps 0 a c.cell) (keep (temperature-keeps temperature_start c.temperature) (keep (linearity-keeps (linearity_start c.temperature.ctn) c.linearity) (keep (system-keeps (system_start c.temperature.ctn c.linearity.cln) b c.system) (filter-keeps (filter_start c.temperature.ctn c.linearity.cln) d c.filter))))

-- an old sheet gets 0 to 7
old-numbers : (s : List ℕ) → old_number s ≤ 7
unfolding old_number short_of trailing
old-numbers s =
    keep (λ k. k ≤ 7)
    (sections-keep (λ k. k ≤ 7) (omega arith) (omega arith) (omega arith) (omega arith) (omega arith) (omega arith) (short_of (length s)) (λ e. picked (λ k. k ≤ 7) {a = 1} {b = 0} (ltb (length s) e) (omega arith) (omega arith))
    (count_at s 0) (count_at s (system_start (ctn_of s) (cln_of s))) (count_at s (filter_start (ctn_of s) (cln_of s))) (figures_of s))
    (picked (λ k. k ≤ 7) {a = 7} {b = 0} (ltb (sheet_end (ctn_of s) (cln_of s)) (length s)) (omega arith) (omega arith))

-- and so does one of either form
pub sheet-numbers : (s : List ℕ) → sheet_number s ≤ 7
unfolding sheet_number new_number own_identity_number short_of
sheet-numbers s =
    picked (λ k. k ≤ 7) (is_new s)
    (keep (λ k. k ≤ 7)
    (identity-keeps (λ k. k ≤ 7) (omega arith) (omega arith) (omega arith) (omega arith) (omega arith) (omega arith) (short_of (length s)) (λ e. picked (λ k. k ≤ 7) {a = 1} {b = 0} (ltb (length s) e) (omega arith) (omega arith))
    (count_at s 0) (identity_at s)) (old-numbers (drop identity_size s)))
    (old-numbers s)

-- 2 to 6, or 0
abbrev TwoToSix : ℕ → Type 0
TwoToSix k = (k ≡ 0) ⊎ ((2 ≤ k) × (k ≤ 6))

pub figures-numbers : (c : Calibration) → TwoToSix (figures_number c)
unfolding figures_number
figures-numbers c =
    sections-keep TwoToSix (inl refl) (inr (omega arith, omega arith)) (inr (omega arith, omega arith)) (inr (omega arith, omega arith)) (inr (omega arith, omega arith)) (inr (omega arith, omega arith)) never (λ e. inl refl) 4 5 2 c
