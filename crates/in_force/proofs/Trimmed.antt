-- Figures with 0 at the points past the count, by what the registers show; and figures are told by what the registers show, and SZ.
-- Assumes nothing.
use mathlib.Core.Path.{◌≡◌, refl, sym, ap, ◌∙◌}
use mathlib.Core.Bool.{Bool, true, false}
use mathlib.Core.List.{List, map}
use Prim.Native.Nat.{ℕ, ◌+◌, ◌<◌}
use lib.Dec.{ltb→lt, leb→le}
use lib.IntN.{ℤ, pos, nat_abs}
use lib.ListN.{get_or}
use lib.Seq.{ext_get_or}
use lib.Signed.{lt_z, ◌<ℤ◌}
use Rattle.integers.proofs.Order.{is_true, lt_no}
use Rattle.figures.specs.Unused.{no_linearity, no_temperature, used, unused_zero}
use Rattle.figures.specs.Representable.{Representable}
use Rattle.figures.specs.declared.TemperaturePoint.{TemperaturePoint}
use Rattle.figures.specs.declared.LinearityPoint.{LinearityPoint}
use Rattle.figures.specs.declared.Calibration.{Calibration}
use Rattle.sheet.proofs.Points.{used-at, used-past}
use Rattle.panel.specs.Figure.{cell_figure, linearity_figure, system_figure, filter_figure, temperature_figure, figure_at}
use Rattle.panel.specs.Placed.{temperature_point, linearity_point, Shown}
use Rattle.panel.proofs.Placed.{placed}
use Rattle.panel.proofs.Unused.{unused-representable}
use Rattle.in_force.specs.InForce.{with_zero}
use Rattle.in_force.specs.Waiting.{Points, single, Trimmed}

-- ---- a column of n points

module _ {A : Type 0} (none : A) (field : A → ℤ) (nought : field none ≡ pos 0) (d c : Calibration) (first size count n : ℕ) (ps : List A) where
  pub column : figure_at d count ≡ pos n → ((i : ℕ) → i < size → figure_at d (first + i) ≡ field (get_or ps i none)) → ((i : ℕ) → i < size → figure_at c (first + i) ≡ field (get_or (used none n ps) i none)) → Points d c first size count
  column counts before after = record {
    before = λ i h l. after i h ∙ ap field (used-at none n ps i (ltb→lt i n (rw counts at l).lt)) ∙ sym (before i h);
    past = λ i h l. after i h ∙ ap field (used-past none n ps i (leb→le n i (rw counts at l).le)) ∙ nought;
  }

pub trimmed : (c : Calibration) (z : ℤ) → Trimmed c (with_zero (unused_zero c) z)
unfolding figure_at cell_figure linearity_figure system_figure filter_figure temperature_figure unused_zero
trimmed c z =
    let t = c.temperature in
    let l = c.linearity in
    let e = with_zero (unused_zero c) z in
    let before : Shown c = placed.shown c in
    let after : Shown e = placed.shown e in
    record {
      alone = refl;
      clx = column no_linearity (λ p. p.clx) refl c e 51 7 50 l.cln l.points before.cln before.clx after.clx;
      clk = column no_linearity (λ p. p.clk) refl c e 61 7 50 l.cln l.points before.cln before.clk after.clk;
      ct = column no_temperature (λ p. p.ct) refl c e 111 5 110 t.ctn t.points before.ctn before.ct after.ct;
      ctg = column no_temperature (λ p. p.ctg) refl c e 116 5 110 t.ctn t.points before.ctn before.ctg after.ctg;
      cto = column no_temperature (λ p. p.cto) refl c e 121 5 110 t.ctn t.points before.ctn before.cto after.cto;
    }

pub trimmed-representable : (c : Calibration) (z : ℤ) → Representable c → Representable (with_zero (unused_zero c) z)
trimmed-representable c z r = let k = unused-representable c r in record { five = k.five; seven = k.seven }

-- ---- two that are trimmed alike are the same

module _ {d c e : Calibration} {first size count : ℕ} where
  alike : Points d c first size count → Points d e first size count → (i : ℕ) → i < size → figure_at c (first + i) ≡ figure_at e (first + i)
  alike p q i h = by (lt_z (pos i) (figure_at d count)) refl
    where
      by : (b : Bool) → lt_z (pos i) (figure_at d count) ≡ b → figure_at c (first + i) ≡ figure_at e (first + i)
      by true t = let l : pos i <ℤ figure_at d count = record { lt = is_true t } in p.before i h l ∙ sym (q.before i h l)
      by false t = p.past i h (lt_no t) ∙ sym (q.past i h (lt_no t))

temperature-same : (p q : TemperaturePoint) → p.ct ≡ q.ct → p.cto ≡ q.cto → p.ctg ≡ q.ctg → p ≡ q
temperature-same p q a b c = λ i. record { ct = a i; cto = b i; ctg = c i }

linearity-same : (p q : LinearityPoint) → p.clx ≡ q.clx → p.clk ≡ q.clk → p ≡ q
linearity-same p q a b = λ i. record { clx = a i; clk = b i }

-- by what both show at a register
told : (c e : Calibration) (n : ℕ) {v w : ℤ} → figure_at c n ≡ v → figure_at e n ≡ w → figure_at c n ≡ figure_at e n → v ≡ w
told c e n p q h = sym p ∙ h ∙ q

pub trimmed-same : (d c e : Calibration) → Representable c → Representable e → Trimmed d c → Trimmed d e → c.system.sz ≡ e.system.sz → c ≡ e
trimmed-same d c e r q p o z =
    let s : Shown c = placed.shown c in
    let t : Shown e = placed.shown e in
    let singles : map (figure_at c) single ≡ map (figure_at e) single = p.alone ∙ sym o.alone in
    let cgai = told c e 40 s.cgai t.cgai (cc) in
    let cofs = told c e 41 s.cofs t.cofs (cc) in
    let cmin = told c e 44 s.cmin t.cmin (cc) in
    let cmax = told c e 45 s.cmax t.cmax (cc) in
    let cln = ap nat_abs (told c e 50 s.cln t.cln (cc)) in
    let sgai = told c e 70 s.sgai t.sgai (cc) in
    let sofs = told c e 71 s.sofs t.sofs (cc) in
    let smin = told c e 74 s.smin t.smin (cc) in
    let smax = told c e 75 s.smax t.smax (cc) in
    let fflv = told c e 92 s.fflv t.fflv (cc) in
    let ffst = told c e 93 s.ffst t.ffst (cc) in
    let ctn = ap nat_abs (told c e 110 s.ctn t.ctn (cc)) in
    let linearities : c.linearity.points ≡ e.linearity.points =
    ext_get_or no_linearity _ _ (r.seven ∙ sym q.seven)
    (λ i h. let l : i < 7 = rw r.seven at h in
    linearity-same (linearity_point c i) (linearity_point e i)
    (told c e (51 + i) (s.clx i l) (t.clx i l) (alike p.clx o.clx i l))
    (told c e (61 + i) (s.clk i l) (t.clk i l) (alike p.clk o.clk i l))) in
    let temperatures : c.temperature.points ≡ e.temperature.points =
    ext_get_or no_temperature _ _ (r.five ∙ sym q.five)
    (λ i h. let l : i < 5 = rw r.five at h in
    temperature-same (temperature_point c i) (temperature_point e i)
    (told c e (111 + i) (s.ct i l) (t.ct i l) (alike p.ct o.ct i l))
    (told c e (121 + i) (s.cto i l) (t.cto i l) (alike p.cto o.cto i l))
    (told c e (116 + i) (s.ctg i l) (t.ctg i l) (alike p.ctg o.ctg i l))) in
    λ i. record {
      cell = record { cofs = cofs i; cgai = cgai i; cmin = cmin i; cmax = cmax i };
      temperature = record { ctn = ctn i; points = temperatures i };
      linearity = record { cln = cln i; points = linearities i };
      system = record { sofs = sofs i; sgai = sgai i; smin = smin i; smax = smax i; sz = z i };
      filter = record { fflv = fflv i; ffst = ffst i };
    }
