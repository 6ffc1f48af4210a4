-- The figures stand where Change 1 says, and a write changes one of them. Assumes nothing.
use mathlib.Core.Path.{◌≡◌, refl, sym, ap, ◌∙◌}
use mathlib.Core.Bool.{Bool, true, false, not, cond, ◌||◌, false≢true}
use Prim.Native.Nat.{ℕ, ◌+◌, ◌-◌, ◌≤◌, ◌<◌}
use native.Mathlib.Omega.{arith}
use borrow.Author.Tests.{lt-ltb, le-ltb, ltb-true, ltb-false}
use lib.Dec.{eqb, ltb}
use lib.IntN.{ℤ, pos}
use lib.Ieee.{Float}
use Rattle.figures.specs.Representable.{Representable}
use Rattle.figures.specs.declared.Calibration.{Calibration}
use Rattle.binary32.specs.Received.{counted}
use Rattle.register.specs.Number.{CGAI, COFS, CMIN, CMAX, CLN, CLX, CLK, SGAI, SOFS, SMIN, SMAX, FFLV, FFST, CTN, CT, CTG, CTO}
use Rattle.register.specs.Register.{range_of}
use Rattle.register.specs.Listed.{is_in}
use Rattle.register.proofs.Run.{at_every}
use Rattle.register.proofs.Registers.{told}
use Rattle.register.proofs.Ends.{none_in}
use Rattle.panel.specs.Figure.{among, cell_figure, linearity_figure, system_figure, filter_figure, temperature_figure, figure_at, is_figure, with_figure, system_with, written}
use Rattle.panel.specs.Placed.{temperature_point, linearity_point, Shown, numbers, Placed}
use Rattle.panel.proofs.Columns.{clx-at, clk-at, ct-at, ctg-at, cto-at}
use Rattle.panel.proofs.Listed.{past-last}
use Rattle.panel.proofs.Places.{read-written, others_kept, counts-written}

-- ---- the tables' sections

module _ (c : Calibration) (n : ℕ) where
  in-linearity : CLN ≤ n → n < SGAI → linearity_figure c.linearity n ≡ figure_at c n
  unfolding figure_at
  in-linearity h k = simp (le-ltb n CLN h, lt-ltb n SGAI k)

  in-temperature : CTN ≤ n → temperature_figure c.temperature n ≡ figure_at c n
  unfolding figure_at
  in-temperature h = simp (le-ltb n CLN (omega arith), le-ltb n SGAI (omega arith), le-ltb n FFLV (omega arith), le-ltb n CTN h)

back : (a i : ℕ) → a + i - a ≡ i
back a i = omega arith

shown : (c : Calibration) → Shown c
unfolding figure_at cell_figure linearity_figure system_figure filter_figure temperature_figure
shown c = record {
  cgai = refl;
  cofs = refl;
  cmin = refl;
  cmax = refl;
  cln = refl;
  clx = λ i h. sym (in-linearity c (51 + i) (omega arith) (omega arith)) ∙ sym (clx-at c.linearity (51 + i) (omega arith) (omega arith)) ∙ ap (λ (k : ℕ). (linearity_point c k).clx) (back 51 i);
  clk = λ i h. sym (in-linearity c (61 + i) (omega arith) (omega arith)) ∙ sym (clk-at c.linearity (61 + i) (omega arith) (omega arith)) ∙ ap (λ (k : ℕ). (linearity_point c k).clk) (back 61 i);
  sgai = refl;
  sofs = refl;
  smin = refl;
  smax = refl;
  fflv = refl;
  ffst = refl;
  ctn = refl;
  ct = λ i h. sym (in-temperature c (111 + i) (omega arith)) ∙ sym (ct-at c.temperature (111 + i) (omega arith) (omega arith)) ∙ ap (λ (k : ℕ). (temperature_point c k).ct) (back 111 i);
  ctg = λ i h. sym (in-temperature c (116 + i) (omega arith)) ∙ sym (ctg-at c.temperature (116 + i) (omega arith) (omega arith)) ∙ ap (λ (k : ℕ). (temperature_point c k).ctg) (back 116 i);
  cto = λ i h. sym (in-temperature c (121 + i) (omega arith)) ∙ sym (cto-at c.temperature (121 + i) (omega arith) (omega arith)) ∙ ap (λ (k : ℕ). (temperature_point c k).cto) (back 121 i);
}

-- ---- these registers

low : (n : ℕ) → n < 126 → is_figure n ≡ is_in numbers n
unfolding is_figure
low n h = told (is_figure n) (is_in numbers n) (at_every (λ i. cond (is_figure i) (is_in numbers i) (not (is_in numbers i))) 126 0 tt n (omega arith) h)

these : (n : ℕ) → is_figure n ≡ is_in numbers n
these n = by (ltb n 126) refl
  where
    by : (b : Bool) → ltb n 126 ≡ b → is_figure n ≡ is_in numbers n
    by true e = low n (ltb-true n 126 e)
    by false e = sym (past-last n (ltb-false n 126 e)) ∙ sym (none_in numbers n tt (ltb-false n 126 e))

-- and no other: v is 0 where q is false
record Only (q : Bool) (v : ℤ) : Type 0 where
  pub nought : q ≡ false → v ≡ pos 0

none : Only false (pos 0)
none = record { nought = λ e. refl }

key : (b : Bool) (v : ℤ) {q : Bool} {w : ℤ} → Only q w → Only (b || q) (cond b v w)
key true v h = record { nought = λ e. absurd (false≢true (sym e)) }
key false v h = h

part : (b : Bool) {q r : Bool} {v w : ℤ} → Only q v → Only r w → Only (cond b q r) (cond b v w)
part true h k = h
part false h k = k

no_other : (c : Calibration) (n : ℕ) → is_figure n ≡ false → figure_at c n ≡ pos 0
unfolding figure_at cell_figure linearity_figure system_figure filter_figure temperature_figure is_figure
no_other c n =
    (part (ltb n CLN) (key (eqb n CGAI) _ (key (eqb n COFS) _ (key (eqb n CMIN) _ (key (eqb n CMAX) _ none))))
    (part (ltb n SGAI) (key (eqb n CLN) _ (key (among CLX (CLX + 6) n) _ (key (among CLK (CLK + 6) n) _ none)))
    (part (ltb n FFLV) (key (eqb n SGAI) _ (key (eqb n SOFS) _ (key (eqb n SMIN) _ (key (eqb n SMAX) _ none))))
    (part (ltb n CTN) (key (eqb n FFLV) _ (key (eqb n FFST) _ none))
    (key (eqb n CTN) _ (key (among CT (CT + 4) n) _ (key (among CTG (CTG + 4) n) _ (key (among CTO (CTO + 4) n) _ none)))))))).nought

-- ---- a write

written_read : (c : Calibration) → Representable c → (n : ℕ) (x : Float) → is_figure n ≡ true → figure_at (written c n x) n ≡ counted (range_of n) x
unfolding written
written_read c r n x h = read-written n (counted (range_of n) x) c r (counts-written n x) h

kept : (c : Calibration) → Representable c → (n : ℕ) (x : Float) (m : ℕ) → (m ≡ n → ⊥) → figure_at (written c n x) m ≡ figure_at c m
unfolding written
kept c r n x m ne = others_kept n (counted (range_of n) x) c r (counts-written n x) m ne

sz_kept : (c : Calibration) (n : ℕ) (x : Float) → (written c n x).system.sz ≡ c.system.sz
unfolding written with_figure system_with
sz_kept c n x = refl

pub placed : Placed
placed = record { shown = shown; these = these; no_other = no_other; written_read = written_read; others_kept = kept; sz_kept = sz_kept }
