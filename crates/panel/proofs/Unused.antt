-- Acceptable figures, with no points past the count, are within their registers' ranges. Assumes nothing.
use mathlib.Core.Path.{◌≡◌, refl, sym, ap, ◌∙◌, subst}
use mathlib.Core.Bool.{Bool, true, false, cond, ◌&&◌}
use mathlib.Core.List.{List, [], ◌∷◌, map}
use Prim.Native.Nat.{ℕ, zero, suc, ◌+◌, ◌-◌, ◌≤◌}
use native.Mathlib.Omega.{arith}
use borrow.Author.Tests.{eqb-true, leb-true}
use lib.Dec.{eqb, leb, ltb, lit≤}
use lib.IntN.{ℤ, pos, nat_abs}
use lib.ListN.{length, get_or, take}
use Rattle.integers.specs.Within.{◌within◌}
use Rattle.integers.proofs.Magnitude.{within-between}
use Rattle.integers.proofs.Order.{pick}
use Rattle.arithmetic.specs.Table.{Point, column}
use Rattle.arithmetic.specs.Keeps.{ColumnWithin}
use Rattle.figures.specs.Acceptable.{CellAcceptable, TemperatureAcceptable, LinearityAcceptable, SystemAcceptable, FilterAcceptable, Acceptable}
use Rattle.figures.specs.Rows.{linearities, temperatures, linearity_row, temperature_row}
use Rattle.figures.specs.Unused.{no_linearity, no_temperature, used, unused_zero}
use Rattle.figures.specs.Limits.{clx_most, clk_most, ct_most, ctg_most, cto_most}
use Rattle.figures.specs.Representable.{Representable}
use Rattle.figures.specs.declared.Cell.{Cell}
use Rattle.figures.specs.declared.Temperature.{Temperature}
use Rattle.figures.specs.declared.Linearity.{Linearity}
use Rattle.figures.specs.declared.System.{System}
use Rattle.figures.specs.declared.Filter.{Filter}
use Rattle.figures.specs.declared.Calibration.{Calibration}
use Rattle.register.specs.Number.{CGAI, COFS, CMIN, CMAX, CLN, CLX, CLK, SGAI, SOFS, SMIN, SMAX, FFLV, FFST, CTN, CT, CTG, CTO}
use Rattle.register.specs.declared.Access.{Access}
use Rattle.register.specs.Register.{access_of, range_in, range_of, steps, parts}
use Rattle.register.proofs.Registers.{in-range}
use Rattle.panel.specs.Figure.{among, cell_figure, linearity_figure, system_figure, filter_figure, temperature_figure, figure_at}
use Rattle.panel.specs.ForCode.{linearity_used, temperature_used, InRange}

-- ---- one column of a table

module _ {A : Type 0} (none : A) (row : A → Point) (field : A → ℤ) (k : ℕ) (is : (a : A) → column k (row a) ≡ field a) (zero_is : field none ≡ pos 0) where
  nought : (n : ℕ) → (field none) within n
  nought n = rw zero_is (record { abs = up n })
    where
      up : (n : ℕ) → 0 ≤ n
      up n = omega arith

  pub column-in : (most n : ℕ) (l : List A) → ColumnWithin k most (take n (map row l)) → (i : ℕ) → (field (get_or (used none n l) i none)) within most
  column-in most n [] h i = nought most
  column-in most zero (p ∷ ps) h zero = nought most
  column-in most zero (p ∷ ps) h (suc i) = column-in most zero ps tt i
  column-in most (suc n) (p ∷ ps) h zero = subst (λ (z : ℤ). z within most) (is p) h.0
  column-in most (suc n) (p ∷ ps) h (suc i) = column-in most n ps h.1 i

-- ---- register by register

abbrev In : ℕ → ℤ → Type 0
In m v = v within (nat_abs (range_of m).most)

none_in : (m : ℕ) → In m (pos 0)
none_in m = record { abs = up (nat_abs (range_of m).most) }
  where
    up : (n : ℕ) → 0 ≤ n
    up n = omega arith

key : (m k : ℕ) (v w : ℤ) → In k v → In m w → In m (cond (eqb m k) v w)
key m k v w h g = pick (eqb m k) v w (In m) (λ e. subst (λ (i : ℕ). In i v) (sym (eqb-true m k e)) h) (λ e. g)

keys : (m a b : ℕ) (v w : ℤ) → (a ≤ m → m ≤ b → In m v) → In m w → In m (cond (among a b m) v w)
keys m a b v w f g = by (leb a m) refl (leb m b) refl
  where
    by : (x : Bool) → leb a m ≡ x → (y : Bool) → leb m b ≡ y → In m (cond (x && y) v w)
    by true e true h = f (leb-true a m e) (leb-true m b h)
    by true e false h = g
    by false e y h = g

-- the range of a run of registers
of-run : (m most : ℕ) (v : ℤ) (a : Access) → a ≡ access_of m → nat_abs (range_in a).most ≡ most → v within most → In m v
unfolding range_of
of-run m most v a e q h = rw (sym e, q) h

cell_in : (c : Cell) → CellAcceptable c → (m : ℕ) → In m (cell_figure c m)
unfolding cell_figure range_of access_of
cell_in c h m = key m CGAI _ _ h.cgai_in (key m COFS _ _ h.cofs_in (key m CMIN _ _ h.cmin_in (key m CMAX _ _ h.cmax_in (none_in m))))

system_in : (s : System) → SystemAcceptable s → (m : ℕ) → In m (system_figure s m)
unfolding system_figure range_of access_of
system_in s h m = key m SGAI _ _ h.sgai_in (key m SOFS _ _ h.sofs_in (key m SMIN _ _ h.smin_in (key m SMAX _ _ h.smax_in (none_in m))))

filter-in : (f : Filter) → FilterAcceptable f → (m : ℕ) → In m (filter_figure f m)
unfolding filter_figure range_of access_of
filter-in f h m =
    key m FFLV _ _ (within-between (record { abs = lit≤ tt }) (record { abs = lit≤ tt }) h.fflv_at_least h.fflv_at_most)
    (key m FFST _ _ (within-between (record { abs = lit≤ tt }) (record { abs = lit≤ tt }) h.ffst_at_least h.ffst_at_most) (none_in m))

linearity-in : (l : Linearity) → LinearityAcceptable l → (m : ℕ) → In m (linearity_figure (linearity_used l) m)
unfolding linearity_figure range_of access_of linearities
linearity-in l h m =
    key m CLN _ _ (record { abs = h.most })
    (keys m CLX (CLX + 6) _ _ (λ a b. of-run m clx_most _ (steps clx_most) (in-range (λ i. false) (steps clx_most) 7 CLX tt m a (omega arith) refl) refl (column-in no_linearity linearity_row (λ p. p.clx) 0 (λ p. refl) refl clx_most l.cln l.points h.clx_in (m - CLX)))
    (keys m CLK (CLK + 6) _ _ (λ a b. of-run m clk_most _ (steps clk_most) (in-range (λ i. false) (steps clk_most) 7 CLK tt m a (omega arith) refl) refl (column-in no_linearity linearity_row (λ p. p.clk) 1 (λ p. refl) refl clk_most l.cln l.points h.clk_in (m - CLK)))
    (none_in m)))

temperature-in : (t : Temperature) → TemperatureAcceptable t → (m : ℕ) → In m (temperature_figure (temperature_used t) m)
unfolding temperature_figure range_of access_of temperatures
temperature-in t h m =
    key m CTN _ _ (record { abs = h.most })
    (keys m CT (CT + 4) _ _ (λ a b. of-run m ct_most _ (steps ct_most) (in-range (λ i. false) (steps ct_most) 5 CT tt m a (omega arith) refl) refl (column-in no_temperature temperature_row (λ p. p.ct) 0 (λ p. refl) refl ct_most t.ctn t.points h.ct_in (m - CT)))
    (keys m CTG (CTG + 4) _ _ (λ a b. of-run m ctg_most _ (parts ctg_most) (in-range (λ i. false) (parts ctg_most) 5 CTG tt m a (omega arith) refl) refl (column-in no_temperature temperature_row (λ p. p.ctg) 2 (λ p. refl) refl ctg_most t.ctn t.points h.ctg_in (m - CTG)))
    (keys m CTO (CTO + 4) _ _ (λ a b. of-run m cto_most _ (steps cto_most) (in-range (λ i. false) (steps cto_most) 5 CTO tt m a (omega arith) refl) refl (column-in no_temperature temperature_row (λ p. p.cto) 1 (λ p. refl) refl cto_most t.ctn t.points h.cto_in (m - CTO)))
    (none_in m))))

pub unused-in-range : (c : Calibration) → Acceptable c → InRange (unused_zero c)
unfolding figure_at unused_zero
unused-in-range c h m =
    pick (ltb m CLN) _ _ (In m) (λ e. cell_in c.cell h.cell_ok m)
    (λ e. pick (ltb m SGAI) _ _ (In m) (λ e. linearity-in c.linearity h.linearity_ok m)
    (λ e. pick (ltb m FFLV) _ _ (In m) (λ e. system_in c.system h.system_ok m)
    (λ e. pick (ltb m CTN) _ _ (In m) (λ e. filter-in c.filter h.filter_ok m)
    (λ e. temperature-in c.temperature h.temperature_ok m))))

-- as many points as before
used-long : {A : Type 0} (none : A) (n : ℕ) (l : List A) → length (used none n l) ≡ length l
used-long none n [] = refl
used-long none zero (p ∷ ps) = ap suc (used-long none zero ps)
used-long none (suc n) (p ∷ ps) = ap suc (used-long none n ps)

pub unused-representable : (c : Calibration) → Representable c → Representable (unused_zero c)
unfolding unused_zero
unused-representable c r = record {
  five = used-long no_temperature c.temperature.ctn c.temperature.points ∙ r.five;
  seven = used-long no_linearity c.linearity.cln c.linearity.points ∙ r.seven;
}
