-- A write stores one figure: that at its register, and nothing where no figure stands. Assumes nothing.
use mathlib.Core.Path.{◌≡◌, refl, sym, ap, ap₂, ◌∙◌}
use mathlib.Core.Bool.{Bool, true, false, ◌||◌, false≢true}
use mathlib.Core.List.{List, [], ◌∷◌}
use mathlib.Core.Logic.{◌⊎◌, inl, inr}
use Prim.Native.Nat.{ℕ, zero, suc, ◌+◌, ◌-◌, ◌≤◌, ◌<◌}
use native.Mathlib.Omega.{arith}
use borrow.Author.Tests.{eq-eqb, ne_eqb}
use lib.Dec.{eqb}
use lib.IntN.{ℤ, pos, nat_abs}
use lib.ListN.{length, get_or, set}
use Rattle.figures.specs.Unused.{no_linearity, no_temperature}
use Rattle.figures.specs.Representable.{Representable}
use Rattle.figures.specs.declared.Cell.{Cell}
use Rattle.figures.specs.declared.System.{System}
use Rattle.figures.specs.declared.Filter.{Filter}
use Rattle.figures.specs.declared.TemperaturePoint.{TemperaturePoint}
use Rattle.figures.specs.declared.LinearityPoint.{LinearityPoint}
use Rattle.figures.specs.declared.Calibration.{Calibration}
use Rattle.register.specs.Number.{CGAI, COFS, CMIN, CMAX, CLN, CLX, CLK, SGAI, SOFS, SMIN, SMAX, FFLV, FFST, CTN, CT, CTG, CTO}
use Rattle.panel.specs.Figure.{put, numbered, cell_with, temperature_point_with, temperature_with, linearity_point_with, linearity_with, system_with, filter_with, with_figure}

-- ---- a list's elements, by their indices

module _ {A : Type 0} (f : ℕ → A → A) where
  -- none is changed
  same : (i : ℕ) (l : List A) → ((j : ℕ) (p : A) → i ≤ j → j < i + length l → f j p ≡ p) → numbered f i l ≡ l
  same i [] h = refl
  same i (x ∷ l) h = ap₂ ◌∷◌ (h i x (omega arith) (omega arith)) (same (suc i) l (λ j p a b. h j p (omega arith) (omega arith)))

  -- the k-th alone
  pub only : (none : A) (i k : ℕ) (l : List A) → k < length l → ((j : ℕ) (p : A) → i ≤ j → j < i + length l → (j ≡ i + k → ⊥) → f j p ≡ p) → numbered f i l ≡ set l k (f (i + k) (get_or l k none))
  only none i k [] h g = absurd (omega arith)
  only none i zero (x ∷ l) h g =
      let at : i ≡ i + 0 = omega arith in
      ap₂ ◌∷◌ (ap (λ (j : ℕ). f j x) at) (same (suc i) l (λ j p a b. g j p (omega arith) (omega arith) (λ e. omega (arith, e))))
  only none i (suc k) (x ∷ l) h g =
      let at : suc i + k ≡ i + suc k = omega arith in
      ap₂ ◌∷◌ (g i x (omega arith) (omega arith) (λ e. omega (arith, e)))
      (only none (suc i) k l (omega arith) (λ j p a b n. g j p (omega arith) (omega arith) (λ e. n (omega (arith, e)))) ∙ ap (λ (j : ℕ). set l k (f j (get_or l k none))) at)

-- ---- one written, the others kept

-- the registers of figures that stand in no column
abbrev pub single : ℕ → Bool
single m = eqb m CGAI || eqb m COFS || eqb m CMIN || eqb m CMAX || eqb m CLN || eqb m SGAI || eqb m SOFS || eqb m SMIN || eqb m SMAX || eqb m FFLV || eqb m FFST || eqb m CTN

-- outside of both tables' columns
pub record Aside (n : ℕ) : Type 0 where
  pub of_linearity : (n < CLX) ⊎ (CLX + 6 < n)
  pub of_linearity_too : (n < CLK) ⊎ (CLK + 6 < n)
  pub of_temperature : (n < CT) ⊎ (CTO + 4 < n)

pub before : {n : ℕ} → n < CLX → Aside n
before h = record { of_linearity = inl h; of_linearity_too = inl (omega arith); of_temperature = inl (omega arith) }

pub between : {n : ℕ} → CLX + 6 < n → n < CLK → Aside n
between h g = record { of_linearity = inr h; of_linearity_too = inl g; of_temperature = inl (omega arith) }

pub amid : {n : ℕ} → CLK + 6 < n → n < CT → Aside n
amid h g = record { of_linearity = inr (omega arith); of_linearity_too = inr h; of_temperature = inl g }

pub past : {n : ℕ} → CTO + 4 < n → Aside n
past h = record { of_linearity = inr (omega arith); of_linearity_too = inr (omega arith); of_temperature = inr h }

outside : {a b n : ℕ} → (n < a) ⊎ (b < n) → (m : ℕ) → a ≤ m → m ≤ b → eqb m n ≡ false
outside {n} (inl h) m p q = ne_eqb m n (λ e. omega (arith, e))
outside {n} (inr h) m p q = ne_eqb m n (λ e. omega (arith, e))

module _ (n : ℕ) (z : ℤ) where
  other : (m : ℕ) → single n ≡ false → single m ≡ true → eqb m n ≡ false
  other m h g = ne_eqb m n (λ e. false≢true (sym h ∙ ap single (sym e) ∙ g))

  cell-kept : (c : Cell) → single n ≡ false → c ≡ cell_with n z c
  unfolding cell_with
  cell-kept c h = rw (other CGAI h refl, other COFS h refl, other CMIN h refl, other CMAX h refl) refl

  system-kept : (s : System) → single n ≡ false → s ≡ system_with n z s
  unfolding system_with
  system-kept s h = rw (other SGAI h refl, other SOFS h refl, other SMIN h refl, other SMAX h refl) refl

  filter-kept : (f : Filter) → single n ≡ false → f ≡ filter_with n z f
  unfolding filter_with
  filter-kept f h = rw (other FFLV h refl, other FFST h refl) refl

  -- where no column has the register
  temperatures-kept : (l : List TemperaturePoint) → length l ≡ 5 → (n < CT) ⊎ (CTO + 4 < n) → numbered (temperature_point_with n z) 0 l ≡ l
  unfolding temperature_point_with
  temperatures-kept l five h = same (temperature_point_with n z) 0 l (λ j p a b. rw (outside h (CT + j) (omega arith) (omega arith), outside h (CTO + j) (omega arith) (omega arith), outside h (CTG + j) (omega arith) (omega arith)) refl)

  linearities-kept : (l : List LinearityPoint) → length l ≡ 7 → (n < CLX) ⊎ (CLX + 6 < n) → (n < CLK) ⊎ (CLK + 6 < n) → numbered (linearity_point_with n z) 0 l ≡ l
  unfolding linearity_point_with
  linearities-kept l seven h g = same (linearity_point_with n z) 0 l (λ j p a b. rw (outside h (CLX + j) (omega arith) (omega arith), outside g (CLK + j) (omega arith) (omega arith)) refl)

  -- in a column: the point with it
  pub clx-written : (l : List LinearityPoint) → length l ≡ 7 → CLX ≤ n → n ≤ CLX + 6 → set l (n - CLX) (let p = get_or l (n - CLX) no_linearity in record { clx = z; clk = p.clk }) ≡ numbered (linearity_point_with n z) 0 l
  unfolding linearity_point_with
  clx-written l long h k = sym (only (linearity_point_with n z) no_linearity 0 (n - CLX) l (omega arith) (λ j p a b ne. rw (ne_eqb (CLX + j) n (λ e. ne (omega (arith, e))), ne_eqb (CLK + j) n (λ e. omega (arith, e))) refl) ∙ ap (set l (n - CLX)) (point (get_or l (n - CLX) no_linearity)))
    where
      point : (p : LinearityPoint) → linearity_point_with n z (0 + (n - CLX)) p ≡ record { clx = z; clk = p.clk }
      point p = rw (eq-eqb (CLX + (0 + (n - CLX))) n (omega arith), ne_eqb (CLK + (0 + (n - CLX))) n (λ e. omega (arith, e))) refl

  pub clk-written : (l : List LinearityPoint) → length l ≡ 7 → CLK ≤ n → n ≤ CLK + 6 → set l (n - CLK) (let p = get_or l (n - CLK) no_linearity in record { clx = p.clx; clk = z }) ≡ numbered (linearity_point_with n z) 0 l
  unfolding linearity_point_with
  clk-written l long h k = sym (only (linearity_point_with n z) no_linearity 0 (n - CLK) l (omega arith) (λ j p a b ne. rw (ne_eqb (CLX + j) n (λ e. omega (arith, e)), ne_eqb (CLK + j) n (λ e. ne (omega (arith, e)))) refl) ∙ ap (set l (n - CLK)) (point (get_or l (n - CLK) no_linearity)))
    where
      point : (p : LinearityPoint) → linearity_point_with n z (0 + (n - CLK)) p ≡ record { clx = p.clx; clk = z }
      point p = rw (ne_eqb (CLX + (0 + (n - CLK))) n (λ e. omega (arith, e)), eq-eqb (CLK + (0 + (n - CLK))) n (omega arith)) refl

  pub ct-written : (l : List TemperaturePoint) → length l ≡ 5 → CT ≤ n → n ≤ CT + 4 → set l (n - CT) (let p = get_or l (n - CT) no_temperature in record { ct = z; cto = p.cto; ctg = p.ctg }) ≡ numbered (temperature_point_with n z) 0 l
  unfolding temperature_point_with
  ct-written l long h k = sym (only (temperature_point_with n z) no_temperature 0 (n - CT) l (omega arith) (λ j p a b ne. rw (ne_eqb (CT + j) n (λ e. ne (omega (arith, e))), ne_eqb (CTO + j) n (λ e. omega (arith, e)), ne_eqb (CTG + j) n (λ e. omega (arith, e))) refl) ∙ ap (set l (n - CT)) (point (get_or l (n - CT) no_temperature)))
    where
      point : (p : TemperaturePoint) → temperature_point_with n z (0 + (n - CT)) p ≡ record { ct = z; cto = p.cto; ctg = p.ctg }
      point p = rw (eq-eqb (CT + (0 + (n - CT))) n (omega arith), ne_eqb (CTO + (0 + (n - CT))) n (λ e. omega (arith, e)), ne_eqb (CTG + (0 + (n - CT))) n (λ e. omega (arith, e))) refl

  pub ctg-written : (l : List TemperaturePoint) → length l ≡ 5 → CTG ≤ n → n ≤ CTG + 4 → set l (n - CTG) (let p = get_or l (n - CTG) no_temperature in record { ct = p.ct; cto = p.cto; ctg = z }) ≡ numbered (temperature_point_with n z) 0 l
  unfolding temperature_point_with
  ctg-written l long h k = sym (only (temperature_point_with n z) no_temperature 0 (n - CTG) l (omega arith) (λ j p a b ne. rw (ne_eqb (CT + j) n (λ e. omega (arith, e)), ne_eqb (CTO + j) n (λ e. omega (arith, e)), ne_eqb (CTG + j) n (λ e. ne (omega (arith, e)))) refl) ∙ ap (set l (n - CTG)) (point (get_or l (n - CTG) no_temperature)))
    where
      point : (p : TemperaturePoint) → temperature_point_with n z (0 + (n - CTG)) p ≡ record { ct = p.ct; cto = p.cto; ctg = z }
      point p = rw (ne_eqb (CT + (0 + (n - CTG))) n (λ e. omega (arith, e)), ne_eqb (CTO + (0 + (n - CTG))) n (λ e. omega (arith, e)), eq-eqb (CTG + (0 + (n - CTG))) n (omega arith)) refl

  pub cto-written : (l : List TemperaturePoint) → length l ≡ 5 → CTO ≤ n → n ≤ CTO + 4 → set l (n - CTO) (let p = get_or l (n - CTO) no_temperature in record { ct = p.ct; cto = z; ctg = p.ctg }) ≡ numbered (temperature_point_with n z) 0 l
  unfolding temperature_point_with
  cto-written l long h k = sym (only (temperature_point_with n z) no_temperature 0 (n - CTO) l (omega arith) (λ j p a b ne. rw (ne_eqb (CT + j) n (λ e. omega (arith, e)), ne_eqb (CTO + j) n (λ e. ne (omega (arith, e))), ne_eqb (CTG + j) n (λ e. omega (arith, e))) refl) ∙ ap (set l (n - CTO)) (point (get_or l (n - CTO) no_temperature)))
    where
      point : (p : TemperaturePoint) → temperature_point_with n z (0 + (n - CTO)) p ≡ record { ct = p.ct; cto = z; ctg = p.ctg }
      point p = rw (ne_eqb (CT + (0 + (n - CTO))) n (λ e. omega (arith, e)), eq-eqb (CTO + (0 + (n - CTO))) n (omega arith), ne_eqb (CTG + (0 + (n - CTO))) n (λ e. omega (arith, e))) refl

module _ (c : Calibration) (r : Representable c) where
  -- the figures with these points
  abbrev pub around : ℕ → ℤ → List TemperaturePoint → List LinearityPoint → Calibration
  around n z t l = record {
    cell = cell_with n z c.cell;
    temperature = record { ctn = nat_abs (put n z CTN (pos c.temperature.ctn)); points = t };
    linearity = record { cln = nat_abs (put n z CLN (pos c.linearity.cln)); points = l };
    system = system_with n z c.system;
    filter = filter_with n z c.filter;
  }

  -- at a register outside of the columns
  pub aside : (n : ℕ) (z : ℤ) → Aside n → around n z c.temperature.points c.linearity.points ≡ with_figure n z c
  unfolding with_figure temperature_with linearity_with
  aside n z a = sym (ap₂ (around n z) (temperatures-kept n z c.temperature.points r.five a.of_temperature) (linearities-kept n z c.linearity.points r.seven a.of_linearity a.of_linearity_too))

  module _ (n : ℕ) (z : ℤ) (h : single n ≡ false) where
    stored : (t : List TemperaturePoint) (l : List LinearityPoint) → t ≡ numbered (temperature_point_with n z) 0 c.temperature.points → l ≡ numbered (linearity_point_with n z) 0 c.linearity.points
        → record { cell = c.cell; temperature = record { ctn = c.temperature.ctn; points = t }; linearity = record { cln = c.linearity.cln; points = l }; system = c.system; filter = c.filter } ≡ with_figure n z c
    unfolding with_figure temperature_with linearity_with
    stored t l e g = rw (e, g, other n z CTN h refl, other n z CLN h refl, ← cell-kept n z c.cell h, ← system-kept n z c.system h, ← filter-kept n z c.filter h) refl

    -- in a column of one table
    pub in-temperature : {t : List TemperaturePoint} → CLK + 6 < n → t ≡ numbered (temperature_point_with n z) 0 c.temperature.points
        → record { cell = c.cell; temperature = record { ctn = c.temperature.ctn; points = t }; linearity = c.linearity; system = c.system; filter = c.filter } ≡ with_figure n z c
    in-temperature {t} past e = stored t c.linearity.points e (sym (linearities-kept n z _ r.seven (inr (omega arith)) (inr past)))

    pub in-linearity : {l : List LinearityPoint} → n < CT → l ≡ numbered (linearity_point_with n z) 0 c.linearity.points
        → record { cell = c.cell; temperature = c.temperature; linearity = record { cln = c.linearity.cln; points = l }; system = c.system; filter = c.filter } ≡ with_figure n z c
    in-linearity {l} below e = stored c.temperature.points l (sym (temperatures-kept n z _ r.five (inl below))) e

    -- at no figure's register
    pub nowhere : Aside n → c ≡ with_figure n z c
    nowhere a = stored c.temperature.points c.linearity.points (sym (temperatures-kept n z _ r.five a.of_temperature)) (sym (linearities-kept n z _ r.seven a.of_linearity a.of_linearity_too))
