-- A figure that is written is read, at its register and at no other; and figures stay within their registers' ranges. Assumes nothing.
use mathlib.Core.Path.{◌≡◌, refl, sym, ap, ◌∙◌, subst}
use mathlib.Core.Bool.{Bool, true, false, cond, ◌&&◌, ◌||◌}
use mathlib.Core.List.{List}
use Prim.Native.Nat.{ℕ, ◌+◌, ◌-◌, ◌≤◌, ◌<◌}
use native.Mathlib.Nat.{le_refl}
use native.Mathlib.Omega.{arith}
use borrow.Author.Tests.{eqb-true, eq-eqb, ne_eqb, leb-true}
use lib.Dec.{T, eqb, leb, ltb}
use lib.IntN.{ℤ, pos, negsuc, nat_abs}
use lib.Ieee.{Float}
use lib.ListN.{length, get_or}
use lib.Signed.{non_neg, ◌≤ℤ◌}
use mir.Syntax.{w8}
use mir.Val.{Fits}
use Rattle.integers.specs.Within.{◌within◌}
use Rattle.integers.proofs.Difference.{nat, le?}
use Rattle.integers.proofs.Order.{pick, ≤_trans}
use Rattle.figures.specs.Unused.{no_linearity, no_temperature}
use Rattle.figures.specs.Representable.{Representable}
use Rattle.figures.specs.declared.Cell.{Cell}
use Rattle.figures.specs.declared.Temperature.{Temperature}
use Rattle.figures.specs.declared.Linearity.{Linearity}
use Rattle.figures.specs.declared.System.{System}
use Rattle.figures.specs.declared.Filter.{Filter}
use Rattle.figures.specs.declared.Calibration.{Calibration}
use Rattle.binary32.specs.Received.{counted}
use Rattle.binary32.proofs.Counted.{counted-within, counted-up}
use Rattle.register.specs.Number.{CGAI, COFS, CMIN, CMAX, CLN, CLX, CLK, SGAI, SOFS, SMIN, SMAX, FFLV, FFST, CTN, CT, CTG, CTO}
use Rattle.register.specs.Register.{access_of, range_of}
use Rattle.register.proofs.Registers.{least-within}
use Rattle.panel.specs.Figure.{among, cell_figure, linearity_figure, system_figure, filter_figure, temperature_figure, figure_at, is_figure, put, numbered, cell_with, linearity_point_with, linearity_with, system_with, filter_with, temperature_point_with, temperature_with, with_figure, written}
use Rattle.panel.specs.ForCode.{InRange, Counts}
use Rattle.panel.proofs.Numbered.{at, numbered-long}

module _ (n : ℕ) (z : ℤ) where
  -- w is v after the write, at register m, which is that of a figure where q is true
  pub record After (m : ℕ) (q : Bool) (v w : ℤ) : Type 0 where
    pub is : w ≡ cond q (put n z m v) v

  -- no register
  none : (m : ℕ) → After m false (pos 0) (pos 0)
  none m = record { is = refl }

  -- one register more: k, of which the figure is v
  key : (m k : ℕ) (v : ℤ) {q : Bool} {w u : ℤ} → After m q w u → After m (eqb m k || q) (cond (eqb m k) v w) (cond (eqb m k) (put n z k v) u)
  key m k v {q} {w} {u} h = by (eqb m k) refl
    where
      by : (b : Bool) → eqb m k ≡ b → After m (b || q) (cond b v w) (cond b (put n z k v) u)
      by true e = record { is = ap (λ (i : ℕ). put n z i v) (sym (eqb-true m k e)) }
      by false e = h

  -- registers more, a to b
  keys : (m a b : ℕ) (v t : ℤ) {q : Bool} {w u : ℤ} → (a ≤ m → m ≤ b → t ≡ put n z m v) → After m q w u → After m (among a b m || q) (cond (among a b m) v w) (cond (among a b m) t u)
  keys m a b v t {q} {w} {u} f h = by (leb a m) refl (leb m b) refl
    where
      by : (x : Bool) → leb a m ≡ x → (y : Bool) → leb m b ≡ y → After m (x && y || q) (cond (x && y) v w) (cond (x && y) t u)
      by true e true g = record { is = f (leb-true a m e) (leb-true m b g) }
      by true e false g = h
      by false e y g = h

  -- either of two parts
  part : (m : ℕ) (b : Bool) {q r : Bool} {v w x y : ℤ} → After m q v x → After m r w y → After m (cond b q r) (cond b v w) (cond b x y)
  part m true h k = h
  part m false h k = k

  cell-after : (c : Cell) (m : ℕ) → After m (eqb m CGAI || (eqb m COFS || (eqb m CMIN || (eqb m CMAX || false)))) (cell_figure c m) (cell_figure (cell_with n z c) m)
  unfolding cell_figure cell_with
  cell-after c m = key m CGAI c.cgai (key m COFS c.cofs (key m CMIN c.cmin (key m CMAX c.cmax (none m))))

  system-after : (s : System) (m : ℕ) → After m (eqb m SGAI || (eqb m SOFS || (eqb m SMIN || (eqb m SMAX || false)))) (system_figure s m) (system_figure (system_with n z s) m)
  unfolding system_figure system_with
  system-after s m = key m SGAI s.sgai (key m SOFS s.sofs (key m SMIN s.smin (key m SMAX s.smax (none m))))

  filter-after : (f : Filter) (m : ℕ) → After m (eqb m FFLV || (eqb m FFST || false)) (filter_figure f m) (filter_figure (filter_with n z f) m)
  unfolding filter_figure filter_with
  filter-after f m = key m FFLV f.fflv (key m FFST f.ffst (none m))

  -- a count
  count-after : (k : ℕ) (v : ℕ) → (n ≡ k → (pos 0 ≤ℤ z) × (z ≤ℤ pos 255)) → pos (nat_abs (put n z k (pos v))) ≡ put n z k (pos v)
  count-after k v h = pick (eqb k n) z (pos v) (λ u. pos (nat_abs u) ≡ u) (λ e. up z (h (sym (eqb-true k n e))).0) (λ e. refl)
    where
      up : (z : ℤ) → pos 0 ≤ℤ z → pos (nat_abs z) ≡ z
      up (pos m) h = refl
      up (negsuc m) h = absurd h.le

  back : (a m : ℕ) → a ≤ m → a + (0 + (m - a)) ≡ m
  back a m h = omega arith

  -- a table's column from the register `base` on
  column-after : {A : Type 0} (f : ℕ → A → A) (nil : A) (field : A → ℤ) (base : ℕ) → ((i : ℕ) (p : A) → field (f i p) ≡ put n z (base + i) (field p))
      → (l : List A) (m : ℕ) → m - base < length l → base ≤ m → field (get_or (numbered f 0 l) (m - base) nil) ≡ put n z m (field (get_or l (m - base) nil))
  column-after f nil field base is l m long h =
      let v = get_or l (m - base) nil in
      ap field (at f nil l 0 (m - base) long) ∙ is (0 + (m - base)) v ∙ ap (λ (i : ℕ). put n z i (field v)) (back base m h)

  linearity-after : (l : Linearity) → length l.points ≡ 7 → Counts n z → (m : ℕ)
      → After m (eqb m CLN || (among CLX (CLX + 6) m || (among CLK (CLK + 6) m || false))) (linearity_figure l m) (linearity_figure (linearity_with n z l) m)
  unfolding linearity_figure linearity_with linearity_point_with
  linearity-after l long h m =
      rw (count-after CLN l.cln h.clx_count)
      (key m CLN (pos l.cln)
      (keys m CLX (CLX + 6) _ _ (λ a b. column-after (linearity_point_with n z) no_linearity (λ p. p.clx) CLX (λ i p. refl) l.points m (omega arith) a)
      (keys m CLK (CLK + 6) _ _ (λ a b. column-after (linearity_point_with n z) no_linearity (λ p. p.clk) CLK (λ i p. refl) l.points m (omega arith) a)
      (none m))))

  temperature-after : (t : Temperature) → length t.points ≡ 5 → Counts n z → (m : ℕ)
      → After m (eqb m CTN || (among CT (CT + 4) m || (among CTG (CTG + 4) m || (among CTO (CTO + 4) m || false)))) (temperature_figure t m) (temperature_figure (temperature_with n z t) m)
  unfolding temperature_figure temperature_with temperature_point_with
  temperature-after t long h m =
      rw (count-after CTN t.ctn h.ct_count)
      (key m CTN (pos t.ctn)
      (keys m CT (CT + 4) _ _ (λ a b. column-after (temperature_point_with n z) no_temperature (λ p. p.ct) CT (λ i p. refl) t.points m (omega arith) a)
      (keys m CTG (CTG + 4) _ _ (λ a b. column-after (temperature_point_with n z) no_temperature (λ p. p.ctg) CTG (λ i p. refl) t.points m (omega arith) a)
      (keys m CTO (CTO + 4) _ _ (λ a b. column-after (temperature_point_with n z) no_temperature (λ p. p.cto) CTO (λ i p. refl) t.points m (omega arith) a)
      (none m)))))

  pub figure-after : (c : Calibration) → Representable c → Counts n z → (m : ℕ) → figure_at (with_figure n z c) m ≡ cond (is_figure m) (put n z m (figure_at c m)) (figure_at c m)
  unfolding figure_at with_figure is_figure
  figure-after c r h m =
      (part m (ltb m CLN) (cell-after c.cell m)
      (part m (ltb m SGAI) (linearity-after c.linearity r.seven h m)
      (part m (ltb m FFLV) (system-after c.system m)
      (part m (ltb m CTN) (filter-after c.filter m)
      (temperature-after c.temperature r.five h m))))).is

  -- at its own register, and at any other
  pub read-written : (c : Calibration) → Representable c → Counts n z → is_figure n ≡ true → figure_at (with_figure n z c) n ≡ z
  read-written c r h e = figure-after c r h n ∙ rw (e, eq-eqb n n refl)

  pub others_kept : (c : Calibration) → Representable c → Counts n z → (m : ℕ) → (m ≡ n → ⊥) → figure_at (with_figure n z c) m ≡ figure_at c m
  others_kept c r h m ne = figure-after c r h m ∙ rw (ne_eqb m n ne) (same (is_figure m))
    where
      same : (b : Bool) → cond b (figure_at c m) (figure_at c m) ≡ figure_at c m
      same true = refl
      same false = refl

-- a count that is a byte fits it
pub byte-fits : (z : ℤ) → (pos 0 ≤ℤ z) × (z ≤ℤ pos 255) → T (non_neg z) × Fits w8 (nat_abs z)
byte-fits (pos m) h = (tt, record { fits = omega (arith, le? (nat m) (nat 255) h.1) })
byte-fits (negsuc m) h = absurd h.0.le

-- ---- what is written of a float

abbrev Byte : ℤ → Type 0
Byte z = (pos 0 ≤ℤ z) × (z ≤ℤ pos 255)

clx-byte : (x : Float) → Byte (counted (range_of CLN) x)
unfolding range_of access_of
clx-byte x = let h = counted-up (range_of CLN) (record { le = tt }) (record { le = tt }) x in (h.0, ≤_trans h.1 (record { le = tt }))

ct-byte : (x : Float) → Byte (counted (range_of CTN) x)
unfolding range_of access_of
ct-byte x = let h = counted-up (range_of CTN) (record { le = tt }) (record { le = tt }) x in (h.0, ≤_trans h.1 (record { le = tt }))

pub counts-written : (n : ℕ) (x : Float) → Counts n (counted (range_of n) x)
counts-written n x = record {
  clx_count = λ e. subst (λ (k : ℕ). Byte (counted (range_of k) x)) (sym e) (clx-byte x);
  ct_count = λ e. subst (λ (k : ℕ). Byte (counted (range_of k) x)) (sym e) (ct-byte x);
}

-- it stays in range
pub written-in-range : (c : Calibration) → Representable c → InRange c → (n : ℕ) (x : Float) → InRange (written c n x)
unfolding written
written-in-range c r h n x m = rw (figure-after n z c r (counts-written n x) m) (pick (is_figure m) (put n z m (figure_at c m)) (figure_at c m) In (λ e. pick (eqb m n) z (figure_at c m) In (λ g. new (eqb-true m n g)) (λ g. h m)) (λ e. h m))
  where
    z : ℤ
    z = counted (range_of n) x

    In : ℤ → Type 0
    In v = v within (nat_abs (range_of m).most)

    new : m ≡ n → In z
    new e = subst (λ (k : ℕ). z within (nat_abs (range_of k).most)) (sym e) (counted-within (range_of n) (nat_abs (range_of n).most) (least-within n) (record { abs = le_refl (nat_abs (range_of n).most) }) x)

-- and has as many points
pub written-representable : (c : Calibration) → Representable c → (n : ℕ) (x : Float) → Representable (written c n x)
unfolding written with_figure temperature_with linearity_with
written-representable c r n x = record { five = numbered-long _ 0 c.temperature.points ∙ r.five; seven = numbered-long _ 0 c.linearity.points ∙ r.seven }
