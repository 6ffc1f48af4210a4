-- Figures that mirror acceptable ones are acceptable: a sheet for the pulled cell can be loaded. Assumes nothing.
use mathlib.Core.Path.{◌≡◌, refl, sym, ◌∙◌, ap, subst}
use mathlib.Core.List.{List, [], ◌∷◌, ◌++◌, map, map-append}
use Prim.Native.Nat.{ℕ, zero, suc, ◌+◌, ◌*◌, ◌≤◌}
use native.Mathlib.Omega.{arith}
use lib.IntN.{ℤ, neg_ℤ, nat_abs, ◌-ℤ◌}
use lib.ListN.{length, take, drop, length-append, length-map}
use lib.Seq.{length-take-le, length_front, take-append_seam}
use Rattle.integers.proofs.Order.{neg-lt}
use Rattle.integers.proofs.Magnitude.{within-neg}
use Rattle.integers.proofs.Ring.{ring, polynomials}
use Rattle.arithmetic.specs.Table.{Point, column, place}
use Rattle.arithmetic.specs.Keeps.{Rising, Gentle, ColumnWithin}
use Rattle.arithmetic.specs.Mirror.{mirrored, opposite}
use Rattle.arithmetic.proofs.Mirror.{column-opposite, mirrored-rising, mirrored-neighbours, mirrored-each, each-mapped, neighbours-mapped}
use Rattle.figures.specs.Rows.{temperature_row, linearity_row, temperatures, linearities}
use Rattle.figures.specs.Limits.{ct_most, cto_most, ctg_most, clx_most, clk_most}
use Rattle.figures.specs.Acceptable.{Acceptable}
use Rattle.figures.specs.Mirror.{cto_negated, Mirrors}
use Rattle.figures.specs.Unused.{no_temperature, no_linearity, used, unused_zero}
use Rattle.figures.specs.Representable.{Representable}
use Rattle.figures.specs.declared.TemperaturePoint.{TemperaturePoint}
use Rattle.figures.specs.declared.LinearityPoint.{LinearityPoint}
use Rattle.figures.specs.declared.Calibration.{Calibration}

-- ---- a row whose CTO has the other sign

pub cto-places : (p : Point) → place (cto_negated p) ≡ place p
cto-places [] = refl
cto-places (ct ∷ []) = refl
cto-places (ct ∷ (cto ∷ rest)) = refl

pub cto-negated : (p : Point) → column 1 (cto_negated p) ≡ neg_ℤ (column 1 p)
cto-negated [] = refl
cto-negated (ct ∷ []) = refl
cto-negated (ct ∷ (cto ∷ rest)) = refl

pub ctg-same : (p : Point) → column 2 (cto_negated p) ≡ column 2 p
ctg-same [] = refl
ctg-same (ct ∷ []) = refl
ctg-same (ct ∷ (cto ∷ rest)) = refl

-- ---- a segment from its other end is as steep

turned-back : (j : ℕ) (p q : Point) → nat_abs (column j (opposite p) -ℤ column j (opposite q)) ≡ nat_abs (column j q -ℤ column j p)
turned-back j p q = rw (column-opposite j p, column-opposite j q, back (column j p) (column j q)) refl
  where
    back : (u v : ℤ) → neg_ℤ u -ℤ neg_ℤ v ≡ v -ℤ u
    back u v = ring (u ∷ v ∷ []) (search polynomials depth 20 fits 9000) refl

gentle : (p q : Point) → 4 * nat_abs (column 1 q -ℤ column 1 p) ≤ nat_abs (place q -ℤ place p) → 4 * nat_abs (column 1 (opposite p) -ℤ column 1 (opposite q)) ≤ nat_abs (place (opposite p) -ℤ place (opposite q))
gentle p q h = rw (turned-back 1 p q, turned-back 0 p q) h

-- ---- section by section

module _ {c m : Calibration} (k : Mirrors c m) (ok : Acceptable c) where
  abbrev temps : List Point
  temps = temperatures c.temperature

  abbrev table : List Point
  table = linearities c.linearity

  by_rows : (P : List Point → Type 0) → P (map cto_negated temps) → P (temperatures m.temperature)
  by_rows P h = subst P (sym k.temperature) h

  by-table : (P : List Point → Type 0) → P (mirrored table) → P (linearities m.linearity)
  by-table P h = subst P (sym k.linearity) h

  pub mirrors-acceptable : Acceptable m
  mirrors-acceptable = record {
    cell_ok = record {
      cofs_in = rw k.cofs (within-neg ok.cell_ok.cofs_in);
      cgai_in = rw k.cgai ok.cell_ok.cgai_in;
      cmin_in = rw k.cmin (within-neg ok.cell_ok.cmax_in);
      cmax_in = rw k.cmax (within-neg ok.cell_ok.cmin_in);
      ordered = rw (k.cmin, k.cmax) (neg-lt ok.cell_ok.ordered);
    };
    temperature_ok = record {
      least = rw k.ctn ok.temperature_ok.least;
      most = rw k.ctn ok.temperature_ok.most;
      ct_in = by_rows (ColumnWithin 0 ct_most) (each-mapped _ _ cto_negated (λ p h. rw (cto-places p) h) temps ok.temperature_ok.ct_in);
      cto_in = by_rows (ColumnWithin 1 cto_most) (each-mapped _ _ cto_negated (λ p h. rw (cto-negated p) (within-neg h)) temps ok.temperature_ok.cto_in);
      ctg_in = by_rows (ColumnWithin 2 ctg_most) (each-mapped _ _ cto_negated (λ p h. rw (ctg-same p) h) temps ok.temperature_ok.ctg_in);
      rising = by_rows Rising (neighbours-mapped _ _ cto_negated (λ p q h. rw (cto-places p, cto-places q) h) temps ok.temperature_ok.rising);
    };
    linearity_ok = record {
      least = rw k.cln ok.linearity_ok.least;
      most = rw k.cln ok.linearity_ok.most;
      clx_in = by-table (ColumnWithin 0 clx_most) (mirrored-each _ _ (λ p h. rw (column-opposite 0 p) (within-neg h)) table ok.linearity_ok.clx_in);
      clk_in = by-table (ColumnWithin 1 clk_most) (mirrored-each _ _ (λ p h. rw (column-opposite 1 p) (within-neg h)) table ok.linearity_ok.clk_in);
      rising = by-table Rising (mirrored-rising table ok.linearity_ok.rising);
      gentle = by-table (Gentle 1) (mirrored-neighbours _ _ gentle table ok.linearity_ok.gentle);
    };
    system_ok = record {
      sofs_in = rw k.sofs (within-neg ok.system_ok.sofs_in);
      sgai_in = rw k.sgai ok.system_ok.sgai_in;
      smin_in = rw k.smin (within-neg ok.system_ok.smax_in);
      smax_in = rw k.smax (within-neg ok.system_ok.smin_in);
      ordered = rw (k.smin, k.smax) (neg-lt ok.system_ok.ordered);
      sz_in = rw k.sz (within-neg ok.system_ok.sz_in);
    };
    filter_ok = rw k.filter ok.filter_ok;
  }

-- ---- and for all figures there are such

abbrev pulled_temperature : TemperaturePoint → TemperaturePoint
pulled_temperature p = record { ct = p.ct; cto = neg_ℤ p.cto; ctg = p.ctg }

abbrev pulled_linearity : LinearityPoint → LinearityPoint
pulled_linearity p = record { clx = neg_ℤ p.clx; clk = neg_ℤ p.clk }

abbrev turned : List LinearityPoint → List LinearityPoint
turned [] = []
turned (p ∷ rest) = turned rest ++ (pulled_linearity p ∷ [])

pub mirror_of : Calibration → Calibration
mirror_of c = record {
  cell = record { cofs = neg_ℤ c.cell.cofs; cgai = c.cell.cgai; cmin = neg_ℤ c.cell.cmax; cmax = neg_ℤ c.cell.cmin };
  temperature = record { ctn = c.temperature.ctn; points = map pulled_temperature c.temperature.points };
  linearity = record { cln = c.linearity.cln; points = turned (take c.linearity.cln c.linearity.points) ++ drop c.linearity.cln c.linearity.points };
  system = record { sofs = neg_ℤ c.system.sofs; sgai = c.system.sgai; smin = neg_ℤ c.system.smax; smax = neg_ℤ c.system.smin; sz = neg_ℤ c.system.sz };
  filter = c.filter;
}

turned-length : (ps : List LinearityPoint) → length (turned ps) ≡ length ps
turned-length [] = refl
turned-length (p ∷ rest) = length-append (turned rest) _ ∙ ap (λ (n : ℕ). n + 1) (turned-length rest) ∙ omega arith

turned_rows : (ps : List LinearityPoint) → map linearity_row (turned ps) ≡ mirrored (map linearity_row ps)
turned_rows [] = refl
turned_rows (p ∷ rest) = map-append linearity_row (turned rest) _ ∙ ap (λ (l : List Point). l ++ (opposite (linearity_row p) ∷ [])) (turned_rows rest)

take-map : {A B : Type 0} (f : A → B) (n : ℕ) (l : List A) → take n (map f l) ≡ map f (take n l)
take-map f zero l = refl
take-map f (suc n) [] = refl
take-map {B} f (suc n) (x ∷ l) = ap (λ (r : List B). f x ∷ r) (take-map f n l)

temperature-rows : (n : ℕ) (ps : List TemperaturePoint) → take n (map temperature_row (map pulled_temperature ps)) ≡ map cto_negated (take n (map temperature_row ps))
temperature-rows zero ps = refl
temperature-rows (suc n) [] = refl
temperature-rows (suc n) (p ∷ rest) = ap (λ (l : List Point). cto_negated (temperature_row p) ∷ l) (temperature-rows n rest)

linearity-rows : (n : ℕ) (ps : List LinearityPoint) → n ≤ length ps → take n (map linearity_row (turned (take n ps) ++ drop n ps)) ≡ mirrored (take n (map linearity_row ps))
linearity-rows n ps l =
    let t = turned (take n ps) in
    ap (take n) (map-append linearity_row t (drop n ps))
    ∙ ap (λ (k : ℕ). take k (map linearity_row t ++ map linearity_row (drop n ps))) (sym (length-map t linearity_row ∙ turned-length (take n ps) ∙ length-take-le n ps l))
    ∙ take-append_seam (map linearity_row t) (map linearity_row (drop n ps))
    ∙ turned_rows (take n ps)
    ∙ ap mirrored (sym (take-map linearity_row n ps))

module _ (c : Calibration) (r : Representable c) (ok : Acceptable c) where
  cln-in : c.linearity.cln ≤ length c.linearity.points
  cln-in = rw r.seven ok.linearity_ok.most

  pub mirror-mirrors : Mirrors c (mirror_of c)
  unfolding temperatures linearities mirror_of
  mirror-mirrors = record {
    cofs = refl;
    cgai = refl;
    cmin = refl;
    cmax = refl;
    ctn = refl;
    temperature = temperature-rows c.temperature.ctn c.temperature.points;
    cln = refl;
    linearity = linearity-rows c.linearity.cln c.linearity.points cln-in;
    sofs = refl;
    sgai = refl;
    smin = refl;
    smax = refl;
    sz = refl;
    filter = refl;
  }

  pub mirror-representable : Representable (mirror_of c)
  unfolding mirror_of
  mirror-representable = record {
    five = length-map c.temperature.points pulled_temperature ∙ r.five;
    seven = length_front c.linearity.points (turned (take c.linearity.cln c.linearity.points)) c.linearity.cln (turned-length (take c.linearity.cln c.linearity.points)) ∙ r.seven;
  }

-- ---- what stands past the counts does not matter

used-rows : {A : Type 0} (none : A) (row : A → Point) (n : ℕ) (ps : List A) → take n (map row (used none n ps)) ≡ take n (map row ps)
used-rows none row zero ps = refl
used-rows none row (suc n) [] = refl
used-rows none row (suc n) (p ∷ ps) = ap (λ (l : List Point). row p ∷ l) (used-rows none row n ps)

pub mirrors-unused : {c m : Calibration} → Mirrors c m → Mirrors c (unused_zero m)
unfolding unused_zero temperatures linearities
mirrors-unused {m} k = record {
  cofs = k.cofs;
  cgai = k.cgai;
  cmin = k.cmin;
  cmax = k.cmax;
  ctn = k.ctn;
  temperature = used-rows no_temperature temperature_row m.temperature.ctn m.temperature.points ∙ k.temperature;
  cln = k.cln;
  linearity = used-rows no_linearity linearity_row m.linearity.cln m.linearity.points ∙ k.linearity;
  sofs = k.sofs;
  sgai = k.sgai;
  smin = k.smin;
  smax = k.smax;
  sz = k.sz;
  filter = k.filter;
}
