-- Tables without fault keep their limits, and the other way round. Assumes nothing.
use Rattle.std.proofs.Common.{◌≡◌, ℕ, zero, suc, ◌*◌, ◌<◌, ◌≤◌, List, length, get_or, ◌-ℤ◌, nat_abs, ◌<ℤ◌, refl, arith}
use Rattle.integers.specs.Within.{◌within◌}
use Rattle.figures.specs.Limits.{ct_most, cto_most, ctg_most, clx_most, clk_most}
use Rattle.figures.specs.Acceptable.{TemperatureAcceptable, LinearityAcceptable}
use Rattle.figures.specs.Rows.{linearities, temperatures, linearity_row, temperature_row}
use Rattle.figures.specs.Unused.{no_linearity, no_temperature}
use Rattle.figures.specs.declared.TemperaturePoint.{TemperaturePoint}
use Rattle.figures.specs.declared.Temperature.{Temperature}
use Rattle.figures.specs.declared.LinearityPoint.{LinearityPoint}
use Rattle.figures.specs.declared.Linearity.{Linearity}
use Rattle.sheet.specs.Judge.{never, not_below, too_steep, against, temperature_point_number, temperature_number, linearity_point_number, linearity_number}
use Rattle.sheet.proofs.Chain.{then-none, both}
use Rattle.sheet.proofs.Numbers.{in_count, figure-in, in-figure, below_in, in-below, steep-in, in-steep}
use Rattle.sheet.proofs.Sections.{temperature-fault, linearity-fault}
use Rattle.sheet.proofs.Rows.{points-each, each-points, each_row, row-each, next_row, row_next}
use Rattle.sheet.proofs.AcceptableSections.{far}

record TemperaturePoint-in (ps : List TemperaturePoint) (i : ℕ) : Type 0 where
  ct : (get_or ps i no_temperature).ct within ct_most
  rise : against no_temperature (λ p q. not_below 4 p.ct q.ct) ps i ≡ 0
  cto : (get_or ps i no_temperature).cto within cto_most
  ctg : (get_or ps i no_temperature).ctg within ctg_most

temperature-point-in : (at : ℕ) (ps : List TemperaturePoint) (i : ℕ) → temperature_point_number never at ps i ≡ 0 → TemperaturePoint-in ps i
unfolding temperature_point_number
temperature-point-in at ps i h =
    let u = then-none {a = far ct_most (get_or ps i no_temperature).ct} h in
    let v = then-none {a = against no_temperature (λ p q. not_below 4 p.ct q.ct) ps i} u.1 in
    let w = then-none {a = far cto_most (get_or ps i no_temperature).cto} v.1 in
    record { ct = figure-in _ _ u.0; rise = v.0; cto = figure-in _ _ w.0; ctg = figure-in _ _ w.1 }

pub temperature-in : (at : ℕ) (t : Temperature) → length t.points ≡ 5 → temperature_number never at t ≡ 0 → TemperatureAcceptable t
unfolding temperatures
temperature-in at t five h =
    let f = temperature-fault never at t h in
    let k : t.ctn ≤ length t.points = omega (arith, f.few) in
    let p : (i : ℕ) → i < t.ctn → TemperaturePoint-in t.points i = λ i l. temperature-point-in _ t.points i (points-each _ t.ctn f.points_none i l) in
    let e = each_row no_temperature temperature_row t.points t.ctn k in
    record {
      least = f.enough;
      most = f.few;
      ct_in = e _ (λ i l. (p i l).ct);
      cto_in = e _ (λ i l. (p i l).cto);
      ctg_in = e _ (λ i l. (p i l).ctg);
      rising = next_row no_temperature temperature_row t.points t.ctn k _ (λ i l. below_in 3 _ _ (p (suc i) l).rise);
    }

rises : (ps : List TemperaturePoint) (n : ℕ) → ((i : ℕ) → suc i < n → (get_or ps i no_temperature).ct <ℤ (get_or ps (suc i) no_temperature).ct) → (i : ℕ) → i < n → against no_temperature (λ p q. not_below 4 p.ct q.ct) ps i ≡ 0
rises ps n h zero l = refl
rises ps n h (suc i) l = in-below 4 (h i l)

pub in-temperature : (at : ℕ) (t : Temperature) → length t.points ≡ 5 → TemperatureAcceptable t → temperature_number never at t ≡ 0
unfolding temperature_number temperature_point_number temperatures
in-temperature at t five h =
    let k : t.ctn ≤ length t.points = omega (arith, h.most) in
    let e = row-each no_temperature temperature_row t.points t.ctn k in
    let r = rises t.points t.ctn (row_next no_temperature temperature_row t.points t.ctn k _ h.rising) in
    both (in_count h.least h.most)
    (each-points _ t.ctn (λ i l. both (in-figure (e _ h.ct_in i l)) (both (r i l) (both (in-figure (e _ h.cto_in i l)) (in-figure (e _ h.ctg_in i l))))))

record LinearityPoint-in (ps : List LinearityPoint) (i : ℕ) : Type 0 where
  clx : (get_or ps i no_linearity).clx within clx_most
  rise : against no_linearity (λ p q. not_below 4 p.clx q.clx) ps i ≡ 0
  clk : (get_or ps i no_linearity).clk within clk_most
  flat : against no_linearity too_steep ps i ≡ 0

linearity-point-in : (at : ℕ) (ps : List LinearityPoint) (i : ℕ) → linearity_point_number never at ps i ≡ 0 → LinearityPoint-in ps i
unfolding linearity_point_number
linearity-point-in at ps i h =
    let u = then-none {a = far clx_most (get_or ps i no_linearity).clx} h in
    let v = then-none {a = against no_linearity (λ p q. not_below 4 p.clx q.clx) ps i} u.1 in
    let w = then-none {a = far clk_most (get_or ps i no_linearity).clk} v.1 in
    record { clx = figure-in _ _ u.0; rise = v.0; clk = figure-in _ _ w.0; flat = w.1 }

pub linearity-in : (at : ℕ) (l : Linearity) → length l.points ≡ 7 → linearity_number never at l ≡ 0 → LinearityAcceptable l
unfolding linearities
linearity-in at l seven h =
    let f = linearity-fault never at l h in
    let k : l.cln ≤ length l.points = omega (arith, f.few) in
    let p : (i : ℕ) → i < l.cln → LinearityPoint-in l.points i = λ i m. linearity-point-in _ l.points i (points-each _ l.cln f.points_none i m) in
    let e = each_row no_linearity linearity_row l.points l.cln k in
    let n = next_row no_linearity linearity_row l.points l.cln k in
    record {
      least = f.enough;
      most = f.few;
      clx_in = e _ (λ i m. (p i m).clx);
      clk_in = e _ (λ i m. (p i m).clk);
      rising = n _ (λ i m. below_in 3 _ _ (p (suc i) m).rise);
      gentle = n _ (λ i m. steep-in _ _ (p (suc i) m).flat);
    }

climbs : (ps : List LinearityPoint) (n : ℕ) → ((i : ℕ) → suc i < n → (get_or ps i no_linearity).clx <ℤ (get_or ps (suc i) no_linearity).clx) → (i : ℕ) → i < n → against no_linearity (λ p q. not_below 4 p.clx q.clx) ps i ≡ 0
climbs ps n h zero l = refl
climbs ps n h (suc i) l = in-below 4 (h i l)

gentle : (ps : List LinearityPoint) (n : ℕ)
    → ((i : ℕ) → suc i < n → 4 * nat_abs ((get_or ps (suc i) no_linearity).clk -ℤ (get_or ps i no_linearity).clk) ≤ nat_abs ((get_or ps (suc i) no_linearity).clx -ℤ (get_or ps i no_linearity).clx)) → (i : ℕ) → i < n → against no_linearity too_steep ps i ≡ 0
gentle ps n h zero l = refl
gentle ps n h (suc i) l = in-steep _ _ (h i l)

pub in-linearity : (at : ℕ) (l : Linearity) → length l.points ≡ 7 → LinearityAcceptable l → linearity_number never at l ≡ 0
unfolding linearity_number linearity_point_number linearities
in-linearity at l seven h =
    let k : l.cln ≤ length l.points = omega (arith, h.most) in
    let e = row-each no_linearity linearity_row l.points l.cln k in
    let n = row_next no_linearity linearity_row l.points l.cln k in
    let r = climbs l.points l.cln (n _ h.rising) in
    let g = gentle l.points l.cln (n _ h.gentle) in
    both (in_count h.least h.most) (each-points _ l.cln (λ i m. both (in-figure (e _ h.clx_in i m)) (both (r i m) (both (in-figure (e _ h.clk_in i m)) (g i m)))))
