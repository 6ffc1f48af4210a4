-- Points past the count are not looked at: figures are judged and written alike with 0 there. Assumes nothing.
use Rattle.std.proofs.Common.{◌≡◌, ℕ, zero, suc, ◌+◌, ◌*◌, ◌<◌, ◌≤◌, List, ◌++◌, refl, ap, ap₂, arith}
use Rattle.figures.specs.Unused.{no_linearity, no_temperature, used, unused_zero}
use Rattle.figures.specs.declared.TemperaturePoint.{TemperaturePoint}
use Rattle.figures.specs.declared.Temperature.{Temperature}
use Rattle.figures.specs.declared.Linearity.{Linearity}
use Rattle.figures.specs.declared.LinearityPoint.{LinearityPoint}
use Rattle.figures.specs.declared.Calibration.{Calibration}
use Rattle.sheet.specs.Places.{temperature_start, linearity_start}
use Rattle.sheet.specs.Judge.{◌then◌, never, wrong_count, not_below, too_steep, against, temperature_point_number, temperature_number, linearity_point_number, linearity_number, sections_number, figures_number}
use Rattle.sheet.specs.Write.{temperature_point_bytes, linearity_point_bytes, points_bytes, temperature_bytes, linearity_bytes, sheet_bytes}
use Rattle.sheet.proofs.Whole.{points-cong}
use Rattle.sheet.proofs.Points.{used-at}

against-used : {A : Type 0} (none : A) (number : A → A → ℕ) (n : ℕ) (ps : List A) (i : ℕ) → i < n → against none number (used none n ps) i ≡ against none number ps i
against-used none number n ps zero l = refl
against-used none number n ps (suc i) l = ap₂ number (used-at none n ps i (omega arith)) (used-at none n ps (suc i) l)

temperature-used : (at n : ℕ) (ps : List TemperaturePoint) (i : ℕ) → i < n → temperature_point_number never at (used no_temperature n ps) i ≡ temperature_point_number never at ps i
unfolding temperature_point_number
temperature-used at n ps i l = rw (used-at no_temperature n ps i l, against-used no_temperature (λ p q. not_below 4 p.ct q.ct) n ps i l)

linearity-used : (at n : ℕ) (ps : List LinearityPoint) (i : ℕ) → i < n → linearity_point_number never at (used no_linearity n ps) i ≡ linearity_point_number never at ps i
unfolding linearity_point_number
linearity-used at n ps i l =
    rw (used-at no_linearity n ps i l, against-used no_linearity (λ p q. not_below 4 p.clx q.clx) n ps i l, against-used no_linearity too_steep n ps i l)

temperature-table : (at : ℕ) (t : Temperature) → temperature_number never at (record { ctn = t.ctn; points = used no_temperature t.ctn t.points }) ≡ temperature_number never at t
unfolding temperature_number
temperature-table at t =
    ap (λ (n : ℕ). wrong_count 2 5 t.ctn then n) (points-cong t.ctn (λ i l. temperature-used (at + 1 + 24 * i) t.ctn t.points i l))

linearity-table : (at : ℕ) (l : Linearity) → linearity_number never at (record { cln = l.cln; points = used no_linearity l.cln l.points }) ≡ linearity_number never at l
unfolding linearity_number
linearity-table at l =
    ap (λ (n : ℕ). wrong_count 2 7 l.cln then n) (points-cong l.cln (λ i k. linearity-used (at + 1 + 16 * i) l.cln l.points i k))

pub unused-judged : (c : Calibration) → figures_number (unused_zero c) ≡ figures_number c
unfolding figures_number sections_number unused_zero
unused-judged c = rw (temperature-table temperature_start c.temperature, linearity-table (linearity_start c.temperature.ctn) c.linearity)

bytes-used : {A : Type 0} (none : A) (point_bytes : A → List ℕ) (n : ℕ) (ps : List A) (m : ℕ) → m ≤ n → points_bytes none point_bytes (used none n ps) m ≡ points_bytes none point_bytes ps m
bytes-used none point_bytes n ps zero l = refl
bytes-used none point_bytes n ps (suc m) l = ap₂ ◌++◌ (bytes-used none point_bytes n ps m (omega arith)) (ap point_bytes (used-at none n ps m (omega arith)))

pub unused-written : (c : Calibration) → sheet_bytes (unused_zero c) ≡ sheet_bytes c
unfolding sheet_bytes temperature_bytes linearity_bytes unused_zero
unused-written c =
    rw (bytes-used no_temperature temperature_point_bytes c.temperature.ctn c.temperature.points c.temperature.ctn (omega arith), bytes-used no_linearity linearity_point_bytes c.linearity.cln c.linearity.points c.linearity.cln (omega arith))
