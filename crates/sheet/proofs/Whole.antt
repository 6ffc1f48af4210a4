-- Where nothing is missing, figures at any place are judged as figures by themselves. Assumes nothing.
use Rattle.std.proofs.Common.{◌≡◌, ℕ, zero, suc, ◌+◌, ◌*◌, ◌<◌, ◌≤◌, List, sym, refl, ◌∙◌, arith}
use Rattle.figures.specs.declared.Cell.{Cell}
use Rattle.figures.specs.declared.TemperaturePoint.{TemperaturePoint}
use Rattle.figures.specs.declared.Temperature.{Temperature}
use Rattle.figures.specs.declared.LinearityPoint.{LinearityPoint}
use Rattle.figures.specs.declared.Linearity.{Linearity}
use Rattle.figures.specs.declared.System.{System}
use Rattle.figures.specs.declared.Filter.{Filter}
use Rattle.figures.specs.declared.Calibration.{Calibration}
use Rattle.sheet.specs.Places.{temperature_start, linearity_start, system_start, filter_start, sheet_length}
use Rattle.sheet.specs.Judge.{◌then◌, never, wrong_count, points_number, count_number, cell_number, temperature_point_number, temperature_number, linearity_point_number, linearity_number, system_number, filter_number, sections_number}
use Rattle.sheet.proofs.Chain.{then-cong}

pub points-cong : {f g : ℕ → ℕ} (n : ℕ) → ((i : ℕ) → i < n → f i ≡ g i) → points_number f n ≡ points_number g n
points-cong zero h = refl
points-cong (suc n) h = then-cong (points-cong n (λ i l. h i (omega arith))) (λ _. h n (omega arith))

module _ (short : ℕ → ℕ) where
  count-whole : (at least most n : ℕ) → short (at + 1) ≡ 0 → count_number short at least most n ≡ wrong_count least most n
  count-whole at least most n h = rw h

  cell-whole : (at count : ℕ) (c : Cell) → ((e : ℕ) → e ≤ at + 33 → short e ≡ 0) → cell_number short at count c ≡ cell_number never 0 count c
  unfolding cell_number
  cell-whole at count c h = rw (h (at + 1) (omega arith), h (at + 1 + 8) (omega arith), h (at + 9 + 8) (omega arith), h (at + 17 + 8) (omega arith), h (at + 25 + 8) (omega arith))

  temperature-point-whole : (at : ℕ) (ps : List TemperaturePoint) (i : ℕ) → ((e : ℕ) → e ≤ at + 24 → short e ≡ 0) → temperature_point_number short at ps i ≡ temperature_point_number never (1 + 24 * i) ps i
  unfolding temperature_point_number
  temperature-point-whole at ps i h = rw (h (at + 8) (omega arith), h (at + 8 + 8) (omega arith), h (at + 16 + 8) (omega arith))

  temperature-whole : (at : ℕ) (t : Temperature) → ((e : ℕ) → e ≤ at + 1 + 24 * t.ctn → short e ≡ 0) → temperature_number short at t ≡ temperature_number never 0 t
  unfolding temperature_number
  temperature-whole at t h =
      then-cong (count-whole at 2 5 t.ctn (h (at + 1) (omega arith))) (λ _. points-cong t.ctn (λ i l. temperature-point-whole (at + 1 + 24 * i) t.points i (λ e k. h e (omega arith))))

  linearity-point-whole : (at : ℕ) (ps : List LinearityPoint) (i : ℕ) → ((e : ℕ) → e ≤ at + 16 → short e ≡ 0) → linearity_point_number short at ps i ≡ linearity_point_number never (1 + 16 * i) ps i
  unfolding linearity_point_number
  linearity-point-whole at ps i h = rw (h (at + 8) (omega arith), h (at + 8 + 8) (omega arith))

  linearity-whole : (at : ℕ) (l : Linearity) → ((e : ℕ) → e ≤ at + 1 + 16 * l.cln → short e ≡ 0) → linearity_number short at l ≡ linearity_number never 0 l
  unfolding linearity_number
  linearity-whole at l h =
      then-cong (count-whole at 2 7 l.cln (h (at + 1) (omega arith))) (λ _. points-cong l.cln (λ i k. linearity-point-whole (at + 1 + 16 * i) l.points i (λ e m. h e (omega arith))))

  system-whole : (at count : ℕ) (s : System) → ((e : ℕ) → e ≤ at + 41 → short e ≡ 0) → system_number short at count s ≡ system_number never 0 count s
  unfolding system_number
  system-whole at count s h =
      rw (h (at + 1) (omega arith), h (at + 1 + 8) (omega arith), h (at + 9 + 8) (omega arith), h (at + 17 + 8) (omega arith), h (at + 25 + 8) (omega arith), h (at + 33 + 8) (omega arith))

  filter-whole : (at count : ℕ) (f : Filter) → ((e : ℕ) → e ≤ at + 17 → short e ≡ 0) → filter_number short at count f ≡ filter_number never 0 count f
  unfolding filter_number
  filter-whole at count f h = rw (h (at + 1) (omega arith), h (at + 1 + 8) (omega arith), h (at + 9 + 8) (omega arith))

-- figures by themselves: the places do not matter
unfoldable pub alone : ℕ → ℕ → ℕ → Calibration → ℕ
alone a b d c =
    cell_number never 0 a c.cell
    then temperature_number never 0 c.temperature
    then linearity_number never 0 c.linearity
    then system_number never 0 b c.system
    then filter_number never 0 d c.filter

pub sections-alone : (short : ℕ → ℕ) (a b d : ℕ) (c : Calibration) → ((e : ℕ) → e ≤ sheet_length c → short e ≡ 0) → sections_number short a b d c ≡ alone a b d c
unfolding sections_number alone
sections-alone short a b d c h =
    then-cong (cell-whole short 0 a c.cell (λ e l. h e (omega arith)))
    (λ _. then-cong (temperature-whole short temperature_start c.temperature (λ e l. h e (omega arith)))
    (λ _. then-cong (linearity-whole short (linearity_start c.temperature.ctn) c.linearity (λ e l. h e (omega arith)))
    (λ _. then-cong (system-whole short (system_start c.temperature.ctn c.linearity.cln) b c.system (λ e l. h e (omega arith)))
    (λ _. filter-whole short (filter_start c.temperature.ctn c.linearity.cln) d c.filter (λ e l. h e l)))))

pub sections-whole : (short : ℕ → ℕ) (a b d : ℕ) (c : Calibration) → ((e : ℕ) → e ≤ sheet_length c → short e ≡ 0) → sections_number short a b d c ≡ sections_number never a b d c
sections-whole short a b d c h = sections-alone short a b d c h ∙ sym (sections-alone never a b d c (λ e l. refl))
