-- Figures without fault have none in any section. Assumes nothing.
use Rattle.std.proofs.Common.{◌≡◌, ℕ, ◌+◌, ◌*◌, ◌≤◌}
use Rattle.figures.specs.declared.Temperature.{Temperature}
use Rattle.figures.specs.declared.Linearity.{Linearity}
use Rattle.figures.specs.declared.Calibration.{Calibration}
use Rattle.sheet.specs.Places.{temperature_start, linearity_start, system_start, filter_start}
use Rattle.sheet.specs.Judge.{◌then◌, never, count_number, points_number, cell_number, temperature_point_number, temperature_number, linearity_point_number, linearity_number, system_number, filter_number, sections_number, figures_number}
use Rattle.sheet.proofs.Chain.{then-none, both}
use Rattle.sheet.proofs.Numbers.{count-in}

module _ (short : ℕ → ℕ) where
  pub record NoFault (a b d : ℕ) (c : Calibration) : Type 0 where
    pub cell-none : cell_number short 0 a c.cell ≡ 0
    pub temperature-none : temperature_number short temperature_start c.temperature ≡ 0
    pub linearity-none : linearity_number short (linearity_start c.temperature.ctn) c.linearity ≡ 0
    pub system-none : system_number short (system_start c.temperature.ctn c.linearity.cln) b c.system ≡ 0
    pub filter_none : filter_number short (filter_start c.temperature.ctn c.linearity.cln) d c.filter ≡ 0

  pub no-fault : (a b d : ℕ) (c : Calibration) → sections_number short a b d c ≡ 0 → NoFault a b d c
  unfolding sections_number
  no-fault a b d c h =
      let u = then-none {a = cell_number short 0 a c.cell} h in
      let v = then-none {a = temperature_number short temperature_start c.temperature} u.1 in
      let w = then-none {a = linearity_number short (linearity_start c.temperature.ctn) c.linearity} v.1 in
      let x = then-none {a = system_number short (system_start c.temperature.ctn c.linearity.cln) b c.system} w.1 in
      record { cell-none = u.0; temperature-none = v.0; linearity-none = w.0; system-none = x.0; filter_none = x.1 }

  pub fault-none : (a b d : ℕ) (c : Calibration) → NoFault a b d c → sections_number short a b d c ≡ 0
  unfolding sections_number
  fault-none a b d c h = both h.cell-none (both h.temperature-none (both h.linearity-none (both h.system-none h.filter_none)))

  -- a table: its count is there and right, and no point has a fault
  pub record NoTableFault (least most at n : ℕ) (number : ℕ → ℕ) : Type 0 where
    pub there : short (at + 1) ≡ 0
    pub enough : least ≤ n
    pub few : n ≤ most
    pub points_none : points_number number n ≡ 0

  table : (least most at n : ℕ) (number : ℕ → ℕ) → count_number short at least most n then points_number number n ≡ 0 → NoTableFault least most at n number
  table least most at n number h =
      let u = then-none {a = count_number short at least most n} h in
      let v = then-none {a = short (at + 1)} u.0 in
      let k = count-in least most n v.1 in
      record { there = v.0; enough = k.0; few = k.1; points_none = u.1 }

  pub temperature-fault : (at : ℕ) (t : Temperature) → temperature_number short at t ≡ 0 → NoTableFault 2 5 at t.ctn (λ i. temperature_point_number short (at + 1 + 24 * i) t.points i)
  unfolding temperature_number
  temperature-fault at t h = table 2 5 at t.ctn _ h

  pub linearity-fault : (at : ℕ) (l : Linearity) → linearity_number short at l ≡ 0 → NoTableFault 2 7 at l.cln (λ i. linearity_point_number short (at + 1 + 16 * i) l.points i)
  unfolding linearity_number
  linearity-fault at l h = table 2 7 at l.cln _ h

-- figures without fault have as many points as their arrays hold, or fewer
pub counts-in : (c : Calibration) → figures_number c ≡ 0 → (c.temperature.ctn ≤ 5) × (c.linearity.cln ≤ 7)
unfolding figures_number
counts-in c h =
    let n = no-fault never 4 5 2 c h in
    ((temperature-fault never temperature_start c.temperature n.temperature-none).few, (linearity-fault never (linearity_start c.temperature.ctn) c.linearity n.linearity-none).few)
