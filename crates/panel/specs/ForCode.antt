-- For the code alone, and nothing to be believed: what its functions may be handed, and `used` of `figures/specs/Unused.antt` in pieces.
use Rattle.std.specs.Prelude.{◌≡◌, ℕ, ℤ, pos, nat_abs, ◌≤ℤ◌}
use Rattle.integers.specs.Within.{◌within◌}
use Rattle.figures.specs.Unused.{no_temperature, no_linearity, used}
use Rattle.figures.specs.declared.Temperature.{Temperature}
use Rattle.figures.specs.declared.Linearity.{Linearity}
use Rattle.figures.specs.declared.Calibration.{Calibration}
use Rattle.register.specs.Number.{CLN, CTN}
use Rattle.register.specs.Register.{range_of}
use Rattle.panel.specs.Figure.{figure_at}

-- what is written as a count fits its byte
pub record Counts (n : ℕ) (z : ℤ) : Type 0 where
  pub clx_count : n ≡ CLN → (pos 0 ≤ℤ z) × (z ≤ℤ pos 255)
  pub ct_count : n ≡ CTN → (pos 0 ≤ℤ z) × (z ≤ℤ pos 255)

-- every figure within its register's range, as a float of it is asked for
abbrev pub InRange : Calibration → Type 0
InRange c = (n : ℕ) → (figure_at c n) within (nat_abs (range_of n).most)

-- table by table
abbrev pub temperature_used : Temperature → Temperature
temperature_used t = record { ctn = t.ctn; points = used no_temperature t.ctn t.points }

abbrev pub linearity_used : Linearity → Linearity
linearity_used l = record { cln = l.cln; points = used no_linearity l.cln l.points }
