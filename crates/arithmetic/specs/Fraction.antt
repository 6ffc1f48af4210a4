-- Fractions (01, "The reading"): "A fraction is a pair of whole numbers, the lower one above 0; fractions and distances are
-- compared by multiplying out."
use Rattle.std.specs.Prelude.{Bool, ℕ, ◌*◌, ◌≤◌, ℤ, pos, nat_abs, ◌+ℤ◌, ◌-ℤ◌, ◌*ℤ◌, ◌<ℤ◌}
use Rattle.std.specs.Int.Signed.{le_z}

pub record Fraction : Type 0 where
  pub top : ℤ
  pub low : ℤ

infix 55 ◌over◌
abbrev pub ◌over◌ : ℤ → ℤ → Fraction
a over d = record { top = a; low = d }

abbrev pub whole : ℤ → Fraction
whole z = z over pos 1

infixl 60 ◌+F◌ ◌-F◌
infixl 70 ◌*F◌ ◌/F◌
abbrev pub ◌+F◌ : Fraction → Fraction → Fraction
p +F q = (p.top *ℤ q.low +ℤ q.top *ℤ p.low) over (p.low *ℤ q.low)

abbrev pub ◌-F◌ : Fraction → Fraction → Fraction
p -F q = (p.top *ℤ q.low -ℤ q.top *ℤ p.low) over (p.low *ℤ q.low)

abbrev pub ◌*F◌ : Fraction → Fraction → Fraction
p *F q = (p.top *ℤ q.top) over (p.low *ℤ q.low)

-- divided by a whole number above 0
abbrev pub ◌/F◌ : Fraction → ℤ → Fraction
p /F d = p.top over (p.low *ℤ d)

-- is q at most the whole number z?
infix 50 ◌≤?◌
abbrev pub ◌≤?◌ : Fraction → ℤ → Bool
q ≤? z = le_z q.top (z *ℤ q.low)

-- q is a fraction, and the whole number x lies within k/u of it: u·|x − q| ≤ k, multiplied out
pub record Near (k u : ℕ) (x : ℤ) (q : Fraction) : Type 0 where
  pub above : pos 0 <ℤ q.low
  pub near : u * nat_abs (x *ℤ q.low -ℤ q.top) ≤ k * nat_abs q.low
