-- What the points around t tell of a table's values there: one point, or two neighbours and the line between them.
use Rattle.std.specs.Prelude.{◌≡◌, List, [], ℕ, suc, ◌<◌, ℤ, ◌≤ℤ◌, ◌<ℤ◌, length, get_or}
use Rattle.arithmetic.specs.Table.{Point, column, place, between}
use Rattle.arithmetic.specs.declared.interpolation.Around.{Around}
use Rattle.arithmetic.specs.declared.interpolation.Around.TheVariants.{At, Between}

-- the value of column j
abbrev pub value_at : {P : Type 0} → (P → Point) → ℕ → Around P → ℤ → ℤ
value_at point j (At p) t = column j (point p)
value_at point j (Between p q) t = between j (point p) (point q) t

-- p and q are neighbours of the table, and t lies past p, and not past q
pub record Neighbouring (table : List Point) (p q : Point) (t : ℤ) : Type 0 where
  pub at : ℕ
  pub inside : suc at < length table
  pub first_is : p ≡ get_or table at []
  pub second_is : q ≡ get_or table (suc at) []
  pub after : place p <ℤ t
  pub upto : t ≤ℤ place q

abbrev pub Lies : {P : Type 0} → (P → Point) → List Point → ℤ → Around P → Type 0
Lies point table t (At p) = Unit
Lies point table t (Between p q) = Neighbouring table (point p) (point q) t
