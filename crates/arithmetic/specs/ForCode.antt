-- For the code alone, and nothing to be believed: what the functions of interpolation may be handed, so that no product leaves an i64.
-- The figures of every sheet keep it; no definition rests on it.
use Rattle.std.specs.Prelude.{List, ℕ, ◌^◌, ℤ, ◌≤ℤ◌, ◌<ℤ◌}
use Rattle.integers.specs.Within.{◌within◌}
use Rattle.arithmetic.specs.Table.{Point}
use Rattle.arithmetic.specs.Keeps.{ColumnWithin}

-- column j of a table
pub record Computable (j : ℕ) (table : List Point) : Type 0 where
  pub places : ColumnWithin 0 (2 ^ 31) table
  pub values : ColumnWithin j (2 ^ 27) table

-- `line_at`: t lies in the segment from (t₁, v₁) to (t₂, v₂), between the last point below t and the one after it
pub record Segment (t₁ v₁ t₂ v₂ t : ℤ) : Type 0 where
  pub t₁_in : t₁ within (2 ^ 31)
  pub v₁_in : v₁ within (2 ^ 27)
  pub t₂_in : t₂ within (2 ^ 31)
  pub v₂_in : v₂ within (2 ^ 27)
  pub after : t₁ <ℤ t
  pub upto : t ≤ℤ t₂
