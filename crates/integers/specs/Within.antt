-- How large a whole number may be.
use Rattle.std.specs.Prelude.{ℕ, ◌≤◌, ℤ, nat_abs}

-- |z| ≤ n
infix 50 ◌within◌
pub record ◌within◌ (z : ℤ) (n : ℕ) : Type 0 where
  pub abs : nat_abs z ≤ n
