-- For the code alone, and nothing to be believed.
use Rattle.std.specs.Prelude.{◌^◌, ◌≤◌}
use Rattle.integers.specs.Within.{◌within◌}
use Rattle.binary32.specs.declared.received.Range.{Range}

-- what the code asks of a range: no register's is wider
pub record Computable (r : Range) : Type 0 where
  pub shift_in : r.shift ≤ 28
  pub least_in : r.least within (2 ^ 34)
  pub most_in : r.most within (2 ^ 34)
