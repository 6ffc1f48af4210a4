-- A magnitude with its sign. Assumes nothing.
use mathlib.Core.Path.{◌≡◌, refl}
use mathlib.Core.Bool.{Bool, true, false}
use Prim.Native.Nat.{ℕ, ◌*◌}
use native.Mathlib.Omega.{arith}
use lib.IntN.{pos, nat_abs, ◌*ℤ◌}
use Rattle.integers.proofs.Difference.{nat, minus, ◌⊗◌, eq! }
use Rattle.integers.proofs.Magnitude.{abs_neg}
use Rattle.binary32.specs.Received.{signed}

pub signed_mul : (s : Bool) (n k : ℕ) → signed s n *ℤ pos k ≡ signed s (n * k)
signed_mul false n k = refl
signed_mul true n k = eq! (minus (nat n) ⊗ nat k) (minus (nat (n * k))) (omega arith)

pub abs-signed : (s : Bool) (n : ℕ) → nat_abs (signed s n) ≡ n
abs-signed false n = refl
abs-signed true n = abs_neg (pos n)
