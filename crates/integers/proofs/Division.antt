-- The machine's quotient, which goes towards zero, for a divisor above 0. Assumes nothing.
use mathlib.Core.Path.{◌≡◌, refl, sym, ◌∙◌}
use Prim.Native.Nat.{ℕ, suc, ◌/◌}
use native.Mathlib.Omega.{arith}
use native.Mathlib.Nat.{zero-div, div-le_self}
use lib.IntN.{ℤ, pos, negsuc}
use lib.Signed.{quot_z, ◌<ℤ◌}
use mir.Syntax.{Width}
use mir.Val.{SFits}
use Rattle.integers.proofs.Parts.{pos_part, neg_part, neg-pos-part, neg-neg-part}
use Rattle.integers.proofs.Difference.{⟨◌⟩}
use Rattle.integers.proofs.Machine.{fits!, fits-pos-part, fits-neg-part}

-- it goes part by part
quot-pos-part : (z : ℤ) (m : ℕ) → pos_part (quot_z z (pos m)) ≡ pos_part z / m
quot-pos-part (pos a) m = refl
quot-pos-part (negsuc a) m = neg-pos-part (pos (suc a / m)) ∙ sym (zero-div m)

quot-neg-part : (z : ℤ) (m : ℕ) → neg_part (quot_z z (pos m)) ≡ neg_part z / m
quot-neg-part (pos a) m = sym (zero-div m)
quot-neg-part (negsuc a) m = neg-neg-part (pos (suc a / m))

-- it fits where z does
pub quot_fits : {w : Width} {z d : ℤ} → SFits w z → pos 0 <ℤ d → SFits w (quot_z z d)
quot_fits {d = negsuc m} f h = absurd h.lt
quot_fits {z} {d = pos m} f h =
    fits! ⟨ quot_z z (pos m) ⟩ (omega (arith, fits-pos-part f, fits-neg-part f, quot-pos-part z m, quot-neg-part z m, div-le_self (pos_part z) m, div-le_self (neg_part z) m))
