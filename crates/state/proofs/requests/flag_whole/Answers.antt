-- `state::requests::flag_whole` meets its contract: what FLAG takes fits its 16 bits. Assumes nothing.
use mathlib.Core.Path.{◌≡◌}
use native.Mathlib.Omega.{arith}
use lib.Dec.{T}
use lib.IntN.{ℤ, pos, negsuc, nat_abs}
use lib.Ieee.{Float}
use lib.Signed.{non_neg, ◌≤ℤ◌}
use mir.Syntax.{w16}
use mir.Val.{Fits}
use Rattle.integers.proofs.Difference.{nat, le?}
use Rattle.integers.proofs.Machine.{held}
use Rattle.binary32.specs.Received.{counted}
use Rattle.binary32.specs.ForCode.{Computable}
use Rattle.binary32.specs.declared.received.Range.{Range}
use Rattle.binary32.proofs.Counted.{counted-up}
use Rattle.register.specs.Number.{FLAG}
use Rattle.register.specs.Register.{access_of, range_of}
use Rattle.register.proofs.Registers.{range-computable}
use Rattle.state.proofs.requests.flag_whole.Goals as goal

of_range : {r : Range} → r ≡ range_of FLAG → Computable r
of_range e = rw e (range-computable FLAG)

word : {r : Range} {z : ℤ} (x : Float) → r ≡ range_of FLAG → z ≡ counted r x → T (non_neg z) × Fits w16 (nat_abs z)
unfolding range_of access_of
word {r} {z} x e h = rw (h, e) (by (counted (range_of FLAG) x) (counted-up (range_of FLAG) (record { le = tt }) (record { le = tt }) x))
  where
    by : (z : ℤ) → (pos 0 ≤ℤ z) × (z ≤ℤ pos 65535) → T (non_neg z) × Fits w16 (nat_abs z)
    by (pos m) g = (tt, record { fits = omega (arith, le? (nat m) (nat 65535) g.1) })
    by (negsuc m) g = absurd g.0.le

pub count-requires : goal.count-requires
count-requires c = of_range c.range_of.ensures

pub overflow_cast-result : goal.overflow_cast-result
overflow_cast-result c = word _ c.range_of.ensures (held c.count.type_inv c.count.ensures)
