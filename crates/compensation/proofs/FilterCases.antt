-- The cases of the filter's rule, as the code meets them. Assumes nothing.
use mathlib.Core.Path.{◌≡◌, refl, ap}
use mathlib.Core.Bool.{Bool, true, false, cond, ◌||◌}
use Prim.Native.Nat.{zero, suc, ◌<◌, ◌≤◌}
use native.Mathlib.Omega.{arith}
use lib.Dec.{lit<}
use borrow.Author.Tests.{ne_eqb}
use lib.IntN.{ℤ, pos, negsuc, nat_abs, ◌+ℤ◌, ◌-ℤ◌}
use lib.Signed.{lt_z, ◌≤ℤ◌}
use mir.Syntax.{w64}
use mir.Val.{SFits, of_z}
use Rattle.integers.proofs.Parts.{abs-parts, ints}
use Rattle.integers.proofs.Difference.{⟨◌⟩, nat, le!, lt! }
use Rattle.integers.proofs.Order.{yes_lt, no_lt}
use Rattle.integers.proofs.Machine.{eq-bits}
use Rattle.arithmetic.specs.Round.{round_div}
use Rattle.figures.specs.declared.Filter.{Filter}
use Rattle.compensation.specs.Filter.{is_zero, filtered}

-- ---- a test for 0 compares bits

pub zero_bits : (z : ℤ) → SFits w64 z → of_z w64 z ≡ 0 → is_zero z ≡ true
zero_bits z f e = ap is_zero (eq-bits w64 z (pos 0) f (record { sfits = lit< tt }) e)

pub not-zero-bits : (z : ℤ) → (of_z w64 z ≡ 0 → ⊥) → is_zero z ≡ false
not-zero-bits (pos zero) f = absurd (f refl)
not-zero-bits (pos (suc n)) f = ne_eqb (suc n) 0 (λ e. omega arith)
not-zero-bits (negsuc n) f = refl

-- ---- FFLV is not negative: it is compared by sizes

pub more-than-level : (level change : ℤ) → pos 0 ≤ℤ level → nat_abs level < nat_abs change → lt_z level (pos (nat_abs change)) ≡ true
more-than-level level change l h = yes_lt (lt! ⟨ level ⟩ (nat (nat_abs change)) (omega (ints, abs-parts level)))

pub within_level : (level change : ℤ) → pos 0 ≤ℤ level → nat_abs change ≤ nat_abs level → lt_z level (pos (nat_abs change)) ≡ false
within_level (pos n) change l h = no_lt (le! (nat (nat_abs change)) (nat n) (omega arith))
within_level (negsuc n) change l h = absurd l.le

-- ---- which value is held

module _ (f : Filter) (first : Bool) (previous held input : ℤ) where
  pub at_first : first ≡ true → filtered f first previous held input ≡ input
  unfolding filtered
  at_first e = rw e

  pub no_level : is_zero f.fflv ≡ true → filtered f first previous held input ≡ input
  unfolding filtered
  no_level e = rw e (by _ first)
    where
      by : (x : ℤ) (a : Bool) → cond (a || true) input x ≡ input
      by x true = refl
      by x false = refl

  pub no_steps : is_zero f.ffst ≡ true → filtered f first previous held input ≡ input
  unfolding filtered
  no_steps e = rw e (by _ first (is_zero f.fflv))
    where
      by : (x : ℤ) (a b : Bool) → cond (a || (b || true)) input x ≡ input
      by x true b = refl
      by x false true = refl
      by x false false = refl

  pub too_far : lt_z f.fflv (pos (nat_abs (input -ℤ previous))) ≡ true → filtered f first previous held input ≡ input
  unfolding filtered
  too_far e = rw e (by (first || (is_zero f.fflv || is_zero f.ffst)))
    where
      by : (b : Bool) → cond b input input ≡ input
      by true = refl
      by false = refl

  pub one-step : first ≡ false → is_zero f.fflv ≡ false → is_zero f.ffst ≡ false → lt_z f.fflv (pos (nat_abs (input -ℤ previous))) ≡ false → filtered f first previous held input ≡ held +ℤ round_div (input -ℤ held) f.ffst
  unfolding filtered
  one-step a l s d = rw (a, l, s, d) refl
