-- The filter keeps the range: the held value lies between the one before and the input, whatever FFLV and the previous input are and
-- for every FFST from 0, so it stays within any bound that the inputs keep. Assumes nothing.
use mathlib.Core.Path.{◌≡◌}
use mathlib.Core.Bool.{Bool, true, false, cond, ◌||◌}
use Prim.Native.Nat.{ℕ, zero, suc}
use native.Mathlib.Omega.{arith}
use lib.IntN.{ℤ, pos, negsuc, neg_ℤ, nat_abs, ◌+ℤ◌, ◌-ℤ◌}
use lib.Signed.{lt_z, ◌≤ℤ◌, ◌<ℤ◌}
use Rattle.integers.specs.Within.{◌within◌}
use Rattle.integers.proofs.Parts.{le_parts, lt-parts, ints}
use Rattle.integers.proofs.Difference.{⟨◌⟩, nat, ◌⊕◌, ◌⊝◌, ◌⊗◌, le!, lt!, le?}
use Rattle.integers.proofs.Order.{pick, is_false, product}
use Rattle.integers.proofs.Magnitude.{within_of, within-most, within-least}
use Rattle.arithmetic.specs.Round.{round_div}
use Rattle.arithmetic.proofs.Round.{round-at-least, round-at-most}
use Rattle.figures.specs.Acceptable.{FilterAcceptable}
use Rattle.figures.specs.declared.Filter.{Filter}
use Rattle.compensation.specs.Filter.{is_zero, filtered}

-- a step of the way from h to i stays between bounds of both
module _ (lo hi h i d : ℤ) (d-pos : pos 0 <ℤ d) where
  step-least : lo ≤ℤ h → lo ≤ℤ i → lo ≤ℤ (h +ℤ round_div (i -ℤ h) d)
  step-least a b =
      let R = ⟨ round_div (i -ℤ h) d ⟩ in
      let l = le! ((⟨ lo ⟩ ⊝ ⟨ h ⟩) ⊗ ⟨ d ⟩) (⟨ i ⟩ ⊝ ⟨ h ⟩) (omega (ints, product (le_parts a) (lt-parts d-pos))) in
      le! ⟨ lo ⟩ (⟨ h ⟩ ⊕ R) (omega (arith, le? (⟨ lo ⟩ ⊝ ⟨ h ⟩) R (round-at-least (i -ℤ h) (lo -ℤ h) d d-pos l)))

  step-most : h ≤ℤ hi → i ≤ℤ hi → (h +ℤ round_div (i -ℤ h) d) ≤ℤ hi
  step-most a b =
      let R = ⟨ round_div (i -ℤ h) d ⟩ in
      let u = le! (⟨ i ⟩ ⊝ ⟨ h ⟩) ((⟨ hi ⟩ ⊝ ⟨ h ⟩) ⊗ ⟨ d ⟩) (omega (ints, product (le_parts a) (lt-parts d-pos))) in
      le! (⟨ h ⟩ ⊕ R) ⟨ hi ⟩ (omega (arith, le? R (⟨ hi ⟩ ⊝ ⟨ h ⟩) (round-at-most (i -ℤ h) (hi -ℤ h) d d-pos u)))

step-within : {n : ℕ} (h i d : ℤ) → pos 0 <ℤ d → h within n → i within n → (h +ℤ round_div (i -ℤ h) d) within n
step-within {n} h i d p a b =
    within_of (step-least (neg_ℤ (pos n)) (pos n) h i d p (within-least a) (within-least b)) (step-most (neg_ℤ (pos n)) (pos n) h i d p (within-most a) (within-most b))

-- a filter that is on has an FFST above 0
pub on-pos : (first : Bool) (fflv ffst : ℤ) → pos 0 ≤ℤ ffst → first || (is_zero fflv || is_zero ffst) ≡ false → pos 0 <ℤ ffst
on-pos first fflv (negsuc m) h e = absurd h.le
on-pos first fflv (pos zero) h e = absurd (is_false (off first (is_zero fflv) e))
  where
    off : (a b : Bool) → a || (b || true) ≡ false → true ≡ false
    off true b e = e
    off false true e = e
    off false false e = e
on-pos first fflv (pos (suc m)) h e = lt! (nat 0) (nat (suc m)) (omega arith)

pub filtered-within : {n : ℕ} (f : Filter) (first : Bool) (previous held input : ℤ) → FilterAcceptable f → held within n → input within n → (filtered f first previous held input) within n
unfolding filtered
filtered-within {n} f first previous held input ok a b =
    pick (first || (is_zero f.fflv || is_zero f.ffst)) input (cond (lt_z f.fflv (pos (nat_abs (input -ℤ previous)))) input (held +ℤ round_div (input -ℤ held) f.ffst)) (λ z. z within n)
    (λ e. b)
    (λ e. pick (lt_z f.fflv (pos (nat_abs (input -ℤ previous)))) input (held +ℤ round_div (input -ℤ held) f.ffst) (λ z. z within n)
    (λ k. b)
    (λ k. step-within held input f.ffst (on-pos first f.fflv f.ffst ok.ffst_at_least e) a b))
