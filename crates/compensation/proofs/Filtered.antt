-- Step 1's second statement holds of `filtered`, and of nothing else by acceptable figures. Assumes nothing.
use mathlib.Core.Path.{◌≡◌, refl, sym, ◌∙◌, ap, subst}
use mathlib.Core.Bool.{Bool, true, false}
use mathlib.Core.Logic.{⊎_elim}
use Prim.Native.Nat.{zero, suc, ◌*◌, ◌≤◌}
use native.Mathlib.Omega.{arith}
use borrow.Author.Tests.{ne_eqb}
use lib.IntN.{ℤ, pos, negsuc, nat_abs, ◌+ℤ◌, ◌-ℤ◌}
use lib.Signed.{lt_z, ◌≤ℤ◌, ◌<ℤ◌}
use Rattle.integers.proofs.Difference.{⟨◌⟩, nat, ◌⊕◌, ◌⊝◌, le!, lt!, le?, lt?, eq!, abs!, abs-above, abs-below}
use Rattle.integers.proofs.Order.{yes_lt, no_lt, ≤-or->, ≤-antisym}
use Rattle.arithmetic.specs.Round.{round_div, Nearest}
use Rattle.arithmetic.proofs.Round.{round-nearest, round_is}
use Rattle.figures.specs.Acceptable.{FilterAcceptable}
use Rattle.figures.specs.declared.Filter.{Filter}
use Rattle.compensation.specs.Filter.{is_zero, filtered}
use Rattle.compensation.specs.Filtered.{Filtered, FilterStated}
use Rattle.compensation.proofs.FilterCases.{at_first, no_level, no_steps, too_far, one-step}

not-zero : {z : ℤ} → pos 0 <ℤ z → is_zero z ≡ false
not-zero {z = pos zero} h = absurd h.lt
not-zero {z = pos (suc n)} h = ne_eqb (suc n) 0 (λ e. omega arith)
not-zero {z = negsuc n} h = absurd h.lt

-- `new` is the step that was taken
moved : (held step : ℤ) → (held +ℤ step) -ℤ held ≡ step
moved held step = eq! (⟨ held ⟩ ⊕ ⟨ step ⟩ ⊝ ⟨ held ⟩) ⟨ step ⟩ (omega arith)

back : (new held step : ℤ) → new -ℤ held ≡ step → new ≡ held +ℤ step
back new held step e = eq! ⟨ new ⟩ (⟨ held ⟩ ⊕ (⟨ new ⟩ ⊝ ⟨ held ⟩)) (omega arith) ∙ ap (λ (z : ℤ). held +ℤ z) e

module _ (f : Filter) (first : Bool) (previous held input : ℤ) where
  above : (previous +ℤ f.fflv) <ℤ input → lt_z f.fflv (pos (nat_abs (input -ℤ previous))) ≡ true
  above h = yes_lt (lt! ⟨ f.fflv ⟩ (nat (nat_abs (input -ℤ previous))) (omega (arith, lt? (⟨ previous ⟩ ⊕ ⟨ f.fflv ⟩) ⟨ input ⟩ h, abs-above (⟨ input ⟩ ⊝ ⟨ previous ⟩))))

  below : (input +ℤ f.fflv) <ℤ previous → lt_z f.fflv (pos (nat_abs (input -ℤ previous))) ≡ true
  below h = yes_lt (lt! ⟨ f.fflv ⟩ (nat (nat_abs (input -ℤ previous))) (omega (arith, lt? (⟨ input ⟩ ⊕ ⟨ f.fflv ⟩) ⟨ previous ⟩ h, abs-below (⟨ input ⟩ ⊝ ⟨ previous ⟩))))

  neither : input ≤ℤ (previous +ℤ f.fflv) → previous ≤ℤ (input +ℤ f.fflv) → pos (nat_abs (input -ℤ previous)) ≤ℤ f.fflv
  neither h k = by f.fflv h k
    where
      by : (level : ℤ) → input ≤ℤ (previous +ℤ level) → previous ≤ℤ (input +ℤ level) → pos (nat_abs (input -ℤ previous)) ≤ℤ level
      by (negsuc n) h k = absurd (omega (arith, le? ⟨ input ⟩ (⟨ previous ⟩ ⊕ ⟨ negsuc n ⟩) h, le? ⟨ previous ⟩ (⟨ input ⟩ ⊕ ⟨ negsuc n ⟩) k))
      by (pos n) h k =
          let d : 1 * nat_abs (input -ℤ previous) ≤ n = abs! (⟨ input ⟩ ⊝ ⟨ previous ⟩) 1 n (omega (arith, le? ⟨ input ⟩ (⟨ previous ⟩ ⊕ nat n) h)) (omega (arith, le? ⟨ previous ⟩ (⟨ input ⟩ ⊕ nat n) k)) in
          le! (nat (nat_abs (input -ℤ previous))) (nat n) (omega arith)

  stepped : first ≡ false → pos 0 <ℤ f.fflv → pos 0 <ℤ f.ffst → input ≤ℤ (previous +ℤ f.fflv) → previous ≤ℤ (input +ℤ f.fflv) → filtered f first previous held input ≡ held +ℤ round_div (input -ℤ held) f.ffst
  stepped a l s h k = one-step f first previous held input a (not-zero l) (not-zero s) (no_lt (neither h k))

  is : Filtered f first previous held input (filtered f first previous held input)
  is = record {
    no_level = λ e. no_level f first previous held input (ap is_zero e);
    no_steps = λ e. no_steps f first previous held input (ap is_zero e);
    at_first = at_first f first previous held input;
    far_above = λ h. too_far f first previous held input (above h);
    far_below = λ h. too_far f first previous held input (below h);
    near = λ a l s h k. subst (Nearest (input -ℤ held) f.ffst) (sym (ap (λ (z : ℤ). z -ℤ held) (stepped a l s h k) ∙ moved held (round_div (input -ℤ held) f.ffst))) (round-nearest (input -ℤ held) f.ffst s);
  }

  -- an FFLV or FFST that is not 0 is above it
  only : (new : ℤ) → FilterAcceptable f → Filtered f first previous held input new → new ≡ filtered f first previous held input
  only new ok p = by first refl
    where
      same : new ≡ input → filtered f first previous held input ≡ input → new ≡ filtered f first previous held input
      same e d = e ∙ sym d

      on : first ≡ false → pos 0 <ℤ f.fflv → pos 0 <ℤ f.ffst → new ≡ filtered f first previous held input
      on a l s = ⊎_elim
          (λ h. ⊎_elim
          (λ k. back new held _ ((round_is (input -ℤ held) f.ffst (new -ℤ held) s).1 (p.near a l s h k)) ∙ sym (stepped a l s h k))
          (λ k. same (p.far_below k) (is.far_below k))
          (≤-or-> previous (input +ℤ f.fflv)))
          (λ h. same (p.far_above h) (is.far_above h))
          (≤-or-> input (previous +ℤ f.fflv))

      by : (b : Bool) → first ≡ b → new ≡ filtered f first previous held input
      by true a = same (p.at_first a) (is.at_first a)
      by false a = ⊎_elim
          (λ h. let e = ≤-antisym h ok.fflv_at_least in same (p.no_level e) (is.no_level e))
          (λ h. ⊎_elim
          (λ k. let e = ≤-antisym k ok.ffst_at_least in same (p.no_steps e) (is.no_steps e))
          (λ k. on a h k)
          (≤-or-> f.ffst (pos 0)))
          (≤-or-> f.fflv (pos 0))

pub filter-stated : FilterStated
filter-stated = record { is = is; only = only }
