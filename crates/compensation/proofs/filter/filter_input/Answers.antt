-- `filter_input` meets its contract, case by case of the rule (FilterCases.antt). Assumes nothing.
use mathlib.Core.Path.{◌≡◌, sym, ◌∙◌, ap}
use mathlib.Core.Bool.{Bool}
use lib.IntN.{ℤ, ◌+ℤ◌, ◌-ℤ◌}
use mir.Syntax.{w64}
use mir.Val.{SFits, to_z, of_z}
use mir.ValLaws.{to_z-of_z}
use Rattle.integers.specs.Within.{◌within◌}
use Rattle.integers.proofs.Parts.{ints}
use Rattle.integers.proofs.Difference.{⟨◌⟩, nat, minus, le! }
use Rattle.integers.proofs.Magnitude.{within_of}
use Rattle.integers.proofs.Machine.{fits, i64s, known}
use Rattle.figures.specs.Limits.{fflv_most, ffst_most}
use Rattle.figures.specs.declared.Filter.{Filter}
use Rattle.compensation.specs.Filter.{filtered}
use Rattle.compensation.specs.ForCode.{FilterInput}
use Rattle.compensation.specs.ReadingLimits.{elec_most}
use Rattle.compensation.proofs.FilterHull.{filtered-within}
use Rattle.compensation.proofs.FilterCases.{zero_bits, not-zero-bits, more-than-level, within_level, at_first, no_level, no_steps, too_far, one-step}
use Rattle.compensation.proofs.filter.filter_input.Goals.{After-round_div, then-first-via-then-first, then-first-via-else-first+then-f-eq0, then-first-via-else-first+else-f-eq0+then-f-unsigned_abs, then-first-via-else-first+else-f-eq0+else-f-unsigned_abs+then-f-eq0-2}
use Rattle.compensation.proofs.filter.filter_input.Goals as goal

-- what fits on the way
module _ {f : Filter} {previous held input : ℤ} (p : FilterInput f previous held input) where
  level_in : f.fflv within fflv_most
  level_in = within_of (le! (minus (nat fflv_most)) ⟨ f.fflv ⟩ (omega (ints, p.acceptable.fflv_at_least))) p.acceptable.fflv_at_most

  steps-in : f.ffst within ffst_most
  steps-in = within_of (le! (minus (nat ffst_most)) ⟨ f.ffst ⟩ (omega (ints, p.acceptable.ffst_at_least))) p.acceptable.ffst_at_most

  level-fits : SFits w64 f.fflv
  level-fits = fits (known level_in) tt

  steps-fits : SFits w64 f.ffst
  steps-fits = fits (known steps-in) tt

  jump_fits : SFits w64 (input -ℤ previous)
  jump_fits = fits (search i64s depth 9) tt

  change-fits : SFits w64 (input -ℤ held)
  change-fits = fits (search i64s depth 9) tt

  sum_fits : (first : Bool) (r : ℤ) → held +ℤ r ≡ filtered f first previous held input → SFits w64 (held +ℤ r)
  sum_fits first r e =
      let h : (held +ℤ r) within elec_most = rw e (filtered-within f first previous held input p.acceptable p.held_in p.input_in) in
      fits (known h) tt

-- the input is held
bypassed : {input r : ℤ} → SFits w64 input → r ≡ input → to_z w64 (of_z w64 input) ≡ r
bypassed h e = to_z-of_z w64 _ h ∙ sym e

pub returns-then-first : goal.returns-then-first
returns-then-first c =
    let s = c in
    let a = s.args in
    let p = s.requires in
    elim c.then-first.branch [
      | then-first-via-then-first w ↦ bypassed s.ranges.input (at_first a.f a.first a.previous a.held a.input w.if-first.true)
      | then-first-via-else-first+then-f-eq0 w ↦ bypassed s.ranges.input (no_steps a.f a.first a.previous a.held a.input (zero_bits a.f.ffst (steps-fits p) w.if-f-eq0.true))
      | then-first-via-else-first+else-f-eq0+then-f-unsigned_abs w ↦
          let jump = simp (to_z-of_z, s.ranges.input, s.ranges.previous, jump_fits p) at w.unsigned_abs.ensures.value in
          let far = more-than-level a.f.fflv (a.input -ℤ a.previous) p.acceptable.fflv_at_least (rw (to_z-of_z w64 _ (level-fits p), jump) at w.if-f-unsigned_abs.true) in
          bypassed s.ranges.input (too_far a.f a.first a.previous a.held a.input far)
      | then-first-via-else-first+else-f-eq0+else-f-unsigned_abs+then-f-eq0-2 w ↦ bypassed s.ranges.input (no_level a.f a.first a.previous a.held a.input (zero_bits a.f.fflv (level-fits p) w.if-f-eq0-2.true))
    ]

-- a step is taken: the filter is on, and the input is not beyond FFLV; the sum is the rule's, and so within the range of the inputs
sum_is : (c : After-round_div) → let a = c.args in a.held +ℤ c.round_div.result ≡ filtered a.f a.first a.previous a.held a.input
sum_is c =
    let a = c.args in
    let p = c.requires in
    let jump = simp (to_z-of_z, c.ranges.input, c.ranges.previous, jump_fits p) at c.unsigned_abs.ensures.value in
    let near = within_level a.f.fflv (a.input -ℤ a.previous) p.acceptable.fflv_at_least (rw (to_z-of_z w64 _ (level-fits p), jump) at c.if-f-unsigned_abs.false) in
    let step = simp (to_z-of_z, c.ranges.input, c.ranges.held, change-fits p, steps-fits p) at c.round_div.ensures in
    ap (λ (r : ℤ). a.held +ℤ r) step
    ∙ sym (one-step a.f a.first a.previous a.held a.input c.if-first.false (not-zero-bits a.f.fflv c.if-f-eq0-2.false) (not-zero-bits a.f.ffst c.if-f-eq0.false) near)

pub overflow_add-result : goal.overflow_add-result
overflow_add-result c =
    let r : SFits w64 c.round_div.result = record { sfits = c.round_div.type_inv } in
    simp (to_z-of_z, c.ranges.held, r) (sum_fits c.requires c.args.first c.round_div.result (sum_is c))

pub returns : goal.returns
returns c =
    let r : SFits w64 c.round_div.result = record { sfits = c.round_div.type_inv } in
    simp (to_z-of_z, c.ranges.held, r, sum_fits c.requires c.args.first c.round_div.result (sum_is c)) (sum_is c)
