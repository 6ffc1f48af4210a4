-- Step 1 once more, as a property and sentence by sentence, with Change 2's previous input. `filtered` of `Filter.antt` has it for every
-- filter, and by acceptable figures nothing else does (proofs/Filtered.antt).
use Rattle.std.specs.Prelude.{◌≡◌, Bool, true, false, ℤ, pos, ◌+ℤ◌, ◌-ℤ◌, ◌≤ℤ◌, ◌<ℤ◌}
use Rattle.arithmetic.specs.Round.{Nearest}
use Rattle.figures.specs.Acceptable.{FilterAcceptable}
use Rattle.figures.specs.declared.Filter.{Filter}
use Rattle.compensation.specs.Filter.{filtered}

-- `new` is the held value after an input, `held` the one before it, and `previous` "the previous accepted unfiltered input"
pub record Filtered (f : Filter) (first : Bool) (previous held input new : ℤ) : Type 0 where
  -- "FFLV or FFST 0, or the first reading: held value = input."
  pub no_level : f.fflv ≡ pos 0 → new ≡ input
  pub no_steps : f.ffst ≡ pos 0 → new ≡ input
  pub at_first : first ≡ true → new ≡ input
  -- "Otherwise, if the input differs .. by more than FFLV, held = input;", from "the previous .. input": above it, or below it
  pub far_above : (previous +ℤ f.fflv) <ℤ input → new ≡ input
  pub far_below : (input +ℤ f.fflv) <ℤ previous → new ≡ input
  -- "else held = held + round((input − held) ÷ FFST).", wherever the held value is: by what is nearest, halves away from zero (Change 5);
  -- FFLV apart is not more than FFLV
  pub near : first ≡ false → pos 0 <ℤ f.fflv → pos 0 <ℤ f.ffst → input ≤ℤ (previous +ℤ f.fflv) → previous ≤ℤ (input +ℤ f.fflv) → Nearest (input -ℤ held) f.ffst (new -ℤ held)

pub record FilterStated : Type 0 where
  pub is : (f : Filter) (first : Bool) (previous held input : ℤ) → Filtered f first previous held input (filtered f first previous held input)
  pub only : (f : Filter) (first : Bool) (previous held input new : ℤ) → FilterAcceptable f → Filtered f first previous held input new → new ≡ filtered f first previous held input
