-- Code that goes on by `?`: a refusal is the first fault, and where there is none, what follows is. Assumes nothing.
use Rattle.std.proofs.Common.{◌≡◌, ℕ, zero, suc, ◌<◌, refl, arith}
use Rattle.std.proofs.lemmas.Bool.Decides.{nat_tests}
use Rattle.std.proofs.lemmas.Int.{to_z-of_z}
use Rattle.integers.proofs.Order.{lt_yes, lt_no, yes_lt, no_lt}
use Rattle.refusal.proofs.Numbers.{number_above}
use Rattle.sheet.specs.Judge.{◌then◌}

pub goes_on : (a b : ℕ) → a ≡ 0 → a then b ≡ b
goes_on a b h = rw h

pub stops_at : (a b : ℕ) → 0 < a → a then b ≡ a
stops_at zero b h = omega arith
stops_at (suc a) b h = refl

-- what tests say
pub ruleset tests = (nat_tests, lt_yes, lt_no, yes_lt, no_lt)

-- a call's result, through the bits and back
pub ruleset holds = (to_z-of_z)

pub ruleset steps = (goes_on, stops_at, number_above)
