-- `register::access_to` meets its contract: over the last ranges of numbers by one computed test, which the search for the others
-- gives up. Assumes nothing.
use mathlib.Core.Path.{refl, ◌∙◌}
use mathlib.Core.Bool.{Bool, false}
use Prim.Native.Nat.{ℕ, ◌+◌}
use native.Mathlib.Omega.{arith}
use Rattle.figures.specs.Limits.{ct_most, cto_most, ctg_most}
use Rattle.register.specs.declared.Access.TheVariants.{Unlisted}
use Rattle.register.specs.Number.{RST, PEAKRESET, CT, CTG, CTO}
use Rattle.register.specs.Register.{access_of, steps, parts}
use Rattle.register.proofs.Registers.{in-range, past-last}
use Rattle.register.proofs.access_to.Goals as goal

-- no number of the range is matched by itself
none : ℕ → Bool
none n = false

pub returns-in-111-to-115 : goal.returns-in-111-to-115
unfolding access_of none
returns-in-111-to-115 c = c.symmetric-in-111-to-115.ensures ∙ in-range none (steps ct_most) 5 CT tt c.args.register (omega arith) (omega arith) refl

pub returns-in-116-to-120 : goal.returns-in-116-to-120
unfolding access_of none
returns-in-116-to-120 c = c.symmetric-in-116-to-120.ensures ∙ in-range none (parts ctg_most) 5 CTG tt c.args.register (omega arith) (omega arith) refl

pub returns-in-121-to-125 : goal.returns-in-121-to-125
unfolding access_of none
returns-in-121-to-125 c = c.symmetric-in-121-to-125.ensures ∙ in-range none (steps cto_most) 5 CTO tt c.args.register (omega arith) (omega arith) refl

pub returns-in_default-8 : goal.returns-in_default-8
unfolding access_of none
returns-in_default-8 c = in-range none Unlisted 2 (RST + 1) tt c.args.register (omega arith) (omega arith) refl

pub returns-in_default-9 : goal.returns-in_default-9
unfolding access_of none
returns-in_default-9 c = in-range none Unlisted 5 (PEAKRESET + 1) tt c.args.register (omega arith) (omega arith) refl

pub returns-in_default-10 : goal.returns-in_default-10
returns-in_default-10 c = past-last _ (omega arith)
