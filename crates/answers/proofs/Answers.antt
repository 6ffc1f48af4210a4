-- What a frame is answered with, by the tests `is_read` and `obeys`: one that is obeyed is done, and one that is neither is refused
-- with `refusal_of`. Assumes nothing.
use mathlib.Core.Path.{◌≡◌, refl, ◌∙◌}
use mathlib.Core.Bool.{Bool, true, false, cond, ◌||◌, true≢false, false≢true}
use native.Mathlib.Omega.{arith}
use borrow.Author.Tests.{eqb-true, ne_eqb}
use lib.Dec.{eqb}
use Rattle.register.specs.Number.{APPLY, RST}
use Rattle.modbus.specs.Judgement as frame
use Rattle.modbus.specs.Judgement.{Frame, Read, Write, Act}
use Rattle.in_force.specs.declared.Setup.{Setup}
use Rattle.state.specs.declared.State.{State}
use Rattle.answers.specs.Answer.{Done, Refused}
use Rattle.in_force.specs.InForce.{copy_fits}
use Rattle.answers.specs.Register.{on_reading, on_copy, answer_of}
use Rattle.answers.specs.Parts.{is_read, applies, is_obeyed, obeys, refusal_of}

-- the answer to an action, by its tests: RST is not 99
by_tests : (rst apply fits any : Bool) → (apply ≡ true → rst ≡ false)
    → cond rst Done (cond apply (cond fits Done (Refused 17)) (cond any Done (Refused 10))) ≡ cond (cond apply fits (rst || any)) Done (Refused (cond apply 17 10))
by_tests true true fits any n = absurd (true≢false (n refl))
by_tests true false fits any n = refl
by_tests false true fits any n = refl
by_tests false false fits any n = refl

pub answer-obeyed : (s : State) (setup : Setup) (f : Frame) → obeys s setup f ≡ true → answer_of s setup f ≡ Done
unfolding on_reading on_copy answer_of applies is_obeyed
answer-obeyed s setup (frame.Refused n) e = absurd (false≢true e)
answer-obeyed s setup (Read r) e = absurd (false≢true e)
answer-obeyed s setup (Write r x) e = refl
answer-obeyed s setup (Act r) e = by_tests (eqb r RST) (eqb r APPLY) (copy_fits setup) s.readings.any (λ g. ne_eqb r RST (λ k. omega (arith, k, eqb-true r APPLY g))) ∙ rw e

pub answer-refused : (s : State) (setup : Setup) (f : Frame) → is_read f ≡ false → obeys s setup f ≡ false → answer_of s setup f ≡ Refused (refusal_of f)
unfolding on_reading on_copy answer_of is_read applies is_obeyed refusal_of
answer-refused s setup (frame.Refused n) e h = refl
answer-refused s setup (Read r) e h = absurd (true≢false e)
answer-refused s setup (Write r x) e h = absurd (true≢false h)
answer-refused s setup (Act r) e h = by_tests (eqb r RST) (eqb r APPLY) (copy_fits setup) s.readings.any (λ g. ne_eqb r RST (λ k. omega (arith, k, eqb-true r APPLY g))) ∙ rw h
