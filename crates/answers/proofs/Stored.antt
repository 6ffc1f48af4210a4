-- What a frame leaves of a record, by the tests of `specs/Parts.antt`. Assumes nothing.
use mathlib.Core.Path.{◌≡◌, refl, sym, ap, ◌∙◌}
use mathlib.Core.Bool.{Bool, true, false, cond, not, true≢false, false≢true}
use Prim.Native.Nat.{ℕ}
use native.Mathlib.Omega.{arith}
use borrow.Author.Tests.{eqb-true, ne_eqb}
use lib.Dec.{eqb}
use Rattle.figures.specs.Unused.{unused_zero}
use Rattle.figures.specs.declared.Calibration.{Calibration}
use Rattle.register.specs.Number.{FLAG, SZ, APPLY, RST, SNAP, PEAKRESET}
use Rattle.modbus.specs.Judgement.{Frame, Refused, Read, Write, Act}
use Rattle.panel.specs.Figure.{is_figure, written}
use Rattle.in_force.specs.declared.Setup.{Setup}
use Rattle.state.specs.declared.State.{State}
use Rattle.in_force.specs.InForce.{with_zero, with_figures, with_copy, applied, setup_written, setup_acted, setup_by}
use Rattle.state.specs.Request.{restarted, acted, flagged, state_by}
use Rattle.answers.specs.Register.{answer_of}
use Rattle.answers.specs.Parts.{applies, changes_zero, restarts, changes_state, zero_by, copy_by, Parted}
use Rattle.answers.proofs.Answers.{answer-obeyed, answer-refused}

not-true : (b : Bool) → not b ≡ true → b ≡ false
not-true true e = sym e
not-true false e = refl

-- 99
pub setup-applied : (s : Setup) (f : Frame) → applies f ≡ true → setup_by s f ≡ applied s
unfolding applies setup_acted setup_by
setup-applied s (Refused n) e = absurd (false≢true e)
setup-applied s (Read r) e = absurd (false≢true e)
setup-applied s (Write r x) e = absurd (false≢true e)
setup-applied s (Act r) e = rw e

pub state-applied : (s : State) (f : Frame) → applies f ≡ true → state_by s f ≡ s
unfolding applies acted state_by
state-applied s (Refused n) e = refl
state-applied s (Read r) e = refl
state-applied s (Write r x) e = absurd (false≢true e)
state-applied s (Act r) e =
    let no : (n : ℕ) → (n ≡ APPLY → ⊥) → eqb r n ≡ false = λ n ne. ne_eqb r n (λ g. ne (sym g ∙ eqb-true r APPLY e)) in
    rw (no RST (λ g. omega (arith, g)), no SNAP (λ g. omega (arith, g)), no PEAKRESET (λ g. omega (arith, g)))

-- SZ
pub setup-zeroed : (s : Setup) (f : Frame) → changes_zero f ≡ true → setup_by s f ≡ with_figures s (with_zero s.figures (zero_by s.figures.system.sz f))
unfolding changes_zero zero_by setup_written setup_by
setup-zeroed s (Refused n) e = absurd (false≢true e)
setup-zeroed s (Read r) e = absurd (false≢true e)
setup-zeroed s (Write r x) e = rw e
setup-zeroed s (Act r) e = absurd (false≢true e)

pub state-zeroed : (s : State) (f : Frame) → changes_zero f ≡ true → state_by s f ≡ s
unfolding changes_zero flagged state_by
state-zeroed s (Refused n) e = refl
state-zeroed s (Read r) e = refl
state-zeroed s (Write r x) e = rw (ne_eqb r FLAG (λ g. omega (arith, g, eqb-true r SZ e)))
state-zeroed s (Act r) e = absurd (false≢true e)

-- RST
pub setup-restarted : (s : Setup) (f : Frame) → restarts f ≡ true → setup_by s f ≡ with_copy s (unused_zero s.figures)
unfolding restarts setup_acted setup_by
setup-restarted s (Refused n) e = absurd (false≢true e)
setup-restarted s (Read r) e = absurd (false≢true e)
setup-restarted s (Write r x) e = absurd (false≢true e)
setup-restarted s (Act r) e = rw (ne_eqb r APPLY (λ g. omega (arith, g, eqb-true r RST e)), e)

pub state-restarted : (s : State) (f : Frame) → restarts f ≡ true → state_by s f ≡ restarted s
unfolding restarts acted state_by
state-restarted s (Refused n) e = absurd (false≢true e)
state-restarted s (Read r) e = absurd (false≢true e)
state-restarted s (Write r x) e = absurd (false≢true e)
state-restarted s (Act r) e = rw e

-- the state alone
pub setup-kept : (s : Setup) (f : Frame) → restarts f ≡ false → changes_state f ≡ true → setup_by s f ≡ s
unfolding is_figure restarts changes_state setup_written setup_acted setup_by
setup-kept s (Refused n) e h = refl
setup-kept s (Read r) e h = refl
setup-kept s (Write r x) e h = rw (ne_eqb r SZ (λ g. omega (arith, g, eqb-true r FLAG h)), ap is_figure (eqb-true r FLAG h))
setup-kept s (Act r) e h = rw (not-true (eqb r APPLY) h, e)

-- and else the copy alone
pub setup-copied : (s : Setup) (f : Frame) → applies f ≡ false → changes_zero f ≡ false → changes_state f ≡ false → setup_by s f ≡ with_copy s (copy_by s.copy f)
unfolding applies changes_zero changes_state copy_by setup_written setup_acted setup_by
setup-copied s (Refused n) a e h = refl
setup-copied s (Read r) a e h = refl
setup-copied s (Write r x) a e h = rw e (within (is_figure r) (written s.copy r x))
  where
    within : (b : Bool) (c : Calibration) → cond b (with_copy s c) s ≡ with_copy s (cond b c s.copy)
    within true c = refl
    within false c = refl
setup-copied s (Act r) a e h = absurd (true≢false (rw a at h))

pub state-kept : (s : State) (f : Frame) → applies f ≡ false → changes_state f ≡ false → state_by s f ≡ s
unfolding applies changes_state flagged state_by
state-kept s (Refused n) a e = refl
state-kept s (Read r) a e = refl
state-kept s (Write r x) a e = rw e
state-kept s (Act r) a e = absurd (true≢false (rw a at e))

-- all of it
pub parted : (s : State) (t : Setup) (f : Frame) → Parted s t f (answer_of s t f) (state_by s f) (setup_by t f)
parted s t f = record {
  obeyed = answer-obeyed s t f;
  refused = answer-refused s t f;
  on_apply = λ e. (state-applied s f e, setup-applied t f e);
  on_zero = λ e. (state-zeroed s f e, setup-zeroed t f e);
  on_restart = λ e. (state-restarted s f e, setup-restarted t f e);
  on_state = setup-kept t f;
  on_copy = λ a z e. (state-kept s f a e, setup-copied t f a z e);
}
