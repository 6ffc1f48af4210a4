-- A frame by tests: a read, one that is obeyed, or any other; and which part of a device it can change. Only code needs these:
-- `proofs/Answers.antt` and `proofs/Stored.antt` tell what they say of `answer_of`, `setup_by` and `state_by`.
use Rattle.std.specs.Prelude.{◌≡◌, Bool, true, false, cond, not, ◌||◌, ℕ, eqb, ℤ}
use Rattle.figures.specs.Unused.{unused_zero}
use Rattle.figures.specs.declared.Calibration.{Calibration}
use Rattle.register.specs.Number.{FLAG, SZ, APPLY, RST}
use Rattle.modbus.specs.Judgement.{Frame, Refused, Read, Write, Act}
use Rattle.panel.specs.Figure.{is_figure, written}
use Rattle.state.specs.declared.Readings.{Readings}
use Rattle.in_force.specs.declared.Setup.{Setup}
use Rattle.state.specs.declared.State.{State}
use Rattle.state.specs.Request.{restarted}
use Rattle.in_force.specs.InForce.{zero_steps, copy_fits, applied, with_zero, with_figures, with_copy}
use Rattle.answers.specs.Answer.{Answer, Done, Refused as Turned}

unfoldable pub is_read : Frame → Bool
is_read (Refused n) = false
is_read (Read r) = true
is_read (Write r x) = false
is_read (Act r) = false

-- a write to 99
unfoldable pub applies : Frame → Bool
applies (Refused n) = false
applies (Read r) = false
applies (Write r x) = false
applies (Act r) = eqb r APPLY

-- a write or another action that is obeyed
unfoldable pub is_obeyed : Readings → Frame → Bool
is_obeyed r (Refused n) = false
is_obeyed r (Read n) = false
is_obeyed r (Write n x) = true
is_obeyed r (Act n) = eqb n RST || r.any

abbrev pub obeys : State → Setup → Frame → Bool
obeys s setup f = cond (applies f) (copy_fits setup) (is_obeyed s.readings f)

-- the number of a frame that is neither read nor obeyed: its own, 17 of an unfit copy, or 10 of an action without a reading
unfoldable pub refusal_of : Frame → ℕ
refusal_of (Refused n) = n
refusal_of (Read r) = 10
refusal_of (Write r x) = 10
refusal_of (Act r) = cond (eqb r APPLY) 17 10

-- ---- a frame that is obeyed changes SZ; or all that RST does; or the state; or else the copy

unfoldable pub changes_zero : Frame → Bool
changes_zero (Refused n) = false
changes_zero (Read r) = false
changes_zero (Write r x) = eqb r SZ
changes_zero (Act r) = false

unfoldable pub restarts : Frame → Bool
restarts (Refused n) = false
restarts (Read r) = false
restarts (Write r x) = false
restarts (Act r) = eqb r RST

unfoldable pub changes_state : Frame → Bool
changes_state (Refused n) = false
changes_state (Read r) = false
changes_state (Write r x) = eqb r FLAG
changes_state (Act r) = not (eqb r APPLY)

-- SZ, and the copy, after a write
unfoldable pub zero_by : ℤ → Frame → ℤ
zero_by sz (Refused n) = sz
zero_by sz (Read r) = sz
zero_by sz (Write r x) = cond (eqb r SZ) (zero_steps x) sz
zero_by sz (Act r) = sz

unfoldable pub copy_by : Calibration → Frame → Calibration
copy_by copy (Refused n) = copy
copy_by copy (Read r) = copy
copy_by copy (Write r x) = cond (is_figure r) (written copy r x) copy
copy_by copy (Act r) = copy

-- What a frame is answered with, and what it leaves of the state s and the setup t, by these tests.
pub record Parted (s : State) (t : Setup) (f : Frame) (answer : Answer) (s' : State) (t' : Setup) : Type 0 where
  pub obeyed : obeys s t f ≡ true → answer ≡ Done
  pub refused : is_read f ≡ false → obeys s t f ≡ false → answer ≡ Turned (refusal_of f)
  pub on_apply : applies f ≡ true → (s' ≡ s) × (t' ≡ applied t)
  pub on_zero : changes_zero f ≡ true → (s' ≡ s) × (t' ≡ with_figures t (with_zero t.figures (zero_by t.figures.system.sz f)))
  pub on_restart : restarts f ≡ true → (s' ≡ restarted s) × (t' ≡ with_copy t (unused_zero t.figures))
  pub on_state : restarts f ≡ false → changes_state f ≡ true → t' ≡ t
  pub on_copy : applies f ≡ false → changes_zero f ≡ false → changes_state f ≡ false → (s' ≡ s) × (t' ≡ with_copy t (copy_by t.copy f))
