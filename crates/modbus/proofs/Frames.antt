-- What is told of a frame by its variant. Assumes nothing.
use mathlib.Core.Path.{◌≡◌, refl, sym, ap, ◌∙◌}
use Prim.Native.Nat.{ℕ}
use lib.Ieee.{Float}
use Rattle.modbus.specs.Judgement.{Frame, Refused, Read, Write, Act}

-- it writes nothing, and it does not act
abbrev pub NoWrite : Frame → Type 0
NoWrite f = (r : ℕ) (x : Float) → f ≡ Write r x → ⊥

abbrev pub NoAct : Frame → Type 0
NoAct f = (r : ℕ) → f ≡ Act r → ⊥

module _ {A : Type 0} (p : Frame → A) {y : A} where
  pub by-case : {f g : Frame} → f ≡ g → y ≡ p g → y ≡ p f
  by-case e h = h ∙ sym (ap p e)

  pub neither : ((n : ℕ) → y ≡ p (Refused n)) → ((r : ℕ) → y ≡ p (Read r)) → (f : Frame) → NoWrite f → NoAct f → y ≡ p f
  neither a b (Refused n) h k = a n
  neither a b (Read r) h k = b r
  neither a b (Write r x) h k = absurd (h r x refl)
  neither a b (Act r) h k = absurd (k r refl)

  pub no_write : ((n : ℕ) → y ≡ p (Refused n)) → ((r : ℕ) → y ≡ p (Read r)) → ((r : ℕ) → y ≡ p (Act r)) → (f : Frame) → NoWrite f → y ≡ p f
  no_write a b c (Refused n) h = a n
  no_write a b c (Read r) h = b r
  no_write a b c (Write r x) h = absurd (h r x refl)
  no_write a b c (Act r) h = c r

  pub no-act : ((n : ℕ) → y ≡ p (Refused n)) → ((r : ℕ) → y ≡ p (Read r)) → ((r : ℕ) (x : Float) → y ≡ p (Write r x)) → (f : Frame) → NoAct f → y ≡ p f
  no-act a b c (Refused n) h = a n
  no-act a b c (Read r) h = b r
  no-act a b c (Write r x) h = c r x
  no-act a b c (Act r) h = absurd (h r refl)
