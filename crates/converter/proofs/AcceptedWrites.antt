-- An accepted write to FLAG or RST by its bytes, and what the frame is judged to ask: each is told by the other. Assumes nothing.
use mathlib.Core.Path.{◌≡◌, refl, sym, ap, ap₂, ◌∙◌, subst}
use mathlib.Core.Bool.{Bool, true, false, false≢true}
use mathlib.Core.List.{List}
use Prim.Native.Nat.{ℕ, ◌*◌}
use native.Mathlib.Omega.{arith}
use lib.Ieee.{Float}
use Rattle.binary32.specs.Received.{takes}
use Rattle.register.specs.Number.{FLAG, RST}
use Rattle.register.specs.Register.{access_of, range_in, range_of}
use Rattle.register.specs.declared.Access.{Access}
use Rattle.register.specs.declared.Access.TheVariants.{Unlisted, ReadOnly, Takes, Action}
use Rattle.modbus.specs.Frame.{word_at, function_of, value_of, judged}
use Rattle.modbus.specs.Order.{Verdict, no_room, not_for_us, no_function, not_formed, no_address, only_read, unfit, reads, writes, acts}
use Rattle.modbus.specs.Judgement.{Frame, Refused, Read, Write, Act}
use Rattle.modbus.proofs.Order.{order-holds}
use Rattle.answers.specs.Register.{answer_of, number_of}
use Rattle.converter.specs.declared.Device.{Device}
use Rattle.converter.specs.Call.{answer_to_bytes}
use Rattle.converter.specs.Warnings.{AcceptedWrite}

abbrev acting : Access → Bool
acting Unlisted = false
acting ReadOnly = false
acting (Takes r) = false
acting Action = true

module _ (d : Device) (s : List ℕ) (room : ℕ) where
  abbrev pub asked : Frame
  asked = judged s room d.setup.station

  abbrev Told : Frame → Type 0
  Told (Refused n) = n ≡ 0 → ⊥
  Told (Read r) = function_of s ≡ 3
  Told (Write r x) = (function_of s ≡ 16) × (word_at s 2 ≡ 2 * r) × (acting (access_of r) ≡ false) × (value_of s ≡ x) × (takes (range_of r) x ≡ true)
  Told (Act r) = (function_of s ≡ 16) × (word_at s 2 ≡ 2 * r) × (acting (access_of r) ≡ true)

  told : Told asked
  unfolding range_of
  told = by ((order-holds.judges s room d.setup.station asked).0 refl)
    where
      by : {f : Frame} → Verdict s room d.setup.station f → Told f
      by (no_room h) = λ e. omega (arith, e)
      by (not_for_us h k) = λ e. omega (arith, e)
      by (no_function h k l) = λ e. omega (arith, e)
      by (not_formed h k l) = λ e. omega (arith, e)
      by (no_address h k l m) = λ e. omega (arith, e)
      by (only_read m h k l a i) = λ e. omega (arith, e)
      by (unfit m r h k l a i t) = λ e. omega (arith, e)
      by (reads m h k l a) = k
      by (writes m r h k l a i t) = (k, a.twice, ap acting i, refl, ap (λ (j : Access). takes (range_in j) (value_of s)) i ∙ t)
      by (acts m h k l a i) = (k, a.twice, ap acting i)

  same : (m n : ℕ) → word_at s 2 ≡ 2 * m → word_at s 2 ≡ 2 * n → m ≡ n
  same m n e g = omega (arith, e, g)

  pub flag-asked : AcceptedWrite 14 d s room → asked ≡ Write FLAG (value_of s)
  unfolding answer_to_bytes answer_of access_of
  flag-asked w = by asked told w.accepted
    where
      by : (f : Frame) → Told f → number_of (answer_of d.state d.setup f) ≡ 0 → f ≡ Write FLAG (value_of s)
      by (Refused n) t e = absurd (t e)
      by (Read r) t e = absurd (omega (arith, t, w.function))
      by (Write r x) t e = ap₂ Write (same r 14 t.1 w.address) (sym t.3)
      by (Act r) t e = absurd (false≢true (subst (λ (n : ℕ). acting (access_of n) ≡ true) (same r 14 t.1 w.address) t.2))

  pub reset-asked : AcceptedWrite 100 d s room → asked ≡ Act RST
  unfolding answer_to_bytes answer_of access_of
  reset-asked w = by asked told w.accepted
    where
      by : (f : Frame) → Told f → number_of (answer_of d.state d.setup f) ≡ 0 → f ≡ Act RST
      by (Refused n) t e = absurd (t e)
      by (Read r) t e = absurd (omega (arith, t, w.function))
      by (Write r x) t e = absurd (false≢true (sym (subst (λ (n : ℕ). acting (access_of n) ≡ false) (same r 100 t.1 w.address) t.2)))
      by (Act r) t e = ap Act (same r 100 t.1 w.address)

  -- and back
  pub asked-flag : (x : Float) → asked ≡ Write FLAG x → AcceptedWrite 14 d s room × (value_of s ≡ x) × (takes (range_of FLAG) x ≡ true)
  unfolding answer_to_bytes answer_of
  asked-flag x e =
      let t = subst Told e told in
      (record { accepted = rw e refl; function = t.0; address = t.1 }, t.3, t.4)

  pub asked-reset : asked ≡ Act RST → AcceptedWrite 100 d s room
  unfolding answer_to_bytes answer_of
  asked-reset e = let t = subst Told e told in record { accepted = rw e refl; function = t.0; address = t.1 }
