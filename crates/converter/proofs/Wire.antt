-- From a register's answer to the bytes of the reply. Assumes nothing.
use mathlib.Core.Path.{◌≡◌, refl, ap, ◌∙◌}
use mathlib.Core.Bool.{Bool, cond}
use mathlib.Core.List.{List, [], ◌∷◌}
use Prim.Native.Nat.{ℕ, ◌≤◌}
use native.Mathlib.Omega.{arith}
use lib.Dec.{lit≤}
use lib.Ieee.{Float}
use Rattle.binary32.specs.Wire.{sent}
use Rattle.checksum.specs.Checksum.{framed}
use Rattle.register.specs.Listed.{kind_said, not_listed}
use Rattle.modbus.specs.Frame.{judged}
use Rattle.modbus.specs.Master.{read_request}
use Rattle.modbus.specs.Exception.{with_top_set, code_said, Heard}
use Rattle.modbus.specs.Reply.{unless_silent}
use Rattle.modbus.specs.Judgement.{Frame}
use Rattle.modbus.proofs.Master.{understood}
use Rattle.modbus.proofs.Exception.{heard, exceptions-hold}
use Rattle.answers.specs.Register.{register_at, answer_of, number_of}
use Rattle.answers.specs.Answer.{Answer}
use Rattle.answers.specs.Answer.{Value, Refused}
use Rattle.converter.specs.Call.{frame, answer_to_bytes, number, reply_with, reply}
use Rattle.converter.specs.Wire.{Sends, Withholds}
use Rattle.converter.specs.declared.Device.{Device}

-- a listed register, as it reads
abbrev pub register : Device → ℕ → Answer
register d n = register_at d.state d.setup.figures.system.sz d.setup.copy n

-- a frame, by what it asks
pub by-request : (d : Device) (s : List ℕ) (room : ℕ) {f : Frame} {a : Answer} → judged s room d.setup.station ≡ f → answer_of d.state d.setup f ≡ a
    → (number d (frame s room) ≡ number_of a) × (reply d s room ≡ reply_with s room a)
unfolding answer_to_bytes
by-request d s room e is =
    let same = ap (answer_of d.state d.setup) e ∙ is in
    (ap number_of same, ap (reply_with s room) same)

module _ (d : Device) (some : d.setup.station ≡ 0 → ⊥) (n : ℕ) where
  abbrev request : List ℕ
  request = read_request d.setup.station n

  read-heard : {room : ℕ} → 9 ≤ room → Heard request room
  unfolding framed
  read-heard enough = record { room_enough = enough; long_enough = lit≤ tt; to_one = some }

  pub sends : {x : Float} → (kind_said n ≡ not_listed → ⊥) → register d n ≡ Value x → Sends d n x
  unfolding answer_of unless_silent framed
  sends {x} listed is room enough =
      let a = by-request d request room ((understood d.setup.station room some enough).reads.listed n listed) is in
      (a.0, a.1 ∙ ap (λ (b : Bool). cond b [] (framed (d.setup.station ∷ 3 ∷ 4 ∷ sent x))) (heard request room (read-heard enough)))

  refused : {m : ℕ} {f : Frame} → code_said m 3 ≡ 2 → ((room : ℕ) → 9 ≤ room → judged request room d.setup.station ≡ f)
      → answer_of d.state d.setup f ≡ Refused m → Withholds d n m
  unfolding framed
  refused {m} two asks is room enough =
      let a = by-request d request room (asks room enough) is in
      let code = exceptions-hold.hold m 3 (λ z. omega (arith, two, z)) request room (read-heard enough) refl in
      (a.0, a.1 ∙ code ∙ ap (λ (c : ℕ). framed (d.setup.station ∷ with_top_set 3 ∷ c ∷ [])) two)

  pub withholds : {m : ℕ} → code_said m 3 ≡ 2 → (kind_said n ≡ not_listed → ⊥) → register d n ≡ Refused m → Withholds d n m
  unfolding answer_of
  withholds two listed is = refused two (λ room enough. (understood d.setup.station room some enough).reads.listed n listed) is

  pub unlisted-withheld : kind_said n ≡ not_listed → Withholds d n 15
  unfolding answer_of
  unlisted-withheld e = refused refl (λ room enough. (understood d.setup.station room some enough).reads.unlisted n e) refl
