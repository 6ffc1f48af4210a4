-- What a master's write does, in bytes, for every register. Assumes nothing.
use mathlib.Core.Path.{◌≡◌, refl, sym, ap, ◌∙◌}
use mathlib.Core.Bool.{Bool, cond}
use mathlib.Core.List.{List, []}
use mathlib.Core.Logic.{inl, inr}
use Prim.Native.Nat.{ℕ, ◌≤◌}
use native.Mathlib.Omega.{arith}
use lib.Dec.{T, ltb, ltb→lt, lit≤}
use lib.Ieee.{Float, binary32, fits}
use Rattle.binary32.specs.Wire.{wire_bytes}
use Rattle.checksum.specs.Checksum.{framed}
use Rattle.register.specs.Number.{APPLY, RST, SNAP, PEAKRESET}
use Rattle.register.specs.Listed.{kind_said, acting}
use Rattle.modbus.specs.Frame.{judged}
use Rattle.modbus.specs.Master.{asking, write_request, Reaches, WritesAsked}
use Rattle.modbus.specs.Exception.{code_said, Heard}
use Rattle.modbus.specs.Reply.{unless_silent, write_reply}
use Rattle.modbus.specs.Judgement as asks
use Rattle.modbus.specs.Judgement.{Frame, Write, Act}
use Rattle.modbus.proofs.Master.{understood}
use Rattle.modbus.proofs.Exception.{heard, exceptions-hold}
use Rattle.answers.specs.Register.{on_reading, on_copy, answer_of}
use Rattle.answers.specs.Answer.{Done, Refused}
use Rattle.converter.specs.Call.{frame, obeyed}
use Rattle.converter.specs.Reached.{Reached}
use Rattle.converter.specs.Wire.{Obeys, Rejects, WritesHeeded}
use Rattle.converter.specs.declared.Device.{Device}
use Rattle.converter.proofs.Station.{reached-station}
use Rattle.converter.proofs.Wire.{by-request}
use Rattle.converter.proofs.Corollaries.{refused-unchanged, silent-broadcast}

module _ (d : Device) (to_one : d.setup.station ≡ 0 → ⊥) (x : Float) (f32 : T (fits binary32 x)) (r : ℕ) where
  abbrev station : ℕ
  station = d.setup.station

  abbrev own : List ℕ
  own = write_request station r x

  abbrev all : List ℕ
  all = write_request 0 r x

  -- the request asks f, by what is known of every write
  abbrev Asks : Frame → Type 0
  Asks f = (receiver room : ℕ) → WritesAsked receiver station room x → judged (write_request receiver r x) room station ≡ f

  asked : {f : Frame} → Asks f → (receiver room : ℕ) → Reaches receiver station → 9 ≤ room → judged (write_request receiver r x) room station ≡ f
  asked asks receiver room to enough = asks receiver room ((understood station room to_one enough).writes receiver x f32 to)

  heard-own : {room : ℕ} → 9 ≤ room → Heard own room
  unfolding framed wire_bytes
  heard-own enough = record { room_enough = enough; long_enough = lit≤ tt; to_one = to_one }

  obeys : (f : Frame) → Asks f → answer_of d.state d.setup f ≡ Done → Obeys d r x f
  unfolding framed wire_bytes unless_silent write_reply
  obeys f asks is = record {
    confirmed = λ room enough.
        let a = by-request d own room (asked asks station room (inl refl) enough) is in
        (a.0, a.1 ∙ ap (λ (b : Bool). cond b [] (framed (asking station 16 r))) (heard own room (heard-own enough)));
    broadcast = λ room enough. ((by-request d all room (asked asks 0 room (inr refl) enough) is).0, silent-broadcast d all room refl);
    does = λ receiver room to enough. ap (obeyed d) (asked asks receiver room to enough);
  }

  rejects : (n : ℕ) (f : Frame) → T (ltb 0 (code_said n 16)) → Asks f → answer_of d.state d.setup f ≡ Refused n → Rejects d r x n (code_said n 16)
  unfolding framed wire_bytes
  rejects n f some asks is = record {
    told = λ room enough.
        let a = by-request d own room (asked asks station room (inl refl) enough) is in
        (a.0, a.1 ∙ exceptions-hold.hold n 16 coded own room (heard-own enough) refl);
    broadcast = λ room enough. ((by-request d all room (asked asks 0 room (inr refl) enough) is).0, silent-broadcast d all room refl);
    does = λ receiver room to enough.
        let a = by-request d (write_request receiver r x) room (asked asks receiver room to enough) is in
        refused-unchanged d (frame (write_request receiver r x) room) (λ z. coded (ap (λ (m : ℕ). code_said m 16) (sym a.0 ∙ z)));
  }
    where
      coded : code_said n 16 ≡ 0 → ⊥
      coded z = omega (arith, ltb→lt 0 (code_said n 16) some, z)

-- of every device that our calls gave, and every float that an f32 can be
pub writes : {d : Device} → Reached d → (x : Float) → T (fits binary32 x) → WritesHeeded d x
unfolding answer_of on_reading on_copy
writes {d} reached x f32 = record {
  taken = λ r h t. obeys d to_one x f32 r (Write r x) (λ receiver room a. a.taken r h t) refl;
  unfit = λ r h t. refused r 16 tt (λ receiver room a. a.unfit r h t);
  read_only = λ r h. refused r 16 tt (λ receiver room a. a.read_only r h);
  unlisted = λ r h. refused r 15 tt (λ receiver room a. a.unlisted r h);
  rst = acts RST refl refl;
  snap = λ e. acts SNAP refl (rw e);
  no_snap = λ e. stays SNAP refl 10 tt (rw e);
  peak_reset = λ e. acts PEAKRESET refl (rw e);
  no_peak_reset = λ e. stays PEAKRESET refl 10 tt (rw e);
  apply = λ e. acts APPLY refl (rw e);
  no_apply = λ e. stays APPLY refl 17 tt (rw e);
}
  where
    to_one : d.setup.station ≡ 0 → ⊥
    to_one = reached-station reached

    acts : (r : ℕ) → kind_said r ≡ acting → answer_of d.state d.setup (Act r) ≡ Done → Obeys d r x (Act r)
    acts r k is = obeys d to_one x f32 r (Act r) (λ receiver room a. a.action r k) is

    stays : (r : ℕ) → kind_said r ≡ acting → (n : ℕ) → T (ltb 0 (code_said n 16)) → answer_of d.state d.setup (Act r) ≡ Refused n → Rejects d r x n (code_said n 16)
    stays r k n some is = rejects d to_one x f32 r n (Act r) some (λ receiver room a. a.action r k) is

    refused : (r n : ℕ) → T (ltb 0 (code_said n 16)) → Asks d to_one x f32 r (asks.Refused n) → Rejects d r x n (code_said n 16)
    refused r n some how = rejects d to_one x f32 r n (asks.Refused n) some how refl
