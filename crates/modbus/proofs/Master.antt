-- What a master's request asks of a device, by its bytes. Assumes nothing.
use mathlib.Core.Path.{◌≡◌, refl, ap, ◌∙◌}
use mathlib.Core.Bool.{Bool, true, false, cond}
use mathlib.Core.List.{◌∷◌, ◌++◌}
use mathlib.Core.Logic.{inl, inr}
use Prim.Native.Nat.{ℕ, ◌+◌, ◌*◌, ◌/◌, ◌%◌, ◌≤◌}
use native.Mathlib.Omega.{arith}
use borrow.Author.Tests.{eq-eqb, ne_eqb, le-ltb}
use lib.Dec.{T, eqb}
use lib.Ieee.{Float, binary32, fits}
use Rattle.binary32.specs.Received.{takes}
use Rattle.binary32.specs.Wire.{wire_bytes, sent}
use Rattle.binary32.proofs.Returned.{sent-received}
use Rattle.register.specs.declared.Access.{Access}
use Rattle.register.specs.declared.Access.TheVariants.{Unlisted, ReadOnly, Takes, Action}
use Rattle.modbus.specs.Judgement.{Frame, Read, Write, Act, Refused}
use Rattle.checksum.specs.Checksum.{framed}
use Rattle.register.specs.Register.{access_of, range_in, range_of}
use Rattle.register.specs.Ends.{kind_of}
use Rattle.register.specs.Listed.{kind_said, acting, valued, only_read, not_listed, Kind}
use Rattle.modbus.specs.Frame.{to_us, for_us, register_of, value_of, access_asked, read_of, read_asked, write_of, write_asked, judged}
use Rattle.modbus.specs.Master.{asking, read_request, write_request, ReadsAsked, Reaches, WritesAsked, Understood}
use Rattle.modbus.proofs.Checked.{framed-checked}
use Rattle.register.proofs.Ends.{ends-hold}

-- ---- by the kind of register

abbrev read_by : Kind → ℕ → Frame
read_by not_listed r = Refused 15
read_by only_read r = Read r
read_by valued r = Read r
read_by acting r = Read r

read-by : (a : Access) (r : ℕ) → read_of a r ≡ read_by (kind_of a) r
read-by Unlisted r = refl
read-by ReadOnly r = refl
read-by (Takes t) r = refl
read-by Action r = refl

listed_by : (k : Kind) (r : ℕ) → (k ≡ not_listed → ⊥) → read_by k r ≡ Read r
listed_by not_listed r h = absurd (h refl)
listed_by only_read r h = refl
listed_by valued r h = refl
listed_by acting r h = refl

abbrev write_by : Kind → Bool → ℕ → Float → Frame
write_by not_listed fit r x = Refused 15
write_by only_read fit r x = Refused 16
write_by valued fit r x = cond fit (Write r x) (Refused 16)
write_by acting fit r x = Act r

write-by : (a : Access) (r : ℕ) (x : Float) → write_of a r x ≡ write_by (kind_of a) (takes (range_in a) x) r x
unfolding write_of
write-by Unlisted r x = refl
write-by ReadOnly r x = refl
write-by (Takes t) r x = refl
write-by Action r x = refl

-- ---- a read

module _ (station room : ℕ) (some-station : station ≡ 0 → ⊥) (enough : 9 ≤ room) where
  is_to_us : to_us station 3 station ≡ true
  unfolding to_us
  is_to_us = rw (ne_eqb station 0 some-station) (eq-eqb station station refl)

  read-judged : (r : ℕ) → judged (read_request station r) room station ≡ read_by (kind_said r) r
  unfolding judged for_us framed read_asked access_asked
  read-judged r =
      let even : ((2 * r) / 256 * 256 + (2 * r) % 256) % 2 ≡ 0 = omega arith in
      let half : register_of (read_request station r) ≡ r = omega arith in
      rw (le-ltb room 9 enough, is_to_us, framed-checked (asking station 3 r), eq-eqb _ 0 even, half) (read-by (access_of r) r ∙ ap (λ (k : Kind). read_by k r) (ends-hold.kinds r))

  not-to-us : (receiver : ℕ) → (receiver ≡ station → ⊥) → to_us receiver 3 station ≡ false
  unfolding to_us
  not-to-us receiver ne = by (eqb receiver 0)
    where
      by : (b : Bool) → cond b false (eqb receiver station) ≡ false
      by true = refl
      by false = ne_eqb receiver station ne

  read-elsewhere : (receiver r : ℕ) → (receiver ≡ station → ⊥) → judged (read_request receiver r) room station ≡ Refused 13
  unfolding judged for_us framed
  read-elsewhere receiver r ne = rw (le-ltb room 9 enough, not-to-us receiver ne)

  reads-asked : ReadsAsked station room
  reads-asked = record {
    listed = λ r h. read-judged r ∙ listed_by (kind_said r) r h;
    unlisted = λ r h. read-judged r ∙ ap (λ (k : Kind). read_by k r) h;
    elsewhere = read-elsewhere;
  }

-- ---- a write, to the station or to all

written-to : {receiver station : ℕ} → Reaches receiver station → to_us receiver 16 station ≡ true
unfolding to_us
written-to {receiver} {station} (inl e) = by (eqb receiver 0)
  where
    by : (b : Bool) → cond b true (eqb receiver station) ≡ true
    by true = refl
    by false = eq-eqb receiver station e
written-to (inr e) = rw e

module _ (receiver station room : ℕ) (x : Float) (f32 : T (fits binary32 x)) (to : Reaches receiver station) (enough : 9 ≤ room) where
  value-is : (r : ℕ) → value_of (write_request receiver r x) ≡ x
  unfolding framed wire_bytes
  value-is r = sent-received x f32

  write-asked : (r : ℕ) → judged (write_request receiver r x) room station ≡ write_by (kind_said r) (takes (range_of r) x) r x
  unfolding judged for_us framed write_asked access_asked wire_bytes range_of
  write-asked r =
      let even : ((2 * r) / 256 * 256 + (2 * r) % 256) % 2 ≡ 0 = omega arith in
      let half : register_of (write_request receiver r x) ≡ r = omega arith in
      rw (le-ltb room 9 enough, written-to to, framed-checked (asking receiver 16 r ++ (4 ∷ sent x)), eq-eqb _ 0 even, half)
      (ap (write_of (access_of r) r) (value-is r) ∙ write-by (access_of r) r x ∙ ap (λ (k : Kind). write_by k (takes (range_of r) x) r x) (ends-hold.kinds r))

  by_kind : (r : ℕ) {k : Kind} → kind_said r ≡ k → judged (write_request receiver r x) room station ≡ write_by k (takes (range_of r) x) r x
  by_kind r h = write-asked r ∙ ap (λ (k : Kind). write_by k (takes (range_of r) x) r x) h

  writes-asked : WritesAsked receiver station room x
  writes-asked = record {
    taken = λ r h t. by_kind r h ∙ ap (λ (b : Bool). cond b (Write r x) (Refused 16)) t;
    action = λ r h. by_kind r h;
    unlisted = λ r h. by_kind r h;
    read_only = λ r h. by_kind r h;
    unfit = λ r h t. by_kind r h ∙ ap (λ (b : Bool). cond b (Write r x) (Refused 16)) t;
  }

write-elsewhere : (station room : ℕ) → 9 ≤ room → (receiver r : ℕ) (x : Float) → (Reaches receiver station → ⊥) → judged (write_request receiver r x) room station ≡ Refused 13
unfolding judged for_us framed wire_bytes to_us
write-elsewhere station room enough receiver r x other = rw (le-ltb room 9 enough, ne_eqb receiver 0 (λ e. other (inr e)), ne_eqb receiver station (λ e. other (inl e)))

pub understood : Understood
understood station room some-station enough = record {
  reads = reads-asked station room some-station enough;
  writes = λ receiver x f32 to. writes-asked receiver station room x f32 to enough;
  elsewhere = write-elsewhere station room enough;
}
