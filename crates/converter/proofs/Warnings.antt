-- Change 7: every bit of FLAG by the calls and their bytes, and so past all resets. Assumes nothing.
use mathlib.Core.Path.{◌≡◌, refl, sym, ap, ◌∙◌, subst}
use mathlib.Core.Bool.{Bool, true, false, cond, false≢true, true≢false}
use mathlib.Core.List.{List, [], ◌∷◌}
use mathlib.Core.Logic.{◌↔◌, ◌⊎◌, inl, inr, ⊎_elim}
use Prim.Native.Nat.{ℕ}
use native.Mathlib.Omega.{arith}
use lib.Bits.{bit_or, bit_and}
use lib.Dec.{eqb}
use lib.Ieee.{Float}
use lib.IntN.{ℤ, pos, negsuc, nat_abs, ◌*ℤ◌}
use lib.Signed.{◌≤ℤ◌}
use borrow.Author.Tests.{eqb-true}
use Rattle.integers.proofs.Order.{pick}
use Rattle.compensation.specs.Stat.{bit_at, Raised}
use Rattle.compensation.specs.Filter.{filtered}
use Rattle.compensation.proofs.Flags.{bit-or}
use Rattle.binary32.specs.Received.{exact, counted}
use Rattle.binary32.specs.Sent.{whole_float}
use Rattle.binary32.proofs.Counted.{counted-up}
use Rattle.binary32.proofs.Fit.{counted-whole, whole-counted, whole-exact}
use Rattle.register.specs.Number.{FLAG, RST, SNAP, PEAKRESET}
use Rattle.register.specs.Register.{access_of, range_of}
use Rattle.probe.specs.Probe.{is_beyond, temp_of}
use Rattle.modbus.specs.Frame.{value_of}
use Rattle.modbus.specs.Judgement.{Frame, Refused, Read, Write, Act}
use Rattle.state.specs.Reading.{bad_reading, peak_after, trof_after, readings_after, state_after_reading, state_after_values}
use Rattle.state.specs.Request.{reboot, flag_whole, fresh, restarted, snapped, peaks_reset, acted, flagged, state_by}
use Rattle.state.specs.declared.State.{State}
use Rattle.converter.specs.declared.Device.{Device}
use Rattle.converter.specs.declared.corner.Sample.{Sample}
use Rattle.converter.specs.Making.{made}
use Rattle.converter.specs.Corner.{at, corner_refused}
use Rattle.converter.specs.Call.{Call, reading, frame, report, corner, probe, after_reading, after_sample, after_call, run, sample_number}
use Rattle.converter.specs.Reached.{Reached}
use Rattle.converter.specs.Warnings.{AcceptedWrite, Raises, Lacks, Clears, BitBy, Uncleared, RaisedAmong, StillRaised, FlagRead, First, Anew, Outlives}
use Rattle.answers.specs.Parts.{restarts}
use Rattle.converter.proofs.AcceptedWrites.{asked, flag-asked, reset-asked, asked-flag, asked-reset}
use Rattle.converter.proofs.Bits.{bit-and, bit-power, bit-small, raised-or-not}
use Rattle.converter.proofs.History.{peaks-flag, snap-leaves}
use Rattle.converter.proofs.Made.{making-accepted}
use Rattle.converter.proofs.Station.{reached-station}
use Rattle.converter.proofs.Reached.{reached-made, reached-step, reached-run, reached-sound}
use Rattle.converter.proofs.Corollaries.{rst-restarts, rst-shown}
use Rattle.converter.proofs.Shown.{none-shown}
use Rattle.converter.proofs.Agrees.{reached-agrees}

-- ---- one call, bit by bit

abbrev is_flag : Frame → Bool
is_flag (Refused n) = false
is_flag (Read r) = false
is_flag (Write r x) = eqb r FLAG
is_flag (Act r) = false

acted-flag : (s : State) (r : ℕ) → eqb r RST ≡ false → (acted s r).flag ≡ s.flag
unfolding acted
acted-flag s r e = rw e (pick (eqb r SNAP) (snapped s) _ (λ (t : State). t.flag ≡ s.flag) (λ g. (snap-leaves s).1) (λ g. pick (eqb r PEAKRESET) (peaks_reset s) s (λ (t : State). t.flag ≡ s.flag) (λ h. peaks-flag s) (λ h. refl)))

module _ (b : ℕ) where
  -- FLAG was f and is g: P raises the bit, Q clears it
  abbrev Turns : Type 0 → Type 0 → ℕ → ℕ → Type 0
  Turns P Q f g = ((Raised b f → ⊥) → Raised b g ↔ P) × (Raised b f → (Raised b g → ⊥) ↔ Q)

  stays : {P Q : Type 0} (f : ℕ) → (P → ⊥) → (Q → ⊥) → Turns P Q f f
  stays f p q = (λ un. ((λ t. absurd (un t)), λ k. absurd (p k)), λ t. ((λ un. absurd (un t)), λ k. absurd (q k)))

  adds : {P Q : Type 0} (f m : ℕ) → (Raised b m → P) → (P → Raised b m) → (Q → ⊥) → Turns P Q f (bit_or f m)
  adds f m to from q = (
    λ un. ((λ t. to (omega (arith, bit-or b f m, bit-small b f, bit-small b m, t, un))), λ k. omega (arith, bit-or b f m, bit-small b f, from k)),
    λ t. ((λ un. absurd (un (omega (arith, bit-or b f m, bit-small b m, t)))), λ k. absurd (q k)),
  )

  keeps : {P Q : Type 0} (f m : ℕ) → (P → ⊥) → ((Raised b m → ⊥) → Q) → (Q → Raised b m → ⊥) → Turns P Q f (bit_and f m)
  keeps f m p to from = (
    λ un. ((λ t. absurd (un (omega (arith, bit-and b f m, bit-small b f, bit-small b m, t)))), λ k. absurd (p k)),
    λ t. ((λ un. to (λ u. un (omega (arith, bit-and b f m, t, u)))), λ k v. from k (omega (arith, bit-and b f m, bit-small b m, v))),
  )

  -- a reading, or none
  sampled : (d : Device) (n : ℕ) → (n ≡ 0 → ⊥) → (refused : Bool) (elec temp : ℤ) (integrity : ℕ)
      → let after : Device = cond refused d (after_reading d elec temp integrity) in
      Turns ((cond refused n 0 ≡ 0) × Raised b after.state.readings.values.stat) ⊥ d.state.flag after.state.flag
  unfolding state_after_reading state_after_values readings_after
  sampled d n some true elec temp integrity = stays d.state.flag (λ k. some k.0) (λ k. k)
  sampled d n some false elec temp integrity = adds d.state.flag _ (λ t. (refl, t)) (λ k. k.1) (λ k. k)

  probed : (d : Device) (beyond : Bool) (elec temp : ℤ) (integrity : ℕ)
      → let after : Device = cond beyond d (after_sample d elec temp integrity) in
      Turns ((cond beyond 20 (sample_number elec temp integrity) ≡ 0) × Raised b after.state.readings.values.stat) ⊥ d.state.flag after.state.flag
  probed d true elec temp integrity = stays d.state.flag (λ k. omega (arith, k.0)) (λ k. k)
  probed d false elec temp integrity = sampled d 9 (λ e. omega (arith, e)) (bad_reading elec temp integrity) elec temp integrity

  -- a frame
  module _ (d : Device) (s : List ℕ) (room : ℕ) where
    abbrev TurnsBy : Frame → Type 0
    TurnsBy f = Turns (AcceptedWrite 100 d s room × (b ≡ 15)) (Lacks b d s room) d.state.flag (state_by d.state f).flag

    -- FLAG's write and RST are two frames
    not-both : (x : Float) → asked d s room ≡ Write FLAG x → asked d s room ≡ Act RST → ⊥
    not-both x e g = true≢false (ap is_flag (sym e ∙ g))

    whole_is : (l : Lacks b d s room) → flag_whole (value_of s) ≡ l.whole
    unfolding range_of access_of
    whole_is l = ap nat_abs (counted-whole (range_of FLAG) (value_of s) (asked-flag d s room (value_of s) (flag-asked d s room l.write)).2 refl (pos l.whole) l.is)

    lacking : (x : Float) → asked d s room ≡ Write FLAG x → (Raised b (flag_whole x) → ⊥) → Lacks b d s room
    unfolding range_of access_of
    lacking x e un =
        let a = asked-flag d s room x e in
        record {
          write = a.0;
          whole = flag_whole x;
          is = subst (λ (y : Float). (exact y).top ≡ pos (flag_whole x) *ℤ (exact y).low) (sym a.1) (whole-counted (range_of FLAG) x a.2 refl ∙ ap (λ (z : ℤ). z *ℤ (exact x).low) (above (counted (range_of FLAG) x) (counted-up (range_of FLAG) (record { le = tt }) (record { le = tt }) x).0));
          without = un;
        }
      where
        above : (z : ℤ) → pos 0 ≤ℤ z → z ≡ pos (nat_abs z)
        above (pos n) h = refl
        above (negsuc n) h = absurd h.le

    written : (x : Float) → asked d s room ≡ Write FLAG x → TurnsBy (Write FLAG x)
    unfolding state_by flagged
    written x e =
        keeps d.state.flag (flag_whole x) (λ k. not-both x e (reset-asked d s room k.0))
        (lacking x e)
        (λ k t. k.without (subst (Raised b) (ap flag_whole (sym (asked-flag d s room x e).1) ∙ whole_is k) t))

    reset : asked d s room ≡ Act RST → TurnsBy (Act RST)
    unfolding state_by acted restarted bit_at
    reset e =
        adds d.state.flag reboot (λ t. (asked-reset d s room e, bit-power b 15 t)) (λ k. subst (λ (n : ℕ). Raised n reboot) (sym k.1) refl)
        (λ k. not-both (value_of s) (flag-asked d s room k.write) e)

    -- any other leaves FLAG
    other : (f : Frame) → asked d s room ≡ f → is_flag f ≡ false → restarts f ≡ false → (state_by d.state f).flag ≡ d.state.flag → TurnsBy f
    unfolding restarts
    other f e no_flag no-reset same =
        subst (Turns (AcceptedWrite 100 d s room × (b ≡ 15)) (Lacks b d s room) d.state.flag) (sym same)
        (stays d.state.flag (λ k. false≢true (sym no-reset ∙ ap restarts (sym e ∙ reset-asked d s room k.0))) (λ k. false≢true (sym no_flag ∙ ap is_flag (sym e ∙ flag-asked d s room k.write))))

    by-frame : (f : Frame) → asked d s room ≡ f → TurnsBy f
    unfolding restarts state_by flagged
    by-frame (Refused n) e = other (Refused n) e refl refl refl
    by-frame (Read r) e = other (Read r) e refl refl refl
    by-frame (Write r x) e = by (eqb r FLAG) refl
      where
        by : (p : Bool) → eqb r FLAG ≡ p → TurnsBy (Write r x)
        by true g = subst (λ (n : ℕ). asked d s room ≡ Write n x → TurnsBy (Write n x)) (sym (eqb-true r FLAG g)) (written x) e
        by false g = other (Write r x) e g refl (rw g refl)
    by-frame (Act r) e = by (eqb r RST) refl
      where
        by : (p : Bool) → eqb r RST ≡ p → TurnsBy (Act r)
        by true g = subst (λ (n : ℕ). asked d s room ≡ Act n → TurnsBy (Act n)) (sym (eqb-true r RST g)) reset e
        by false g = other (Act r) e refl g (acted-flag d.state r g)

bit-by : (d : Device) (c : Call) (b : ℕ) → BitBy d c b
bit-by d (reading elec temp integrity) b = let f = sampled b d 9 (λ e. omega (arith, e)) (bad_reading elec temp integrity) elec temp integrity in record { raised = f.0; cleared = f.1 }
bit-by d (frame bytes room) b = let f = by-frame b d bytes room (asked d bytes room) refl in record { raised = f.0; cleared = f.1 }
bit-by d report b = let f = stays b d.state.flag (λ k. k) (λ k. k) in record { raised = f.0; cleared = f.1 }
bit-by d (corner own samples) b =
    let x : Sample = at samples own in
    let f = sampled b d 18 (λ e. omega (arith, e)) (corner_refused samples) x.elec x.temp x.integrity in
    record { raised = f.0; cleared = f.1 }
bit-by d (probe elec resistance integrity) b = let f = probed b d (is_beyond resistance) elec (temp_of resistance) integrity in record { raised = f.0; cleared = f.1 }

-- ---- any calls

-- one call: what it raises is raised after it, and what was raised stays unless it clears it
module _ (b : ℕ) (d : Device) (c : Call) where
  raises-not-clears : Raises b d c → Clears b d c → ⊥
  raises-not-clears = by c
    where
      by : (c : Call) → Raises b d c → Clears b d c → ⊥
      by (reading elec temp integrity) k l = l
      by (frame bytes room) k l = omega (arith, k.0.address, l.write.address)
      by report k l = l
      by (corner own samples) k l = l
      by (probe elec resistance integrity) k l = l

  stays-raised : (Clears b d c → ⊥) → Raised b d.state.flag → Raised b (after_call d c).state.flag
  stays-raised un t = ⊎_elim (λ r. r) (λ not. absurd (un (((bit-by d c b).cleared t).0 not))) (raised-or-not b (after_call d c).state.flag)

  is-raised : Raises b d c → Raised b (after_call d c).state.flag
  is-raised k = ⊎_elim (stays-raised (raises-not-clears k)) (λ not. ((bit-by d c b).raised not).1 k) (raised-or-not b d.state.flag)

outlives : (b : ℕ) (d : Device) → Raised b d.state.flag → (calls : List Call) → Uncleared b d calls → Raised b (run d calls).state.flag
outlives b d t [] u = t
outlives b d t (c ∷ calls) u = outlives b (after_call d c) (stays-raised b d c u.0 t) calls u.1

among : (b : ℕ) (d : Device) (calls : List Call) → RaisedAmong b d calls → Raised b (run d calls).state.flag
among b d [] k = elim k [ ]
among b d (c ∷ calls) (inl k) = outlives b (after_call d c) (is-raised b d c k.0) calls k.1
among b d (c ∷ calls) (inr k) = among b (after_call d c) calls k

-- and a bit that is set was raised before them, or among them
since : (b : ℕ) (d : Device) (calls : List Call) → Raised b (run d calls).state.flag → (Raised b d.state.flag × Uncleared b d calls) ⊎ RaisedAmong b d calls
since b d [] t = inl (t, tt)
since b d (c ∷ calls) t = ⊎_elim by (λ k. inr (inr k)) (since b (after_call d c) calls t)
  where
    by : Raised b (after_call d c).state.flag × Uncleared b (after_call d c) calls → (Raised b d.state.flag × Uncleared b d (c ∷ calls)) ⊎ RaisedAmong b d (c ∷ calls)
    by p =
        ⊎_elim (λ r. inl (r, (λ k. ((bit-by d c b).cleared r).1 k p.0, p.1))) (λ not. inr (inl (((bit-by d c b).raised not).0 p.0, p.1)))
        (raised-or-not b d.state.flag)

-- ---- from a start

flag-read : {d : Device} → Reached d → FlagRead d d.state.flag
flag-read {d} h = record { value = whole_float d.state.flag; sent = (reached-agrees h).always_shown.flag; is = whole-exact d.state.flag (reached-sound h).state-ok.flag-in }

module _ (sheet : List ℕ) (station : ℕ) (h : (made sheet station).number ≡ 0) where
  abbrev device : Device
  device = (made sheet station).device

  reboot-alone : device.state.flag ≡ reboot
  unfolding fresh
  reboot-alone = ap (λ (g : Device). g.state.flag) (making-accepted sheet station h).starts

  still : (calls : List Call) (b : ℕ) → StillRaised b device calls → Raised b (run device calls).state.flag
  unfolding bit_at
  still calls b (inl k) = outlives b device (subst (Raised b) (sym reboot-alone) (subst (λ (n : ℕ). Raised n reboot) (sym k.0) refl)) calls k.1
  still calls b (inr k) = among b device calls k

  exactly : (calls : List Call) (b : ℕ) → Raised b (run device calls).state.flag ↔ StillRaised b device calls
  exactly calls b = ((λ t. ⊎_elim (λ p. inl (bit-power b 15 (subst (Raised b) reboot-alone p.0), p.1)) (λ k. inr k) (since b device calls t)), still calls b)

-- ---- after RST

module _ (d : Device) (none : d.state.readings.any ≡ false) where
  first : (elec temp : ℤ) (integrity : ℕ) → First (after_reading d elec temp integrity).state.readings
  unfolding filtered state_after_reading state_after_values readings_after peak_after trof_after
  first elec temp integrity = record { held = rw none refl; peak = rw none refl; trof = rw none refl }

  first-accepted : (n : ℕ) → (n ≡ 0 → ⊥) → (refused : Bool) (elec temp : ℤ) (integrity : ℕ) → cond refused n 0 ≡ 0 → First (cond refused d (after_reading d elec temp integrity)).state.readings
  first-accepted n some true elec temp integrity e = absurd (some e)
  first-accepted n some false elec temp integrity e = first elec temp integrity

  first-probed : (beyond : Bool) (elec temp : ℤ) (integrity : ℕ) → cond beyond 20 (sample_number elec temp integrity) ≡ 0 → First (cond beyond d (after_sample d elec temp integrity)).state.readings
  first-probed true elec temp integrity e = absurd (omega (arith, e))
  first-probed false elec temp integrity e = first-accepted 9 (λ k. omega (arith, k)) (bad_reading elec temp integrity) elec temp integrity e

anew : (d : Device) → Reached d → (bytes : List ℕ) (room : ℕ) → AcceptedWrite 100 d bytes room → Anew d (after_call d (frame bytes room))
unfolding restarted
anew d h bytes room w =
    let after : Device = after_call d (frame bytes room) in
    let e : asked d bytes room ≡ Act RST = reset-asked d bytes room w in
    let none : after.state.readings.any ≡ false = ap (λ (g : Device). g.state.readings.any) (rst-restarts d bytes room e) in
    record {
      values = none-shown after (reached-station (reached-step h (frame bytes room))) none;
      sysn = (rst-shown d bytes room h e).2;
      figures = ap (λ (g : Device). g.setup.figures) (rst-restarts d bytes room e);
      next = λ elec temp integrity. first-accepted after none 9 (λ k. omega (arith, k)) (bad_reading elec temp integrity) elec temp integrity;
      next_corner = λ own samples. let x : Sample = at samples own in first-accepted after none 18 (λ k. omega (arith, k)) (corner_refused samples) x.elec x.temp x.integrity;
      next_probe = λ elec resistance integrity. first-probed after none (is_beyond resistance) elec (temp_of resistance) integrity;
    }

pub outlive : Outlives
outlive = record {
  read = λ d h. flag-read h;
  start = λ sheet station h. subst (FlagRead (made sheet station).device) (reboot-alone sheet station h) (flag-read (reached-made sheet station h));
  bits = bit-by;
  exactly = exactly;
  warned = λ sheet station h calls b k. record { flag = _; read = flag-read (reached-run (reached-made sheet station h) calls); raised = still sheet station h calls b k };
  reset = anew;
}
