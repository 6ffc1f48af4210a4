-- The device's snapshot is what the calls alone say. Assumes nothing.
use mathlib.Core.Path.{◌≡◌, refl, ap, subst}
use mathlib.Core.Bool.{Bool, true, false, cond}
use mathlib.Core.List.{List, [], ◌∷◌}
use mathlib.Core.Option.{Option, none, some}
use Prim.Native.Nat.{ℕ}
use lib.Dec.{eqb}
use lib.IntN.{ℤ}
use Rattle.compensation.specs.declared.steps.Values.{Values}
use Rattle.integers.proofs.Order.{pick}
use Rattle.register.specs.Number.{FLAG, RST, SNAP, PEAKRESET}
use Rattle.probe.specs.Probe.{is_beyond, temp_of}
use Rattle.modbus.specs.Frame.{judged}
use Rattle.modbus.specs.Judgement.{Frame, Refused, Read, Write, Act}
use Rattle.state.specs.Reading.{bad_reading, state_after_reading, state_after_values}
use Rattle.state.specs.Request.{fresh, restarted, snapped, peaks_reset, acted, flagged, state_by}
use Rattle.in_force.specs.declared.Setup.{Setup}
use Rattle.state.specs.declared.Snapshot.{Snapshot}
use Rattle.state.specs.declared.State.{State}
use Rattle.converter.specs.Making.{made, setup_of}
use Rattle.converter.specs.Corner.{at, corner_refused}
use Rattle.converter.specs.Call.{Call, reading, frame, report, corner, probe, after_reading, after_sample, after_call, run}
use Rattle.converter.specs.declared.corner.Sample.{Sample}
use Rattle.converter.specs.Log.{Kept, Log, latest, begun, note}
use Rattle.converter.specs.Snapshot.{snap_by, shot_by, shot, shots, sysn_of}
use Rattle.converter.specs.declared.Device.{Device}
use Rattle.converter.proofs.Made.{making-accepted}
use Rattle.converter.proofs.History.{Follows, Tracks, steps, tracks}

abbrev pub Taken : Snapshot → Option ℤ → Type 0
Taken n none = n.taken ≡ false
Taken n (some z) = (n.taken ≡ true) × (n.sysn ≡ z)

module _ (d : Device) (l : Log) (t : Tracks d l) (z : Option ℤ) (h : Taken d.state.snapshot z) where
  -- SNAP, by the last reading kept
  snaps : (o : Option Kept) → Follows d.state.readings l.readings o → Taken (snapped d.state).snapshot (snap_by o z)
  unfolding snapped
  snaps none f = rw f.0 h
  snaps (some k) f = rw f.present (refl, ap (λ (v : Values). v.sys) f.values_are)

  acts : (rst snap reset : Bool)
      → Taken (cond rst (restarted d.state) (cond snap (snapped d.state) (cond reset (peaks_reset d.state) d.state))).snapshot (cond rst none (cond snap (snap_by (latest l.readings) z) z))
  unfolding restarted peaks_reset
  acts true snap reset = refl
  acts false true reset = snaps (latest l.readings) t.tells.follows
  acts false false true = pick d.state.readings.any _ _ (λ (s : State). Taken s.snapshot z) (λ e. h) (λ e. h)
  acts false false false = h

  obeys : (f : Frame) → Taken (state_by d.state f).snapshot (shot_by l z f)
  unfolding state_by acted flagged
  obeys (Refused n) = h
  obeys (Read r) = h
  obeys (Write r x) = pick (eqb r FLAG) _ _ (λ (s : State). Taken s.snapshot z) (λ e. h) (λ e. h)
  obeys (Act r) = acts (eqb r RST) (eqb r SNAP) (eqb r PEAKRESET)

  sampled : (elec temp : ℤ) (integrity : ℕ) → Taken (after_sample d elec temp integrity).state.snapshot z
  unfolding state_after_reading state_after_values
  sampled elec temp integrity = pick (bad_reading elec temp integrity) d (after_reading d elec temp integrity) (λ (g : Device). Taken g.state.snapshot z) (λ e. h) (λ e. h)

  one : (c : Call) → Taken (after_call d c).state.snapshot (shot l z c)
  unfolding state_after_reading state_after_values
  one (reading elec temp integrity) = sampled elec temp integrity
  one (frame bytes room) =
      subst (λ (s : Setup). Taken (state_by d.state (judged bytes room d.setup.station)).snapshot (shot_by l z (judged bytes room s.station))) t.setup_is
      (obeys (judged bytes room d.setup.station))
  one report = h
  one (corner own samples) =
      let x : Sample = at samples own in
      pick (corner_refused samples) d (after_reading d x.elec x.temp x.integrity) (λ (g : Device). Taken g.state.snapshot z) (λ e. h) (λ e. h)
  one (probe elec resistance integrity) =
      let temp : ℤ = temp_of resistance in
      pick (is_beyond resistance) d (after_sample d elec temp integrity) (λ (g : Device). Taken g.state.snapshot z) (λ e. h) (λ e. sampled elec temp integrity)

all : (d : Device) (l : Log) → Tracks d l → (z : Option ℤ) → Taken d.state.snapshot z → (cs : List Call) → Taken (run d cs).state.snapshot (shots l z cs)
all d l t z h [] = h
all d l t z h (c ∷ cs) = all (after_call d c) (note l c) (steps d l t c) (shot l z c) (one d l t z h c) cs

pub snapshots : (sheet : List ℕ) (station : ℕ) → (made sheet station).number ≡ 0 → (calls : List Call)
    → Taken (run (made sheet station).device calls).state.snapshot (sysn_of sheet station calls)
unfolding fresh
snapshots sheet station h calls =
    all _ (begun (setup_of sheet station) []) (tracks sheet station h []) none (ap (λ (d : Device). d.state.snapshot.taken) (making-accepted sheet station h).starts) calls
