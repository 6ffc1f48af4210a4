-- Demand 3: what each call keeps of a device beside the log, `Tracks`. The theorem `history` is in `Agrees.antt`. Assumes nothing.
use mathlib.Core.Path.{◌≡◌, refl, sym, ap, ap₂, ◌∙◌, subst}
use mathlib.Core.Bool.{Bool, true, false, cond}
use mathlib.Core.List.{List, [], ◌∷◌}
use mathlib.Core.Option.{Option, none, some}
use Prim.Native.Nat.{ℕ}
use lib.Bits.{bit_or, bit_and}
use lib.Dec.{eqb}
use lib.Ieee.{Float}
use lib.IntN.{ℤ, pos}
use Rattle.integers.specs.Within.{◌within◌}
use Rattle.figures.specs.Acceptable.{Acceptable}
use Rattle.compensation.specs.Filter.{Remembered, held_by}
use Rattle.compensation.specs.Filtered.{Filtered}
use Rattle.compensation.proofs.Filtered.{filter-stated}
use Rattle.compensation.specs.ReadingLimits.{elec_most}
use Rattle.compensation.specs.Values.{values_of}
use Rattle.compensation.specs.declared.steps.Values.{Values}
use Rattle.compensation.proofs.Faithful.{faithful}
use borrow.Author.Tests.{ne_eqb, eqb-true}
use native.Mathlib.Omega.{arith}
use Rattle.register.specs.Number.{FLAG, RST, SNAP, PEAKRESET}
use Rattle.probe.specs.Probe.{is_beyond, temp_of}
use Rattle.modbus.specs.Frame.{judged}
use Rattle.modbus.specs.Judgement.{Frame, Refused, Read, Write, Act}
use Rattle.state.specs.Reading.{bad_reading, peak_after, trof_after, readings_after, remembered_of, state_after_reading, state_after_values}
use Rattle.state.specs.ForCode.{held_after}
use Rattle.in_force.specs.InForce.{setup_by}
use Rattle.state.specs.Request.{no_readings, reboot, flag_whole, fresh, restarted, snapped, peaks_at, peaks_reset, acted, flagged, state_by}
use Rattle.in_force.specs.declared.Setup.{Setup}
use Rattle.state.specs.declared.Readings.{Readings}
use Rattle.state.specs.declared.State.{State}
use Rattle.converter.specs.declared.Device.{Device}
use Rattle.converter.specs.Making.{made, setup_of, started}
use Rattle.converter.specs.Corner.{at, corner_refused}
use Rattle.converter.specs.declared.corner.Sample.{Sample}
use Rattle.converter.specs.Call.{Call, reading, frame, report, corner, probe, obeyed, after_reading, after_sample, after_call, run}
use Rattle.converter.specs.Log as log
use Rattle.converter.specs.Log.{Kept, valued, Entry, peak_was_reset, Event, Log, latest, begun, kept_of, join, reset_peaks, log_by, note_sample, note, noted, log_of}
use Rattle.converter.specs.History.{sys_since, Largest, Smallest, Right}
use Rattle.converter.specs.Jumps.{FilteredAfter, EachFiltered}
use Rattle.converter.proofs.Neighbours.{none-filtered, more-filtered, reset-filtered}
use Rattle.converter.proofs.Events.{Latched, latch-raised, latch-kept, latch-none}
use Rattle.converter.proofs.Extremes.{largest-one, smallest-one, largest-more, smallest-more}
use Rattle.converter.proofs.Made.{making-accepted, making-sound}
use Rattle.converter.proofs.Sound.{Sound, started-sound, step-sound, good-elec, held-within}
use Rattle.converter.proofs.Corners.{corner-good}

-- ---- the device beside the log

abbrev pub Follows : Readings → List Entry → Option Kept → Type 0
Follows r es none = (r.any ≡ false) × (sys_since es ≡ [])
Follows r es (some k) = Right r es k

-- it was taken by acceptable figures
abbrev pub AcceptableLast : Option Kept → Type 0
AcceptableLast none = Unit
AcceptableLast (some k) = Acceptable k.figures

pub record Tells (r : Readings) (m : Option Remembered) (es : List Entry) : Type 0 where
  pub filter-is : remembered_of r ≡ m
  pub follows : Follows r es (latest es)
  pub acceptable : AcceptableLast (latest es)
  pub each_filtered : EachFiltered es

pub record Tracks (d : Device) (l : Log) : Type 0 where
  pub setup_is : d.setup ≡ l.setup
  pub tells : Tells d.state.readings l.filter l.readings
  pub latched : (b : ℕ) → Latched b d.state.flag l.events
  pub sound : Sound d

-- ---- a start, and RST

nothing-told : Tells no_readings none []
nothing-told = record { filter-is = refl; follows = (refl, refl); acceptable = tt; each_filtered = none-filtered }

starts : (s : Setup) → Sound (started s) → Tracks (started s) (begun s [])
unfolding fresh
starts s h = record { setup_is = refl; tells = nothing-told; latched = λ b. latch-raised b 0 reboot [] (latch-none b); sound = h }

restarts : (s s' : Setup) (t : State) (events : List Event) → s ≡ s' → ((b : ℕ) → Latched b t.flag events)
    → let after : Device = record { setup = s; state = restarted t } in Sound after → Tracks after (begun s' events)
unfolding restarted
restarts s s' t events e l h = record { setup_is = e; tells = nothing-told; latched = λ b. latch-raised b t.flag reboot events (l b); sound = h }

-- ---- a reading

-- what is remembered is what the log keeps of the last reading
abbrev kept_at : Option Kept → Option Remembered
kept_at none = none
kept_at (some j) = some (record { input = j.input; held = j.elec })

remembers : (r : Readings) (es : List Entry) (o : Option Kept) → Follows r es o → remembered_of r ≡ kept_at o
remembers r es none f = rw f.0 refl
remembers r es (some j) f = rw (f.present, f.input_is, f.elec_is) refl

-- so step 1 of a reading goes by that one
filtered-after : (o : Option Kept) (k : Kept) → k.elec ≡ held_by k.figures.filter (kept_at o) k.input → FilteredAfter o k
filtered-after none k e = e ∙ (filter-stated.is k.figures.filter true (pos 0) (pos 0) k.input).at_first refl
filtered-after (some j) k e = subst (Filtered k.figures.filter false j.input j.elec k.input) (sym e) (filter-stated.is k.figures.filter false j.input j.elec k.input)

joins : (r : Readings) (m : Option Remembered) (es : List Entry) → Tells r m es → (k : Kept) → k.elec ≡ held_by k.figures.filter m k.input → Acceptable k.figures → k.elec within elec_most
    → Tells (readings_after r (record { input = k.input; held = k.elec }) k.temp (valued k)) (some (record { input = k.input; held = k.elec })) (log.joined k ∷ es)
unfolding readings_after peak_after trof_after
joins r m es t k h ok e = record {
  filter-is = refl;
  acceptable = ok;
  each_filtered = more-filtered es k t.each_filtered
      (filtered-after (latest es) k (h ∙ ap (λ (x : Option Remembered). held_by k.figures.filter x k.input) (sym t.filter-is ∙ remembers r es (latest es) t.follows)));
  follows = record {
    present = refl;
    input_is = refl;
    elec_is = refl;
    temp_is = refl;
    values_are = refl;
    faithful = faithful k.figures k.elec k.temp k.integrity ok e;
    peak = (more (latest es) t.follows).0;
    trof = (more (latest es) t.follows).1;
  };
}
  where
    more : (o : Option Kept) → Follows r es o → Largest (peak_after r (valued k)) ((valued k).sys ∷ sys_since es) × Smallest (trof_after r (valued k)) ((valued k).sys ∷ sys_since es)
    more none f = rw (f.0, f.1) (largest-one (valued k).sys, smallest-one (valued k).sys)
    more (some j) f = rw f.present (largest-more r.peak (valued k).sys (sys_since es) f.peak, smallest-more r.trof (valued k).sys (sys_since es) f.trof)

reads : (d : Device) (l : Log) → Tracks d l → (elec temp : ℤ) (integrity : ℕ) → bad_reading elec temp integrity ≡ false
    → Tracks (after_reading d elec temp integrity) (join l (kept_of l elec temp integrity))
unfolding state_after_reading state_after_values
reads d l t elec temp integrity g = record {
  setup_is = t.setup_is;
  tells = subst (λ (r : Readings). Tells r (some (record { input = elec; held = k.elec })) (log.joined k ∷ l.readings)) (sym same-readings) (joins d.state.readings l.filter l.readings t.tells k refl ok within_held);
  latched = λ b. subst (λ (v : Values). Latched b (bit_or d.state.flag v.stat) (log.raised (valued k).stat ∷ l.events)) (sym same-values) (latch-raised b d.state.flag (valued k).stat l.events (t.latched b));
  sound = subst Sound (ap (λ (b : Bool). cond b d (after_reading d elec temp integrity)) g) (step-sound d (reading elec temp integrity) t.sound);
}
  where
    k : Kept
    k = kept_of l elec temp integrity

    same-held : held_after d.setup.figures d.state.readings elec ≡ k.elec
    same-held =
        ap₂ (λ (s : Setup) (m : Option Remembered). held_by s.figures.filter m elec) t.setup_is t.tells.filter-is

    same-values : values_of d.setup.figures (held_after d.setup.figures d.state.readings elec) temp integrity ≡ valued k
    same-values = ap₂ (λ (s : Setup) (h : ℤ). values_of s.figures h temp integrity) t.setup_is same-held

    same-readings : readings_after d.state.readings (record { input = elec; held = held_after d.setup.figures d.state.readings elec }) temp (values_of d.setup.figures (held_after d.setup.figures d.state.readings elec) temp integrity)
        ≡ readings_after d.state.readings (record { input = elec; held = k.elec }) temp (valued k)
    same-readings = ap₂ (λ (h : ℤ) (v : Values). readings_after d.state.readings (record { input = elec; held = h }) temp v) same-held same-values

    ok : Acceptable l.setup.figures
    ok = subst (λ (s : Setup). Acceptable s.figures) t.setup_is t.sound.setup-ok.acceptable

    within_held : k.elec within elec_most
    within_held =
        subst (λ (h : ℤ). h within elec_most) same-held
        (held-within d.setup.figures d.state.readings elec t.sound.setup-ok.acceptable t.sound.state-ok.readings-ok.held_in (good-elec elec temp integrity g))

-- a reading by itself, and a corner's, which is refused too where another's is bad
reads-or-not : (d : Device) (l : Log) → Tracks d l → (elec temp : ℤ) (integrity : ℕ) (refused : Bool) → (refused ≡ false → bad_reading elec temp integrity ≡ false)
    → Tracks (cond refused d (after_reading d elec temp integrity)) (cond refused l (join l (kept_of l elec temp integrity)))
reads-or-not d l t elec temp integrity true e = t
reads-or-not d l t elec temp integrity false e = reads d l t elec temp integrity (e refl)

probes : (d : Device) (l : Log) → Tracks d l → (elec temp : ℤ) (integrity : ℕ) (beyond : Bool) → Tracks (cond beyond d (after_sample d elec temp integrity)) (cond beyond l (note_sample l elec temp integrity))
probes d l t elec temp integrity true = t
probes d l t elec temp integrity false = reads-or-not d l t elec temp integrity (bad_reading elec temp integrity) (λ e. e)

-- ---- a peak reset

resets : (r : Readings) (m : Option Remembered) (es : List Entry) → Tells r m es → (k : Kept) → latest es ≡ some k → Tells (peaks_at r) m (peak_was_reset ∷ es)
resets r m es t k e = record { filter-is = t.filter-is; follows = rw e (right (rw e at t.follows)); acceptable = t.acceptable; each_filtered = reset-filtered es t.each_filtered }
  where
    right : Right r es k → Right (peaks_at r) (peak_was_reset ∷ es) k
    right f = record {
      present = f.present;
      input_is = f.input_is;
      elec_is = f.elec_is;
      temp_is = f.temp_is;
      values_are = f.values_are;
      faithful = f.faithful;
      peak = rw (f.values_are, e) (largest-one (valued k).sys);
      trof = rw (f.values_are, e) (smallest-one (valued k).sys);
    }

-- the readings alone, after a peak reset
reset-tells : (s : State) (m : Option Remembered) (es : List Entry) → Tells s.readings m es → (o : Option Kept) → latest es ≡ o
    → Tells (peaks_reset s).readings m (reset_peaks o es)
unfolding peaks_reset
reset-tells s m es t none e = subst (λ (b : Bool). Tells (cond b (record { readings = peaks_at s.readings; flag = s.flag; snapshot = s.snapshot }) s).readings m es) (sym f.0) t
  where
    f : Follows s.readings es none
    f = rw e at t.follows
reset-tells s m es t (some k) e =
    subst (λ (b : Bool). Tells (cond b (record { readings = peaks_at s.readings; flag = s.flag; snapshot = s.snapshot }) s).readings m (peak_was_reset ∷ es)) (sym f.present)
    (resets s.readings m es t k e)
  where
    f : Follows s.readings es (some k)
    f = rw e at t.follows

-- ---- a frame

pub peaks-flag : (s : State) → (peaks_reset s).flag ≡ s.flag
unfolding peaks_reset
peaks-flag s = go s.readings.any
  where
    go : (b : Bool) → (cond b (record { readings = peaks_at s.readings; flag = s.flag; snapshot = s.snapshot }) s).flag ≡ s.flag
    go true = refl
    go false = refl

-- SNAP leaves readings and FLAG
pub snap-leaves : (s : State) → ((snapped s).readings ≡ s.readings) × ((snapped s).flag ≡ s.flag)
unfolding snapped
snap-leaves s = go s.readings.any
  where
    after : Bool → State
    after b = cond b (record { readings = s.readings; flag = s.flag; snapshot = record { taken = true; sysn = s.readings.values.sys } }) s

    go : (b : Bool) → ((after b).readings ≡ s.readings) × ((after b).flag ≡ s.flag)
    go true = (refl, refl)
    go false = (refl, refl)

-- what a write leaves of state and events, by whether it is one of FLAG
flagged-state : (s : State) (m : Option Remembered) (es : List Entry) (events : List Event) → Tells s.readings m es → ((b : ℕ) → Latched b s.flag events) → (x : Float) (flag : Bool)
    → let after : State = cond flag (record { readings = s.readings; flag = bit_and s.flag (flag_whole x); snapshot = s.snapshot }) s in
    Tells after.readings m es × ((b : ℕ) → Latched b after.flag (cond flag (log.kept (flag_whole x) ∷ events) events))
flagged-state s m es events t l x true = (t, λ b. latch-kept b s.flag (flag_whole x) events (l b))
flagged-state s m es events t l x false = (t, l)

-- and an action other than RST
acted-state : (s : State) (m : Option Remembered) (es : List Entry) (events : List Event) → Tells s.readings m es → ((b : ℕ) → Latched b s.flag events) → (snap reset : Bool) → (snap ≡ true → reset ≡ false)
    → let after : State = cond snap (snapped s) (cond reset (peaks_reset s) s) in
    Tells after.readings m (cond reset (reset_peaks (latest es) es) es) × ((b : ℕ) → Latched b after.flag events)
acted-state s m es events t l true reset n =
    rw (n refl) (subst (λ (r : Readings). Tells r m es) (sym (snap-leaves s).0) t, λ b. subst (λ (k : ℕ). Latched b k events) (sym (snap-leaves s).1) (l b))
acted-state s m es events t l false true n = (reset-tells s m es t (latest es) refl, λ b. subst (λ (k : ℕ). Latched b k events) (sym (peaks-flag s)) (l b))
acted-state s m es events t l false false n = (t, l)

acts : (d : Device) (l : Log) → Tracks d l → (s s' : Setup) → s ≡ s' → (rst snap reset : Bool) → (snap ≡ true → reset ≡ false)
    → let after : Device = record { setup = s; state = cond rst (restarted d.state) (cond snap (snapped d.state) (cond reset (peaks_reset d.state) d.state)) } in
    Sound after → Tracks after (cond rst (begun s' l.events) (record { setup = s'; filter = l.filter; readings = cond reset (reset_peaks (latest l.readings) l.readings) l.readings; events = l.events }))
acts d l t s s' e true snap reset n h = restarts s s' d.state l.events e t.latched h
acts d l t s s' e false snap reset n h =
    let p = acted-state d.state l.filter l.readings l.events t.tells t.latched snap reset n in
    record { setup_is = e; tells = p.0; latched = p.1; sound = h }

obeys : (d : Device) (l : Log) → Tracks d l → (f : Frame) → Sound (obeyed d f) → Tracks (obeyed d f) (log_by l f)
unfolding setup_by state_by flagged acted
obeys d l t (Refused n) h = record { setup_is = t.setup_is; tells = t.tells; latched = t.latched; sound = t.sound }
obeys d l t (Read r) h = record { setup_is = t.setup_is; tells = t.tells; latched = t.latched; sound = t.sound }
obeys d l t (Write r x) h =
    let p = flagged-state d.state l.filter l.readings l.events t.tells t.latched x (eqb r FLAG) in
    record { setup_is = ap (λ (s : Setup). setup_by s (Write r x)) t.setup_is; tells = p.0; latched = p.1; sound = h }
obeys d l t (Act r) h =
    acts d l t (setup_by d.setup (Act r)) (setup_by l.setup (Act r)) (ap (λ (s : Setup). setup_by s (Act r)) t.setup_is) (eqb r RST) (eqb r SNAP) (eqb r PEAKRESET)
    (λ e. ne_eqb r PEAKRESET (λ g. omega (arith, g, eqb-true r SNAP e))) h

-- ---- one call, and all of them

pub steps : (d : Device) (l : Log) → Tracks d l → (c : Call) → Tracks (after_call d c) (note l c)
steps d l t (reading elec temp integrity) = reads-or-not d l t elec temp integrity (bad_reading elec temp integrity) (λ e. e)
steps d l t (frame bytes room) =
    let f : Frame = judged bytes room l.setup.station in
    let same : judged bytes room d.setup.station ≡ f = ap (λ (s : Setup). judged bytes room s.station) t.setup_is in
    subst (λ (g : Frame). Tracks (obeyed d g) (log_by l f)) (sym same)
    (obeys d l t f (subst (λ (g : Frame). Sound (obeyed d g)) same (step-sound d (frame bytes room) t.sound)))
steps d l t report = t
steps d l t (corner own samples) =
    let x : Sample = at samples own in
    reads-or-not d l t x.elec x.temp x.integrity (corner_refused samples) (λ e. corner-good samples e own)
steps d l t (probe elec resistance integrity) = probes d l t elec (temp_of resistance) integrity (is_beyond resistance)

pub runs : (d : Device) (l : Log) → Tracks d l → (cs : List Call) → Tracks (run d cs) (noted l cs)
runs d l t [] = t
runs d l t (c ∷ cs) = runs (after_call d c) (note l c) (steps d l t c) cs

pub tracks : (sheet : List ℕ) (station : ℕ) → (made sheet station).number ≡ 0 → (calls : List Call) → Tracks (run (made sheet station).device calls) (log_of sheet station calls)
tracks sheet station h calls =
    let s : Setup = setup_of sheet station in
    subst (λ (d : Device). Tracks (run d calls) (log_of sheet station calls)) (sym (making-accepted sheet station h).starts)
    (runs (started s) (begun s []) (starts s (started-sound s (making-sound sheet station h))) calls)
