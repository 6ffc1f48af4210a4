-- What every device that our calls gave keeps: acceptable figures, and values that fit the filter, the arithmetic and a float. The
-- entries need no more of a device. Assumes nothing.
use mathlib.Core.Path.{◌≡◌, refl, subst}
use mathlib.Core.Bool.{Bool, true, false, not, ◌||◌}
use Prim.Native.Nat.{ℕ, ◌≤◌, ◌<◌, ◌^◌}
use native.Mathlib.Nat.{lt_of_le_of_lt}
use native.Mathlib.Omega.{arith}
use lib.Bits.{or_lt, and_le_l}
use lib.Dec.{eqb, ltb, lit≤}
use lib.IntN.{ℤ, pos, neg_ℤ}
use lib.Signed.{lt_z}
use Rattle.integers.specs.Within.{◌within◌}
use Rattle.integers.proofs.Magnitude.{within_of, within_more}
use Rattle.integers.proofs.Order.{pick, is_false, lt_no}
use borrow.Author.Tests.{eqb-true}
use lib.Ieee.{Float}
use Rattle.figures.specs.Acceptable.{Acceptable}
use Rattle.figures.specs.Representable.{Representable}
use Rattle.figures.specs.Unused.{unused_zero}
use Rattle.figures.specs.Limits.{sz_most}
use Rattle.figures.specs.declared.Calibration.{Calibration}
use Rattle.compensation.specs.ReadingLimits.{elec_most, temp_most}
use Rattle.compensation.specs.Reading.{sys}
use Rattle.compensation.specs.Values.{values_of}
use Rattle.compensation.proofs.FilterHull.{filtered-within}
use Rattle.compensation.proofs.Flags.{stat-small}
use Rattle.compensation.proofs.Magnitudes.{magnitudes}
use Rattle.binary32.proofs.Counted.{counted-within}
use Rattle.register.specs.Number.{FLAG, SZ, APPLY, RST, SNAP, PEAKRESET}
use Rattle.register.specs.Register.{access_of, range_of}
use Rattle.panel.specs.Figure.{is_figure, written}
use Rattle.panel.specs.ForCode.{InRange}
use Rattle.panel.proofs.Places.{written-in-range, written-representable}
use Rattle.panel.proofs.Unused.{unused-in-range, unused-representable}
use Rattle.sheet.specs.Judge.{figures_number}
use Rattle.sheet.proofs.Theorems.{judged-acceptable}
use Rattle.modbus.specs.Judgement.{Frame, Refused, Read, Write, Act}
use Rattle.probe.specs.Probe.{is_beyond, temp_of}
use Rattle.modbus.specs.Frame.{judged}
use Rattle.state.specs.Reading.{outside, beyond, bad_reading, larger, smaller, peak_after, trof_after, readings_after, state_after_reading, state_after_values}
use Rattle.state.specs.ForCode.{held_after}
use Rattle.in_force.specs.InForce.{with_zero, zero_steps, with_figures, with_copy, offered, copy_fits, applied, setup_written, setup_acted, setup_by}
use Rattle.state.specs.Request.{no_readings, flag_whole, fresh, restarted, snapped, peaks_at, peaks_reset, acted, flagged, state_by}
use Rattle.state.proofs.Remembered.{held-by}
use Rattle.state.specs.Within.{value_most, ReadingsWithin}
use Rattle.answers.specs.Within.{StateWithin}
use Rattle.in_force.specs.declared.Setup.{Setup}
use Rattle.state.specs.declared.Readings.{Readings}
use Rattle.state.specs.declared.State.{State}
use Rattle.converter.specs.declared.Device.{Device}
use Rattle.converter.specs.Making.{started}
use Rattle.converter.specs.Corner.{at, corner_refused}
use Rattle.converter.specs.Call.{Call, reading, frame, report, corner, probe, after_reading, after_sample, after_call}
use Rattle.converter.specs.declared.corner.Sample.{Sample}
use Rattle.converter.proofs.Corners.{corner-good}

pub record ReadingsSound (r : Readings) : Type 0 where
  pub input_in : r.input within elec_most
  pub held_in : r.elec within elec_most
  pub values-in : ReadingsWithin r

pub record StateSound (s : State) : Type 0 where
  pub readings-ok : ReadingsSound s.readings
  pub flag-in : s.flag < 2 ^ 16
  pub sysn_in : s.snapshot.sysn within value_most

-- figures in force that keep all limits, and a copy of which each figure is in its register's range
pub record SetupSound (s : Setup) : Type 0 where
  pub acceptable : Acceptable s.figures
  pub representable : Representable s.figures
  pub copy-representable : Representable s.copy
  pub copy_in : InRange s.copy

pub record Sound (d : Device) : Type 0 where
  pub setup-ok : SetupSound d.setup
  pub state-ok : StateSound d.state

pub state-within : {d : Device} → Sound d → StateWithin d.state d.setup.figures.system.sz d.setup.copy
state-within h = record {
  readings_in = h.state-ok.readings-ok.values-in;
  sysn_in = h.state-ok.sysn_in;
  sz_in = within_more h.setup-ok.acceptable.system_ok.sz_in (lit≤ tt);
  copy_in = h.setup-ok.copy_in;
}

-- ---- a reading that 9 does not turn down

or_left : (a b : Bool) → a || b ≡ false → a ≡ false
or_left false b e = refl
or_left true b e = e

or_right : (a b : Bool) → a || b ≡ false → b ≡ false
or_right false b e = e
or_right true b e = absurd (is_false e)

not_beyond : (most : ℕ) (v : ℤ) → beyond most v ≡ false → v within most
unfolding outside
not_beyond most v e =
    within_of (lt_no (or_left (lt_z v (neg_ℤ (pos most))) (lt_z (pos most) v) e)) (lt_no (or_right (lt_z v (neg_ℤ (pos most))) (lt_z (pos most) v) e))

pub good-elec : (elec temp : ℤ) (integrity : ℕ) → bad_reading elec temp integrity ≡ false → elec within elec_most
unfolding bad_reading
good-elec elec temp integrity e = not_beyond elec_most elec (or_left (beyond elec_most elec) (beyond temp_most temp || ltb 1 integrity) e)

good-temp : (elec temp : ℤ) (integrity : ℕ) → bad_reading elec temp integrity ≡ false → temp within temp_most
unfolding bad_reading
good-temp elec temp integrity e =
    not_beyond temp_most temp (or_left (beyond temp_most temp) (ltb 1 integrity) (or_right (beyond elec_most elec) (beyond temp_most temp || ltb 1 integrity) e))

pub held-within : (c : Calibration) (r : Readings) (elec : ℤ) → Acceptable c → r.elec within elec_most → elec within elec_most → (held_after c r elec) within elec_most
held-within c r elec ok h e = subst (λ (z : ℤ). z within elec_most) (held-by c.filter r elec) (filtered-within c.filter (not r.any) r.input r.elec elec ok.filter_ok h e)

larger-within : {n : ℕ} (a b : ℤ) → a within n → b within n → (larger a b) within n
unfolding larger
larger-within {n} a b h k = pick (lt_z a b) b a (λ z. z within n) (λ e. k) (λ e. h)

smaller-within : {n : ℕ} (a b : ℤ) → a within n → b within n → (smaller a b) within n
unfolding smaller
smaller-within {n} a b h k = pick (lt_z b a) b a (λ z. z within n) (λ e. k) (λ e. h)

join-sound : (c : Calibration) (r : Readings) (input elec temp : ℤ) (integrity : ℕ) → Acceptable c → ReadingsSound r → input within elec_most → elec within elec_most → temp within temp_most
    → ReadingsSound (readings_after r (record { input = input; held = elec }) temp (values_of c elec temp integrity))
unfolding readings_after peak_after trof_after values_of
join-sound c r input elec temp integrity ok h i e t =
    let m = magnitudes c elec temp ok e in
    let w = h.values-in in
    record {
      input_in = i;
      held_in = e;
      values-in = record {
        elec_in = within_more e (lit≤ tt);
        temp_in = within_more t (lit≤ tt);
        craw_in = within_more m.craw-within (lit≤ tt);
        cell_in = within_more m.cell-within (lit≤ tt);
        sraw_in = within_more m.sraw-within (lit≤ tt);
        sys_in = m.sys-within;
        peak_in = pick r.any (larger r.peak (sys c elec temp)) (sys c elec temp) (λ z. z within value_most) (λ b. larger-within _ _ w.peak_in m.sys-within) (λ b. m.sys-within);
        trof_in = pick r.any (smaller r.trof (sys c elec temp)) (sys c elec temp) (λ z. z within value_most) (λ b. smaller-within _ _ w.trof_in m.sys-within) (λ b. m.sys-within);
      };
    }

read-sound : (d : Device) (elec temp : ℤ) (integrity : ℕ) → Sound d → bad_reading elec temp integrity ≡ false → Sound (after_reading d elec temp integrity)
unfolding values_of state_after_reading state_after_values
read-sound d elec temp integrity h e = record {
  setup-ok = h.setup-ok;
  state-ok = record {
    readings-ok = join-sound d.setup.figures d.state.readings elec _ temp integrity h.setup-ok.acceptable h.state-ok.readings-ok (good-elec elec temp integrity e)
        (held-within d.setup.figures d.state.readings elec h.setup-ok.acceptable h.state-ok.readings-ok.held_in (good-elec elec temp integrity e)) (good-temp elec temp integrity e);
    flag-in = or_lt 16 _ _ h.state-ok.flag-in (stat-small d.setup.figures _ temp integrity);
    sysn_in = h.state-ok.sysn_in;
  };
}

-- ---- a frame

zero-acceptable : (c : Calibration) (z : ℤ) → Acceptable c → z within sz_most → Acceptable (with_zero c z)
zero-acceptable c z ok h = record {
  cell_ok = ok.cell_ok;
  temperature_ok = ok.temperature_ok;
  linearity_ok = ok.linearity_ok;
  system_ok = record {
    sofs_in = ok.system_ok.sofs_in;
    sgai_in = ok.system_ok.sgai_in;
    smin_in = ok.system_ok.smin_in;
    smax_in = ok.system_ok.smax_in;
    ordered = ok.system_ok.ordered;
    sz_in = h;
  };
  filter_ok = ok.filter_ok;
}

zero-within : (x : Float) → (zero_steps x) within sz_most
unfolding range_of access_of
zero-within x = counted-within (range_of SZ) sz_most (record { abs = lit≤ tt }) (record { abs = lit≤ tt }) x

zeroed : (c : Calibration) (z : ℤ) → Representable c → Representable (with_zero c z)
zeroed c z r = record { five = r.five; seven = r.seven }

-- 99: what it puts in force was judged
applied-sound : (s : Setup) → SetupSound s → SetupSound (applied s)
unfolding applied copy_fits
applied-sound s h =
    let next = offered s.figures.system.sz s.copy in
    let r : Representable next = zeroed (unused_zero s.copy) s.figures.system.sz (unused-representable s.copy h.copy-representable) in
    pick (eqb (figures_number next) 0) (with_figures s next) s SetupSound
    (λ e. record { acceptable = (judged-acceptable next r).0 (eqb-true _ 0 e); representable = r; copy-representable = h.copy-representable; copy_in = h.copy_in })
    (λ e. h)

setup-sound : (s : Setup) (f : Frame) → SetupSound s → SetupSound (setup_by s f)
unfolding setup_by setup_written setup_acted
setup-sound s (Refused n) h = h
setup-sound s (Read r) h = h
setup-sound s (Write r x) h =
    pick (eqb r SZ) (with_figures s (with_zero s.figures (zero_steps x))) _ SetupSound
    (λ e. record { acceptable = zero-acceptable s.figures (zero_steps x) h.acceptable (zero-within x); representable = zeroed s.figures _ h.representable; copy-representable = h.copy-representable; copy_in = h.copy_in })
    (λ e. pick (is_figure r) (with_copy s (written s.copy r x)) s SetupSound
    (λ e. record { acceptable = h.acceptable; representable = h.representable; copy-representable = written-representable s.copy h.copy-representable r x; copy_in = written-in-range s.copy h.copy-representable h.copy_in r x })
    (λ e. h))
setup-sound s (Act r) h =
    pick (eqb r APPLY) (applied s) _ SetupSound (λ e. applied-sound s h)
    (λ e. pick (eqb r RST) (with_copy s (unused_zero s.figures)) s SetupSound
    (λ e. record { acceptable = h.acceptable; representable = h.representable; copy-representable = unused-representable s.figures h.representable; copy_in = unused-in-range s.figures h.acceptable })
    (λ e. h))

nought : {n : ℕ} → (pos 0) within n
nought {n} = record { abs = zero≤ n }
  where
    zero≤ : (n : ℕ) → 0 ≤ n
    zero≤ n = omega arith

none_within : ReadingsWithin no_readings
none_within = record { elec_in = nought; temp_in = nought; craw_in = nought; cell_in = nought; sraw_in = nought; sys_in = nought; peak_in = nought; trof_in = nought }

fresh-sound : StateSound fresh
unfolding fresh
fresh-sound = record { readings-ok = record { input_in = nought; held_in = nought; values-in = none_within }; flag-in = omega arith; sysn_in = nought }

restarted-sound : (s : State) → StateSound s → StateSound (restarted s)
unfolding fresh restarted
restarted-sound s h = record { readings-ok = fresh-sound.readings-ok; flag-in = or_lt 16 _ _ h.flag-in fresh-sound.flag-in; sysn_in = fresh-sound.sysn_in }

peaks-within : (r : Readings) → ReadingsWithin r → ReadingsWithin (peaks_at r)
peaks-within r w = record {
  elec_in = w.elec_in;
  temp_in = w.temp_in;
  craw_in = w.craw_in;
  cell_in = w.cell_in;
  sraw_in = w.sraw_in;
  sys_in = w.sys_in;
  peak_in = w.sys_in;
  trof_in = w.sys_in;
}

snap-sound : (s : State) → StateSound s → StateSound (snapped s)
unfolding snapped
snap-sound s h = pick s.readings.any _ s StateSound (λ e. record { readings-ok = h.readings-ok; flag-in = h.flag-in; sysn_in = h.readings-ok.values-in.sys_in }) (λ e. h)

reset-sound : (s : State) → StateSound s → StateSound (peaks_reset s)
unfolding peaks_reset
reset-sound s h =
    pick s.readings.any _ s StateSound
    (λ e. record { readings-ok = record { input_in = h.readings-ok.input_in; held_in = h.readings-ok.held_in; values-in = peaks-within s.readings h.readings-ok.values-in }; flag-in = h.flag-in; sysn_in = h.sysn_in })
    (λ e. h)

state-sound : (s : State) (f : Frame) → StateSound s → StateSound (state_by s f)
unfolding state_by flagged acted
state-sound s (Refused n) h = h
state-sound s (Read r) h = h
state-sound s (Write r x) h = pick (eqb r FLAG) _ s StateSound (λ e. record { readings-ok = h.readings-ok; flag-in = lt_of_le_of_lt (and_le_l s.flag (flag_whole x)) h.flag-in; sysn_in = h.sysn_in }) (λ e. h)
state-sound s (Act r) h =
    pick (eqb r RST) (restarted s) _ StateSound (λ e. restarted-sound s h)
    (λ e. pick (eqb r SNAP) (snapped s) _ StateSound (λ e. snap-sound s h) (λ e. pick (eqb r PEAKRESET) (peaks_reset s) s StateSound (λ e. reset-sound s h) (λ e. h)))

-- ---- a start, one call, and a list of them

pub started-sound : (s : Setup) → SetupSound s → Sound (started s)
started-sound s h = record { setup-ok = h; state-ok = fresh-sound }

sample-sound : (d : Device) (elec temp : ℤ) (integrity : ℕ) → Sound d → Sound (after_sample d elec temp integrity)
sample-sound d elec temp integrity h = pick (bad_reading elec temp integrity) d (after_reading d elec temp integrity) Sound (λ e. h) (λ e. read-sound d elec temp integrity h e)

pub step-sound : (d : Device) (c : Call) → Sound d → Sound (after_call d c)
step-sound d (reading elec temp integrity) h = sample-sound d elec temp integrity h
step-sound d (frame bytes room) h =
    let f : Frame = judged bytes room d.setup.station in
    record { setup-ok = setup-sound d.setup f h.setup-ok; state-ok = state-sound d.state f h.state-ok }
step-sound d report h = h
step-sound d (corner own samples) h =
    let x : Sample = at samples own in
    pick (corner_refused samples) d (after_reading d x.elec x.temp x.integrity) Sound (λ e. h) (λ e. read-sound d x.elec x.temp x.integrity h (corner-good samples e own))
step-sound d (probe elec resistance integrity) h =
    let temp : ℤ = temp_of resistance in
    pick (is_beyond resistance) d (after_sample d elec temp integrity) Sound (λ e. h) (λ e. sample-sound d elec temp integrity h)
