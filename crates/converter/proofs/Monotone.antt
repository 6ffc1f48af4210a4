-- Devices follow ELEC (specs/Monotone.antt): the last reading's values are those of `values_of`, as `history` has it, and with the filter off
-- the held value is the input, as `jumps` has it; `monotone` and `sent-in-order` do the rest. Assumes nothing.
use mathlib.Core.Path.{◌≡◌, refl, sym, ap, ◌∙◌, subst}
use mathlib.Core.Bool.{Bool, true, false, cond}
use mathlib.Core.List.{List, [], ◌∷◌}
use mathlib.Core.Logic.{⊎_elim}
use mathlib.Core.Option.{Option, none, some}
use Prim.Native.Nat.{ℕ, suc}
use native.Mathlib.Omega.{arith}
use lib.IntN.{ℤ}
use lib.Signed.{◌≤ℤ◌}
use Rattle.figures.specs.Acceptable.{Acceptable}
use Rattle.figures.specs.declared.Calibration.{Calibration}
use Rattle.probe.specs.Probe.{is_beyond, temp_of}
use Rattle.compensation.specs.Monotone.{FollowsElec}
use Rattle.compensation.specs.declared.steps.Values.{Values}
use Rattle.compensation.proofs.Monotone.{monotone}
use Rattle.binary32.specs.Sent.{step_float}
use Rattle.binary32.proofs.Monotone.{count_fits, sent-in-order}
use Rattle.in_force.specs.declared.Setup.{Setup}
use Rattle.state.specs.Reading.{bad_reading}
use Rattle.converter.specs.Corner.{at, corner_refused}
use Rattle.converter.specs.Call.{Call, reading, corner, probe, after_call}
use Rattle.converter.specs.Reached.{Reached}
use Rattle.converter.specs.Wire.{Sends}
use Rattle.converter.specs.Log.{Kept, valued, Entry, joined, peak_was_reset, Log, latest, kept_of, join, note}
use Rattle.converter.specs.History.{Right, Shown}
use Rattle.converter.specs.Jumps.{Neighbours, FilteredAfter}
use Rattle.converter.specs.Monotone.{LastReading, BecomesLast, InOrder, DevicesFollow, FilterOff, MoreLoad}
use Rattle.converter.specs.declared.Device.{Device}
use Rattle.converter.specs.declared.corner.Sample.{Sample}
use Rattle.converter.proofs.Reached.{reached-step, log-of, step-log, reached-tracks}
use Rattle.converter.proofs.Agrees.{reached-agrees}

-- ---- an accepted reading is the last one kept

-- no number but 0 is given where none is due
accepted : (b : Bool) (n m : ℕ) → cond {A = ℕ} b (suc n) m ≡ 0 → (b ≡ false) × (m ≡ 0)
accepted true n m e = absurd (omega (arith, e))
accepted false n m e = (refl, e)

module _ {d : Device} (r : Reached d) where
  joins : (c : Call) (elec temp : ℤ) (integrity : ℕ) → note (log-of r) c ≡ join (log-of r) (kept_of (log-of r) elec temp integrity) → LastReading (after_call d c) d.setup.figures elec temp
  joins c elec temp integrity e = record {
    reached = reached-step r c;
    kept = kept_of (log-of r) elec temp integrity;
    is_last = ap (λ (l : Log). latest l.readings) (step-log r c ∙ e);
    figures_are = sym (ap (λ (s : Setup). s.figures) (reached-agrees r).in_force);
    elec_is = refl;
    temp_is = refl;
  }

  becomes_last : BecomesLast d
  becomes_last = record {
    by_temp = λ elec temp integrity h. joins (reading elec temp integrity) elec temp integrity (rw (accepted (bad_reading elec temp integrity) _ _ h).0 refl);
    by_probe = λ elec resistance integrity h.
        let p = accepted (is_beyond resistance) _ _ h in
        joins (probe elec resistance integrity) elec (temp_of resistance) integrity (rw (p.0, (accepted (bad_reading elec (temp_of resistance) integrity) _ _ p.1).0) refl);
    by_corner = λ own samples h. let x : Sample = at samples own in joins (corner own samples) x.elec x.temp x.integrity (rw (accepted (corner_refused samples) _ _ h).0 refl);
  }

-- ---- with the filter off, the held value of the last reading is its input

last_of : (es : List Entry) (k : Kept) → latest es ≡ some k → (j : Option Kept) × Neighbours es j k
last_of [] k e = absurd (let z : ◌≡◌ {A = ℕ} 0 1 = cc in omega arith)
last_of (joined i ∷ es) k e = (latest es, record { later = []; earlier = es; split = ap (λ (x : Kept). joined x ∷ es) (same e); before = refl })
  where
    same : {x y : Kept} → some x ≡ some y → x ≡ y
    same p = cc
last_of (peak_was_reset ∷ es) k e =
    let n = last_of es k e in
    (n.0, record { later = peak_was_reset ∷ n.1.later; earlier = n.1.earlier; split = ap (λ (xs : List Entry). peak_was_reset ∷ xs) n.1.split; before = n.1.before })

unfiltered : (j : Option Kept) (k : Kept) → FilterOff k.figures → FilteredAfter j k → k.elec ≡ k.input
unfiltered none k off f = f
unfiltered (some j) k off f = ⊎_elim f.no_level f.no_steps off

module _ {c : Calibration} {d : Device} {elec temp : ℤ} (p : LastReading d c elec temp) where
  held-is : FilterOff c → p.kept.elec ≡ elec
  held-is off =
      let n = last_of (log-of p.reached).readings p.kept p.is_last in
      unfiltered n.0 p.kept (rw p.figures_are off) ((reached-tracks p.reached).tells.each_filtered n.0 p.kept n.1) ∙ p.elec_is

  last-acceptable : Acceptable c
  last-acceptable = subst Acceptable p.figures_are (rw p.is_last at (reached-tracks p.reached).tells.acceptable)

  right : Right d.state.readings (log-of p.reached).readings p.kept
  right = ((reached-agrees p.reached).last_kept p.kept p.is_last).0

  shown : Shown d p.kept
  shown = ((reached-agrees p.reached).last_kept p.kept p.is_last).1

-- ---- two devices

in_order : {d e : Device} {n : ℕ} (a b : ℤ) → Sends d n (step_float a) → Sends e n (step_float b) → a ≤ℤ b → InOrder d e n
in_order a b s t l =
    record { lesser = step_float a; larger = step_float b; lesser_fits = count_fits 16 a; larger_fits = count_fits 16 b; lesser_sent = s; larger_sent = t; ordered = sent-in-order 16 a b l }

module _ {c : Calibration} {d e : Device} {low high temp : ℤ} (p : LastReading d c low temp) (q : LastReading e c high temp) (l : p.kept.elec ≤ℤ q.kept.elec) where
  v : Values
  v = valued p.kept

  w : Values
  w = valued q.kept

  values-follow : FollowsElec c v w
  unfolding v w
  values-follow = rw (p.figures_are, p.temp_is, q.figures_are, q.temp_is) (monotone.follows c (last-acceptable p) p.kept.elec q.kept.elec temp p.kept.integrity q.kept.integrity l)

  follows : DevicesFollow c d e
  unfolding v w
  follows = record {
    values = rw ((right p).values_are, (right q).values_are) values-follow;
    none_below = λ h. let f = values-follow.none_below h in (
      in_order v.sys w.sys (shown p).sout (shown q).sout f.sys,
      (
        in_order v.sys w.sys (shown p).sys (shown q).sys f.sys,
        (
          in_order v.sraw w.sraw (shown p).sraw (shown q).sraw f.sraw,
          (
            in_order v.cell w.cell (shown p).cell (shown q).cell f.cell,
            (in_order v.craw w.craw (shown p).craw (shown q).craw f.craw, tt),
          ),
        ),
      ),
    );
    one_below = λ h. let f = values-follow.one_below h in (in_order w.sys v.sys (shown q).sout (shown p).sout f, (in_order w.sys v.sys (shown q).sys (shown p).sys f, tt));
    both_below = λ h. let f = values-follow.both_below h in (in_order v.sys w.sys (shown p).sout (shown q).sout f, (in_order v.sys w.sys (shown p).sys (shown q).sys f, tt));
  }

pub more-load : MoreLoad
more-load = record {
  becomes_last = λ d r. becomes_last r;
  follows = λ c d e low high temp off p q l. follows p q (rw (held-is p off, held-is q off) l);
  follows_held = λ c d e low high temp p q l. follows p q (rw ((right p).elec_is, (right q).elec_is) at l);
}
