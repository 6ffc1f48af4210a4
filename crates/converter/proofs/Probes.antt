-- A reading by the probe (Change 8) has the properties of specs/Probes.antt. Assumes nothing.
use mathlib.Core.Path.{◌≡◌, refl, sym, ◌∙◌}
use mathlib.Core.Bool.{Bool, true, false, cond}
use mathlib.Core.List.{List, [], ◌∷◌, ◌++◌}
use mathlib.Core.Logic.{◌↔◌}
use mathlib.Core.Option.{Option}
use Prim.Native.Nat.{ℕ}
use native.Mathlib.Omega.{arith}
use lib.IntN.{ℤ}
use lib.Signed.{clash_ℤ}
use Rattle.integers.proofs.Order.{≤_trans}
use Rattle.probe.specs.Probe.{is_beyond, temp_of}
use Rattle.probe.specs.Pt100.{Beyond, InRange}
use Rattle.probe.proofs.Pt100.{pt100}
use Rattle.state.specs.Reading.{bad_reading}
use Rattle.state.specs.BadReading.{Bad}
use Rattle.state.specs.BadReading as bad
use Rattle.state.proofs.BadReading.{bad-readings}
use Rattle.converter.specs.Call.{Call, reading, frame, report, corner, probe, after_sample, after_call, run, number}
use Rattle.converter.specs.Log.{Log, note_sample, note, noted}
use Rattle.converter.specs.Corners.{Same}
use Rattle.converter.specs.Snapshot.{shot, shots}
use Rattle.converter.specs.Probes.{BadBesideTemp, elec_under, elec_over, integrity_over, as_readings, Probes}
use Rattle.converter.specs.declared.Device.{Device}

-- ---- one call

module _ (elec r : ℤ) (integrity : ℕ) where
  refused : Beyond r → ((x : Device) → (after_call x (probe elec r integrity) ≡ x) × (number x (probe elec r integrity) ≡ 20)) × ((l : Log) → note l (probe elec r integrity) ≡ l)
  refused h = let e = (pt100.refused r).1 h in (λ x. (rw e refl, rw e refl), λ l. rw e refl)

  otherwise : InRange r → Same (probe elec r integrity) (reading elec (temp_of r) integrity)
  otherwise h = let e = (pt100.taken r).1 h in record { device = λ x. rw e refl; number_is = λ x. rw e refl; log = λ l. rw e refl }

  -- TEMP is within ±13,107,200, as it is within −50 and 150 °C
  beside-temp : Bad elec (temp_of r) integrity → BadBesideTemp elec integrity
  beside-temp (bad.elec_under h) = elec_under h
  beside-temp (bad.elec_over h) = elec_over h
  beside-temp (bad.temp_under h) = absurd (clash_ℤ h (≤_trans (record { le = tt }) (pt100.temp.least r)))
  beside-temp (bad.temp_over h) = absurd (clash_ℤ h (≤_trans (pt100.temp.most r) (record { le = tt })))
  beside-temp (bad.integrity_over h) = integrity_over h

  so-bad : BadBesideTemp elec integrity → Bad elec (temp_of r) integrity
  so-bad (elec_under h) = bad.elec_under h
  so-bad (elec_over h) = bad.elec_over h
  so-bad (integrity_over h) = bad.integrity_over h

  is-bad : InRange r → (x : Device) → (number x (probe elec r integrity) ≡ 9) ↔ BadBesideTemp elec integrity
  is-bad h x =
      let same = (otherwise h).number_is x in
      let nine = bad-readings.refused elec (temp_of r) integrity in
      ((λ e. beside-temp (nine.0 (by (bad_reading elec (temp_of r) integrity) (sym same ∙ e)))), λ k. same ∙ rw (nine.1 (so-bad k)) refl)
    where
      by : (b : Bool) → cond {A = ℕ} b 9 0 ≡ 9 → b ≡ true
      by true e = refl
      by false e = absurd (omega (arith, e))

-- ---- a list of them

lists : (x : Device) (calls : List Call) → run x calls ≡ run x (as_readings calls)
lists x [] = refl
lists x (reading elec temp integrity ∷ calls) = lists (after_call x (reading elec temp integrity)) calls
lists x (frame bytes room ∷ calls) = lists (after_call x (frame bytes room)) calls
lists x (report ∷ calls) = lists x calls
lists x (corner own samples ∷ calls) = lists (after_call x (corner own samples)) calls
lists x (probe elec r integrity ∷ calls) = lists (after_call x (probe elec r integrity)) calls ∙ by (is_beyond r)
  where
    by : (b : Bool) → run (cond b x (after_sample x elec (temp_of r) integrity)) (as_readings calls) ≡ run x (cond b [] (reading elec (temp_of r) integrity ∷ []) ++ as_readings calls)
    by true = refl
    by false = refl

logs : (l : Log) (calls : List Call) → noted l calls ≡ noted l (as_readings calls)
logs l [] = refl
logs l (reading elec temp integrity ∷ calls) = logs (note l (reading elec temp integrity)) calls
logs l (frame bytes room ∷ calls) = logs (note l (frame bytes room)) calls
logs l (report ∷ calls) = logs l calls
logs l (corner own samples ∷ calls) = logs (note l (corner own samples)) calls
logs l (probe elec r integrity ∷ calls) = logs (note l (probe elec r integrity)) calls ∙ by (is_beyond r)
  where
    by : (b : Bool) → noted (cond b l (note_sample l elec (temp_of r) integrity)) (as_readings calls) ≡ noted l (cond b [] (reading elec (temp_of r) integrity ∷ []) ++ as_readings calls)
    by true = refl
    by false = refl

snapshots : (l : Log) (z : Option ℤ) (calls : List Call) → shots l z calls ≡ shots l z (as_readings calls)
snapshots l z [] = refl
snapshots l z (reading elec temp integrity ∷ calls) = snapshots (note l (reading elec temp integrity)) z calls
snapshots l z (frame bytes room ∷ calls) = snapshots (note l (frame bytes room)) (shot l z (frame bytes room)) calls
snapshots l z (report ∷ calls) = snapshots l z calls
snapshots l z (corner own samples ∷ calls) = snapshots (note l (corner own samples)) z calls
snapshots l z (probe elec r integrity ∷ calls) = snapshots (note l (probe elec r integrity)) z calls ∙ by (is_beyond r)
  where
    by : (b : Bool) → shots (cond b l (note_sample l elec (temp_of r) integrity)) z (as_readings calls) ≡ shots l z (cond b [] (reading elec (temp_of r) integrity ∷ []) ++ as_readings calls)
    by true = refl
    by false = refl

pub probes : Probes
probes = record { refused = refused; otherwise = otherwise; bad = is-bad; lists = lists; logs = logs; snapshots = snapshots }
