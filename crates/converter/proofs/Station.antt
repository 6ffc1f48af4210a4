-- A device keeps the station that it was made with, which is never 0; so a record of zeros is no device. Assumes nothing.
use mathlib.Core.Path.{◌≡◌, refl, sym, ap, ◌∙◌, subst}
use mathlib.Core.Bool.{Bool, true, false, cond}
use mathlib.Core.List.{List, [], ◌∷◌}
use Prim.Native.Nat.{ℕ}
use lib.IntN.{ℤ}
use lib.Dec.{eqb}
use Rattle.integers.proofs.Order.{is_true, pick}
use Rattle.register.specs.Number.{SZ, APPLY, RST}
use Rattle.probe.specs.Probe.{is_beyond, temp_of}
use Rattle.modbus.specs.Frame.{judged}
use Rattle.modbus.specs.Judgement.{Frame, Refused, Read, Write, Act}
use Rattle.panel.specs.Figure.{is_figure}
use Rattle.in_force.specs.InForce.{copy_fits, applied, setup_written, setup_acted, setup_by}
use Rattle.state.specs.Reading.{bad_reading}
use Rattle.in_force.specs.declared.Setup.{Setup}
use Rattle.converter.specs.Making.{station_fits, no_device, made}
use Rattle.converter.specs.Corner.{at, corner_refused}
use Rattle.converter.specs.Call.{Call, reading, frame, report, corner, probe, after_reading, after_sample, after_call, run}
use Rattle.converter.specs.declared.corner.Sample.{Sample}
use Rattle.converter.specs.Reached.{Reached}
use Rattle.converter.specs.declared.Device.{Device}
use Rattle.converter.proofs.Made.{making-accepted}

by-station : (s : Setup) (f : Frame) → (setup_by s f).station ≡ s.station
unfolding setup_by setup_written setup_acted applied
by-station s (Refused n) = refl
by-station s (Read r) = refl
by-station s (Write r x) = pick (eqb r SZ) _ _ (λ (t : Setup). t.station ≡ s.station) (λ h. refl) (λ h. pick (is_figure r) _ _ (λ (t : Setup). t.station ≡ s.station) (λ g. refl) (λ g. refl))
by-station s (Act r) =
    pick (eqb r APPLY) _ _ (λ (t : Setup). t.station ≡ s.station) (λ h. pick (copy_fits s) _ _ (λ (t : Setup). t.station ≡ s.station) (λ g. refl) (λ g. refl))
    (λ h. pick (eqb r RST) _ _ (λ (t : Setup). t.station ≡ s.station) (λ g. refl) (λ g. refl))

read-or-not : (d : Device) (refused : Bool) (elec temp : ℤ) (integrity : ℕ) → (cond refused d (after_reading d elec temp integrity)).setup.station ≡ d.setup.station
read-or-not d true elec temp integrity = refl
read-or-not d false elec temp integrity = refl

step-station : (d : Device) (c : Call) → (after_call d c).setup.station ≡ d.setup.station
step-station d (reading elec temp integrity) = read-or-not d (bad_reading elec temp integrity) elec temp integrity
step-station d (frame bytes room) = by-station d.setup (judged bytes room d.setup.station)
step-station d report = refl
step-station d (corner own samples) = let x : Sample = at samples own in read-or-not d (corner_refused samples) x.elec x.temp x.integrity
step-station d (probe elec resistance integrity) =
    let temp : ℤ = temp_of resistance in
    pick (is_beyond resistance) d (after_sample d elec temp integrity) (λ (g : Device). g.setup.station ≡ d.setup.station) (λ e. refl) (λ e. read-or-not d (bad_reading elec temp integrity) elec temp integrity)

run-station : (d : Device) (cs : List Call) → (run d cs).setup.station ≡ d.setup.station
run-station d [] = refl
run-station d (c ∷ cs) = run-station (after_call d c) cs ∙ step-station d c

module _ (sheet : List ℕ) (station : ℕ) (accepted : (made sheet station).number ≡ 0) where
  pub made-station : (calls : List Call) → (run (made sheet station).device calls).setup.station ≡ station
  made-station calls = run-station _ calls ∙ ap (λ (d : Device). d.setup.station) (making-accepted sheet station accepted).starts

  pub some-station : station ≡ 0 → ⊥
  unfolding station_fits
  some-station z = is_true (subst (λ (n : ℕ). station_fits n ≡ true) z (making-accepted sheet station accepted).station-fits)

pub reached-station : {d : Device} → Reached d → d.setup.station ≡ 0 → ⊥
reached-station r z =
    some-station r.sheet r.station r.accepted (sym (ap (λ (d : Device). d.setup.station) r.is ∙ made-station r.sheet r.station r.accepted r.calls) ∙ z)

-- "a refused making gives a record of zeros, which is no device"
pub zeros-not-reached : Reached no_device → ⊥
zeros-not-reached r = reached-station r refl
