-- Demand 3, the theorem `history`: after any list of calls the device agrees with the log. Assumes nothing.
use mathlib.Core.Path.{◌≡◌, refl, sym, ◌∙◌, subst}
use mathlib.Core.Bool.{false}
use mathlib.Core.Option.{Option, none, some}
use lib.IntN.{ℤ}
use Rattle.converter.specs.Making.{made}
use Rattle.converter.specs.Call.{run}
use Rattle.converter.specs.Reached.{Reached}
use Rattle.converter.specs.Log.{Kept, Log, log_of}
use Rattle.converter.specs.Snapshot.{sysn_of}
use Rattle.converter.specs.History.{Right, NoneShown, Shown, Agrees, History}
use Rattle.converter.specs.declared.Device.{Device}
use Rattle.converter.proofs.Station.{made-station, some-station}
use Rattle.converter.proofs.History.{Follows, tracks}
use Rattle.converter.proofs.Reached.{log-of}
use Rattle.converter.proofs.Snapshot.{snapshots}
use Rattle.converter.proofs.Writes.{writes}
use Rattle.converter.proofs.Shown.{always_shown, none-shown, shown}

pub history : History
history sheet station h calls =
    let t = tracks sheet station h calls in record {
      station_is = own;
      in_force = t.setup_is;
      latched = t.latched;
      always_shown = always_shown d to_one l _ t.setup_is (snapshots sheet station h calls);
      none_kept = λ e. unkept (rw e at t.tells.follows);
      last_kept = λ k e. kept k (rw e at t.tells.follows);
      writes_heeded = writes (record { sheet = sheet; station = station; accepted = h; calls = calls; is = refl });
    }
  where
    d : Device
    d = run (made sheet station).device calls

    l : Log
    l = log_of sheet station calls

    own : d.setup.station ≡ station
    own = made-station sheet station h calls

    to_one : d.setup.station ≡ 0 → ⊥
    to_one e = some-station sheet station h (sym own ∙ e)

    unkept : Follows d.state.readings l.readings none → (d.state.readings.any ≡ false) × NoneShown d
    unkept f = (f.0, none-shown d to_one f.0)

    kept : (k : Kept) → Follows d.state.readings l.readings (some k) → Right d.state.readings l.readings k × Shown d k
    kept k f = (f, shown d to_one l.readings k f)

-- of a device by the calls that gave it
abbrev pub sysn-of : {d : Device} → Reached d → Option ℤ
sysn-of r = sysn_of r.sheet r.station r.calls

pub reached-agrees : {d : Device} (r : Reached d) → Agrees d r.station (log-of r) (sysn-of r)
reached-agrees r = subst (λ (x : Device). Agrees x r.station (log-of r) (sysn-of r)) (sym r.is) (history r.sheet r.station r.accepted r.calls)
