-- Change 8 once more, as properties: "A second reading call takes resistance .. in place of TEMP, and is otherwise a reading, in demand 3's
-- lists too". 20 and the reading's TEMP are held to the paper's numbers by `Pt100` (`probe`), and `Accuracy` says how good that TEMP is.
use Rattle.std.specs.Prelude.{◌≡◌, cond, List, [], ◌∷◌, ◌++◌, ◌↔◌, ℕ, ◌<◌, ℤ, pos, neg_ℤ, ◌<ℤ◌}
use Rattle.std.proofs.Math.Option.{Option}
use Rattle.probe.specs.Probe.{is_beyond, temp_of}
use Rattle.probe.specs.Pt100.{Beyond, InRange}
use Rattle.converter.specs.Call.{Call, reading, frame, report, corner, probe, after_call, run, number}
use Rattle.converter.specs.Log.{Log, note, noted}
use Rattle.converter.specs.Corners.{Same}
use Rattle.converter.specs.Snapshot.{shots}
use Rattle.converter.specs.declared.Device.{Device}

-- 9 where TEMP is in range: "ELEC beyond ±19,660,800, .. or integrity byte above 1"
pub data BadBesideTemp (elec : ℤ) (integrity : ℕ) : Type 0 where
  elec_under : elec <ℤ neg_ℤ (pos 19660800) → BadBesideTemp elec integrity
  elec_over : pos 19660800 <ℤ elec → BadBesideTemp elec integrity
  integrity_over : 1 < integrity → BadBesideTemp elec integrity

-- the calls with a reading of its TEMP for each probe that 20 does not turn down, and nothing for one that it does
abbrev pub as_reading : Call → List Call
as_reading (probe elec resistance integrity) = cond (is_beyond resistance) [] (reading elec (temp_of resistance) integrity ∷ [])
as_reading (reading elec temp integrity) = reading elec temp integrity ∷ []
as_reading (frame bytes room) = frame bytes room ∷ []
as_reading report = report ∷ []
as_reading (corner own samples) = corner own samples ∷ []

abbrev pub as_readings : List Call → List Call
as_readings [] = []
as_readings (c ∷ calls) = as_reading c ++ as_readings calls

pub record Probes : Type 0 where
  -- "(Number 20, probe, before 9 ..)": whatever ELEC and integrity byte; neither device nor log takes it
  pub refused : (elec r : ℤ) (integrity : ℕ) → Beyond r
      → ((x : Device) → (after_call x (probe elec r integrity) ≡ x) × (number x (probe elec r integrity) ≡ 20)) × ((l : Log) → note l (probe elec r integrity) ≡ l)
  pub otherwise : (elec r : ℤ) (integrity : ℕ) → InRange r → Same (probe elec r integrity) (reading elec (temp_of r) integrity)
  -- so 9 is never for TEMP
  pub bad : (elec r : ℤ) (integrity : ℕ) → InRange r → (x : Device) → (number x (probe elec r integrity) ≡ 9) ↔ BadBesideTemp elec integrity
  -- "in demand 3's lists too": any list is one of readings, for the device, the log and SYSN
  pub lists : (x : Device) (calls : List Call) → run x calls ≡ run x (as_readings calls)
  pub logs : (l : Log) (calls : List Call) → noted l calls ≡ noted l (as_readings calls)
  pub snapshots : (l : Log) (sysn : Option ℤ) (calls : List Call) → shots l sysn calls ≡ shots l sysn (as_readings calls)
