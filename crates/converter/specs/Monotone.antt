-- "More load, more weight" (Change 14) over whole histories: two readings, of one device or of two, after any calls on either, by the same
-- figures and at one temperature. `Monotone` of `compensation` has it for the steps of a reading; here it is of what devices keep, and of
-- the floats that a batching program reads of them.
use Rattle.std.specs.Prelude.{◌≡◌, List, [], ◌∷◌, ◌⊎◌, ℕ, T, Float, ℤ, pos, ◌≤ℤ◌}
use Rattle.std.proofs.Math.Option.{some}
use Rattle.std.specs.Float.{binary32}
use Rattle.std.specs.Float.Ieee.{fits, le}
use Rattle.figures.specs.declared.Calibration.{Calibration}
use Rattle.probe.specs.Probe.{temp_of}
use Rattle.compensation.specs.Monotone.{NoneBelow, OneBelow, BothBelow, FollowsElec}
use Rattle.converter.specs.Corner.{Corner, at}
use Rattle.converter.specs.Call.{reading, corner, probe, after_call, number}
use Rattle.converter.specs.Reached.{Reached}
use Rattle.converter.specs.Wire.{Sends}
use Rattle.converter.specs.Log.{Kept, latest, log_of}
use Rattle.converter.specs.declared.Device.{Device}
use Rattle.converter.specs.declared.corner.Samples.{Samples}

-- ---- the last reading of a device, as the log of its calls keeps it: by the figures c, from the input ELEC `elec`, at `temp`

pub record LastReading (d : Device) (c : Calibration) (elec temp : ℤ) : Type 0 where
  pub reached : Reached d
  pub kept : Kept
  pub is_last : latest (log_of reached.sheet reached.station reached.calls).readings ≡ some kept
  pub figures_are : kept.figures ≡ c
  pub elec_is : kept.input ≡ elec
  pub temp_is : kept.temp ≡ temp

-- an accepted reading, of each kind, is the last one
pub record BecomesLast (d : Device) : Type 0 where
  pub by_temp : (elec temp : ℤ) (integrity : ℕ) → let call = reading elec temp integrity in number d call ≡ 0 → LastReading (after_call d call) d.setup.figures elec temp
  pub by_probe : (elec resistance : ℤ) (integrity : ℕ) → let call = probe elec resistance integrity in number d call ≡ 0 → LastReading (after_call d call) d.setup.figures elec (temp_of resistance)
  pub by_corner : (own : Corner) (samples : Samples) → let call = corner own samples in number d call ≡ 0 → LastReading (after_call d call) d.setup.figures (at samples own).elec (at samples own).temp

-- ---- what is read of two devices

-- a master reads a float of register n from d, and one that is no smaller from e: by IEEE 754's `<=`. An f32 is told by its bytes.
pub record InOrder (d e : Device) (n : ℕ) : Type 0 where
  pub lesser : Float
  pub larger : Float
  pub lesser_fits : T (fits binary32 lesser)
  pub larger_fits : T (fits binary32 larger)
  pub lesser_sent : Sends d n lesser
  pub larger_sent : Sends e n larger
  pub ordered : T (le lesser larger)

-- of each of these registers
abbrev pub AllInOrder : Device → Device → List ℕ → Type 0
AllInOrder d e [] = Unit
AllInOrder d e (n ∷ rest) = InOrder d e n × AllInOrder d e rest

-- "SOUT 9 and SYS 10 (equal), .. SRAW 12, CELL 13, .. CRAW 15"
abbrev pub of_sys : List ℕ
of_sys = 9 ∷ 10 ∷ []

abbrev pub of_weight : List ℕ
of_weight = 9 ∷ 10 ∷ 12 ∷ 13 ∷ 15 ∷ []

-- d after a reading of a smaller ELEC, or the same, and e after one of a larger
pub record DevicesFollow (c : Calibration) (d e : Device) : Type 0 where
  pub values : FollowsElec c d.state.readings.values e.state.readings.values
  pub none_below : NoneBelow c → AllInOrder d e of_weight
  pub one_below : OneBelow c → AllInOrder e d of_sys
  pub both_below : BothBelow c → AllInOrder d e of_sys

-- ---- all of it

-- "the filter off": "FFLV or FFST 0" (01, step 1)
abbrev pub FilterOff : Calibration → Type 0
FilterOff c = (c.filter.fflv ≡ pos 0) ⊎ (c.filter.ffst ≡ pos 0)

pub record MoreLoad : Type 0 where
  pub becomes_last : (d : Device) → Reached d → BecomesLast d
  -- whatever calls came since the two readings, as long as they are the last
  pub follows : (c : Calibration) (d e : Device) (low high temp : ℤ) → FilterOff c → LastReading d c low temp → LastReading e c high temp → low ≤ℤ high → DevicesFollow c d e
  -- with the filter on, by ELEC as it is held, which register 16 shows
  pub follows_held : (c : Calibration) (d e : Device) (low high temp : ℤ) → LastReading d c low temp → LastReading e c high temp
      → d.state.readings.elec ≤ℤ e.state.readings.elec → DevicesFollow c d e
