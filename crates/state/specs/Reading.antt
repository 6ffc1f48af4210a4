-- A reading (01, "The reading"): when it is turned down, and what it makes of a device's state.
use Rattle.std.specs.Prelude.{Bool, true, cond, ◌||◌, ℕ, ltb, ℤ, pos, neg_ℤ}
use Rattle.std.proofs.Math.Option.{Option, none, some}
use Rattle.std.specs.Int.Bits.{bit_or}
use Rattle.std.specs.Int.Signed.{lt_z}
use Rattle.figures.specs.declared.Calibration.{Calibration}
use Rattle.compensation.specs.ReadingLimits.{elec_most, temp_most}
use Rattle.compensation.specs.Filter.{Remembered, remembered}
use Rattle.compensation.specs.Values.{values_of}
use Rattle.compensation.specs.declared.steps.Values.{Values}
use Rattle.state.specs.declared.Readings.{Readings}
use Rattle.state.specs.declared.State.{State}

-- 9: "ELEC beyond ±19,660,800, TEMP beyond ±13,107,200, or integrity byte above 1"

unfoldable pub outside : ℤ → ℤ → ℤ → Bool
outside least most v = lt_z v least || lt_z most v

abbrev pub beyond : ℕ → ℤ → Bool
beyond most v = outside (neg_ℤ (pos most)) (pos most) v

unfoldable pub bad_reading : ℤ → ℤ → ℕ → Bool
bad_reading elec temp integrity = beyond elec_most elec || (beyond temp_most temp || ltb 1 integrity)

-- 6. "PEAK and TROF are the largest and smallest SYS since the first reading after a start or RST, or since a peak reset"

unfoldable pub larger : ℤ → ℤ → ℤ
larger a b = cond (lt_z a b) b a

unfoldable pub smaller : ℤ → ℤ → ℤ
smaller a b = cond (lt_z b a) b a

unfoldable pub peak_after : Readings → Values → ℤ
peak_after r v = cond r.any (larger r.peak v.sys) v.sys

unfoldable pub trof_after : Readings → Values → ℤ
trof_after r v = cond r.any (smaller r.trof v.sys) v.sys

unfoldable pub readings_after : Readings → Remembered → ℤ → Values → Readings
readings_after r m temp v = record { any = true; input = m.input; elec = m.held; temp = temp; values = v; peak = peak_after r v; trof = trof_after r v }

-- what the readings remember for step 1: nothing before the first
abbrev pub remembered_of : Readings → Option Remembered
remembered_of r = cond r.any (some (record { input = r.input; held = r.elec })) none

-- 6, by the values of the reading; "A reading raises its STAT bits in FLAG"
unfoldable pub state_after_values : State → Remembered → ℤ → Values → State
state_after_values s m temp v = record { readings = readings_after s.readings m temp v; flag = bit_or s.flag v.stat; snapshot = s.snapshot }

-- 1 to 6, by the figures c in force
unfoldable pub state_after_reading : Calibration → State → ℤ → ℤ → ℕ → State
state_after_reading c s input temp integrity =
    let m : Remembered = remembered c.filter (remembered_of s.readings) input in
    state_after_values s m temp (values_of c m.held temp integrity)
