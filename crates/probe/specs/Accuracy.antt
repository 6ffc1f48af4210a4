-- How good the probe's TEMP is: how far, in steps, it can lie from the temperature at which the formula has that resistance. The formula
-- rises with the temperature, so that temperature lies between two at which it has less and more.
use Rattle.std.specs.Prelude.{◌≡◌, false, ◌^◌, ℤ, pos, ◌+ℤ◌, ◌-ℤ◌, ◌*ℤ◌, ◌≤ℤ◌, ◌<ℤ◌}
use Rattle.probe.specs.Platinum.{formula, degree}
use Rattle.probe.specs.Probe.{is_beyond, temp_of}

-- a resistance, in the units of `formula degree`: 10^−13 ohm ÷ 65,536⁴
abbrev pub units_of : ℤ → ℤ
units_of resistance = resistance *ℤ pos (10 ^ 9) *ℤ (degree *ℤ degree *ℤ degree *ℤ degree)

-- 12 steps: 0.00018 °C
pub record Close (resistance temp : ℤ) : Type 0 where
  pub below : formula degree (temp -ℤ pos 12) ≤ℤ units_of resistance
  pub above : units_of resistance ≤ℤ formula degree (temp +ℤ pos 12)

pub record Accuracy : Type 0 where
  -- at every fraction of a °C, s ÷ u and t ÷ u, up to 151
  pub rises : (u s t : ℤ) → pos 0 <ℤ u → s <ℤ t → t ≤ℤ (pos 151 *ℤ u) → formula u s <ℤ formula u t
  pub close : (resistance : ℤ) → is_beyond resistance ≡ false → Close resistance (temp_of resistance)
