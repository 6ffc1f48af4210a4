-- The probe's reading (02, Change 8).
use Rattle.std.specs.Prelude.{Bool, ◌||◌, ℤ, pos}
use Rattle.std.specs.Int.Signed.{lt_z}
use Rattle.arithmetic.specs.Table.{interpolated}
use Rattle.probe.specs.Platinum.{platinum}

-- 20: "when the resistance is below 803,063 or above 1,573,251"
unfoldable pub is_beyond : ℤ → Bool
is_beyond resistance = lt_z resistance (pos 803063) || lt_z (pos 1573251) resistance

-- "TEMP is interpolated between entries, to a step, by step 2's rule"
unfoldable pub temp_of : ℤ → ℤ
temp_of resistance = interpolated 1 platinum resistance
