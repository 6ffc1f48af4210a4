-- The platinum table (02, Change 8): "A table of 201 entries, one for each °C from −50 to 150, holds the resistance by IEC 60751."
use Rattle.std.specs.Prelude.{List, [], ◌∷◌, ℕ, zero, suc, ◌^◌, ℤ, pos, negsuc, neg_ℤ, ◌+ℤ◌, ◌-ℤ◌, ◌*ℤ◌}
use Rattle.arithmetic.specs.Round.{round_div}
use Rattle.arithmetic.specs.Table.{Point}

-- "In units of 10^−13 ohm that is 10^15 + 3,908,300,000,000 × t − 577,500,000 × t²": at t ÷ u °C, in such units ÷ u⁴. The table has u = 1.
abbrev pub quadratic : ℤ → ℤ → ℤ
quadratic u t = pos (10 ^ 15) *ℤ (u *ℤ u *ℤ u *ℤ u) +ℤ pos 3908300000000 *ℤ t *ℤ (u *ℤ u *ℤ u) -ℤ pos 577500000 *ℤ (t *ℤ t) *ℤ (u *ℤ u)

-- "and below 0 °C also − 4,183 × (t − 100) × t³"
abbrev pub fourth_power : ℤ → ℤ → ℤ
fourth_power u t = pos 4183 *ℤ (t -ℤ pos 100 *ℤ u) *ℤ (t *ℤ t *ℤ t)

abbrev pub below_zero : ℤ → ℤ → ℤ
below_zero u (pos n) = pos 0
below_zero u (negsuc n) = fourth_power u (negsuc n)

unfoldable pub formula : ℤ → ℤ → ℤ
formula u t = quadratic u t -ℤ below_zero u t

-- "each entry is rounded to 0.0001 ohm": 10^9 units
unfoldable pub entry : ℤ → ℤ
entry t = round_div (formula (pos 1) t) (pos (10 ^ 9))

-- the steps of 1 °C
abbrev pub degree : ℤ
degree = pos 65536

-- a resistance, and its TEMP
abbrev pub point : ℤ → Point
point t = entry t ∷ (t *ℤ degree) ∷ []

-- n points, one for each °C from t on
abbrev pub points : ℕ → ℤ → List Point
points zero t = []
points (suc n) t = point t ∷ points n (t +ℤ pos 1)

unfoldable pub platinum : List Point
platinum = points 201 (neg_ℤ (pos 50))
