-- Change 8 once more, as properties: the formula by the standard's own figures, the table by what "fits" means, TEMP by step 2's rule and by
-- what users count on, and 20 by its two numbers. The definitions of `Platinum.antt` and `Probe.antt` have them (proofs/Pt100.antt).
use Rattle.std.specs.Prelude.{◌≡◌, true, false, [], ◌↔◌, ℕ, suc, ◌<◌, ◌^◌, ℤ, pos, neg_ℤ, ◌-ℤ◌, ◌*ℤ◌, length, get_or, ◌≤ℤ◌, ◌<ℤ◌}
use Rattle.arithmetic.specs.Round.{Nearest}
use Rattle.arithmetic.specs.Fraction.{Fraction, ◌over◌, whole, ◌+F◌, ◌-F◌, ◌*F◌}
use Rattle.arithmetic.specs.Table.{place}
use Rattle.probe.specs.Platinum.{formula, platinum}
use Rattle.probe.specs.Probe.{is_beyond, temp_of}

-- ---- "the resistance by IEC 60751": 100 ohm × (1 + A t + B t² + C (t − 100) t³), the last term below 0 °C alone

-- A = 3.9083 × 10^−3, B = −5.775 × 10^−7, C = −4.183 × 10^−12
abbrev pub above : Fraction → Fraction
above t = whole (pos 100) *F (whole (pos 1) +F (pos 39083 over pos (10 ^ 7)) *F t -F (pos 5775 over pos (10 ^ 10)) *F (t *F t))

abbrev pub below : Fraction → Fraction
below t = above t -F whole (pos 100) *F ((pos 4183 over pos (10 ^ 15)) *F ((t -F whole (pos 100)) *F (t *F t *F t)))

-- units of 10^−13 ohm ÷ u⁴ are these ohms, multiplied out
abbrev pub Measures : ℤ → ℤ → Fraction → Type 0
Measures u units ohms = units *ℤ ohms.low ≡ ohms.top *ℤ (pos (10 ^ 13) *ℤ (u *ℤ u *ℤ u *ℤ u))

-- ---- "A table of 201 entries, one for each °C from −50 to 150"

-- the °C of the entry at k
abbrev pub celsius : ℕ → ℤ
celsius k = pos k -ℤ pos 50

-- its resistance
abbrev pub resistance_at : ℕ → ℤ
resistance_at k = place (get_or platinum k [])

-- "every entry fits the formula", "rounded to 0.0001 ohm", "and is above the one before"
pub record Table : Type 0 where
  pub count : length platinum ≡ 201
  pub fits : (k : ℕ) → k < 201 → Nearest (formula (pos 1) (celsius k)) (pos 1000000000) (resistance_at k)
  pub rises : (k : ℕ) → suc k < 201 → resistance_at k <ℤ resistance_at (suc k)

-- ---- TEMP, of any resistance

pub record Temp : Type 0 where
  -- at an entry that °C, exactly
  pub at_entry : (k : ℕ) → k < 201 → temp_of (resistance_at k) ≡ celsius k *ℤ pos 65536
  -- between entries, "to a step, by step 2's rule": v2 − v1 is 65,536
  pub between : (k : ℕ) (r : ℤ) → suc k < 201 → resistance_at k <ℤ r → r ≤ℤ resistance_at (suc k) → Nearest (pos 65536 *ℤ (r -ℤ resistance_at k)) (resistance_at (suc k) -ℤ resistance_at k) (temp_of r -ℤ celsius k *ℤ pos 65536)
  pub never_falls : (r s : ℤ) → r ≤ℤ s → temp_of r ≤ℤ temp_of s
  -- −50 to 150 °C
  pub least : (r : ℤ) → neg_ℤ (pos 3276800) ≤ℤ temp_of r
  pub most : (r : ℤ) → temp_of r ≤ℤ pos 9830400

-- ---- 20: "when the resistance is below 803,063 or above 1,573,251"

pub data Beyond (r : ℤ) : Type 0 where
  too_low : r <ℤ pos 803063 → Beyond r
  too_high : pos 1573251 <ℤ r → Beyond r

-- at its limits it is taken
pub record InRange (r : ℤ) : Type 0 where
  pub least : pos 803063 ≤ℤ r
  pub most : r ≤ℤ pos 1573251

pub record Pt100 : Type 0 where
  pub at_zero_and_above : (u t : ℤ) → pos 0 ≤ℤ t → Measures u (formula u t) (above (t over u))
  pub under_zero : (u t : ℤ) → t <ℤ pos 0 → Measures u (formula u t) (below (t over u))
  pub table : Table
  pub temp : Temp
  pub refused : (r : ℤ) → (is_beyond r ≡ true) ↔ Beyond r
  pub taken : (r : ℤ) → (is_beyond r ≡ false) ↔ InRange r
