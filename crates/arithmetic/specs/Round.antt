-- Rounding (01, "Steps and rounding"): "round(a ÷ d), d above 0, is the nearest whole number", and Change 5: "Halves shall go away
-- from zero, in round itself".
use Rattle.std.specs.Prelude.{◌≡◌, ℕ, suc, ◌+◌, ◌*◌, ◌/◌, ◌≤◌, ℤ, pos, negsuc, neg_ℤ, nat_abs, ◌-ℤ◌, ◌*ℤ◌}

-- ⌊n ÷ d + 1/2⌋: for a magnitude, away from zero is upwards
unfoldable pub round_magnitude : ℕ → ℕ → ℕ
round_magnitude n d = (2 * n + d) / (2 * d)

-- round(a ÷ d): that of the magnitudes, with the sign of a
unfoldable pub round_div : ℤ → ℤ → ℤ
round_div (pos n) d = pos (round_magnitude n (nat_abs d))
round_div (negsuc n) d = neg_ℤ (pos (round_magnitude (suc n) (nat_abs d)))

-- The same in the papers' words, as a property. For d above 0, `round_div a d` has it, and nothing else does (proofs/Round.antt).
pub record Nearest (a d r : ℤ) : Type 0 where
  -- no whole number s is nearer to a ÷ d than r: distances are multiplied out by d
  pub nearest : (s : ℤ) → nat_abs (r *ℤ d -ℤ a) ≤ nat_abs (s *ℤ d -ℤ a)
  -- and of two that are equally near, r is the one farther from zero
  pub away : (s : ℤ) → nat_abs (s *ℤ d -ℤ a) ≡ nat_abs (r *ℤ d -ℤ a) → nat_abs s ≤ nat_abs r
