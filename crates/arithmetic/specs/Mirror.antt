-- A table for a cell that is pulled, from one for the cell pushed (Change 5: "Pulling as good as pushing"): each place and value with
-- the other sign, so that the points stand in the other order. And where the two give the same but for the sign.
use Rattle.std.specs.Prelude.{◌≡◌, List, [], ◌∷◌, ◌++◌, map, ◌⊎◌, ℤ, pos, neg_ℤ, ◌+ℤ◌, ◌*ℤ◌, ◌≤ℤ◌}
use Rattle.arithmetic.specs.Fraction.{Fraction, whole}
use Rattle.arithmetic.specs.Table.{Point, place, interpolated, interpolated_f}
use Rattle.arithmetic.specs.Keeps.{Neighbours}

abbrev pub opposite : Point → Point
opposite = map neg_ℤ

abbrev pub mirrored : List Point → List Point
mirrored [] = []
mirrored (p ∷ rest) = mirrored rest ++ (opposite p ∷ [])

-- t lies inside no segment: at or outside the points
abbrev pub InNoSegment : ℤ → List Point → Type 0
InNoSegment t = Neighbours (λ p q. (t ≤ℤ place p) ⊎ (place q ≤ℤ t))

-- q lies half-way between `below` and the next whole number
pub record HalfWay (q : Fraction) : Type 0 where
  pub below : ℤ
  pub half : pos 2 *ℤ q.top ≡ (pos 2 *ℤ below +ℤ pos 1) *ℤ q.low

-- ---- the step that is left: a mirror is read from its other end, and each rounds away from the point that it reads from

-- "Points 0→0, 4→10" (01, "Edges")
abbrev pub two_points : List Point
two_points = (pos 0 ∷ pos 0 ∷ []) ∷ (pos 4 ∷ pos 10 ∷ []) ∷ []

-- "at 1 gives 3": 0 and two and a half. Their mirror at −1: −10 and seven and a half.
pub record OneStepApart : Type 0 where
  pub pushed : interpolated 1 two_points (pos 1) ≡ pos 3
  pub pulled : interpolated 1 (mirrored two_points) (neg_ℤ (pos 1)) ≡ neg_ℤ (pos 2)
  pub half_way : HalfWay (interpolated_f 1 two_points (whole (pos 1)))
  -- what is neither: 5, at 2, is whole; a point is inside no segment, and 1 is
  pub not_half_way : HalfWay (interpolated_f 1 two_points (whole (pos 2))) → ⊥
  pub at_the_points : InNoSegment (pos 0) two_points × InNoSegment (pos 4) two_points
  pub inside : InNoSegment (pos 1) two_points → ⊥
