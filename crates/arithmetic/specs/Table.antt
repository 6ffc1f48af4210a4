-- Interpolation over a table of points (01, "The reading", step 2), the same for CTO, CTG and CLK: "Between neighbouring
-- points: v1 + round((v2 − v1) × (t − t1) ÷ (t2 − t1)). Outside the points the end value is kept."
use Rattle.std.specs.Prelude.{cond, List, [], ◌∷◌, ℕ, ℤ, pos, ◌+ℤ◌, ◌-ℤ◌, ◌*ℤ◌, get_or}
use Rattle.std.specs.Int.Signed.{le_z}
use Rattle.arithmetic.specs.Round.{round_div}
use Rattle.arithmetic.specs.Fraction.{Fraction, whole, ◌≤?◌, ◌+F◌, ◌-F◌, ◌*F◌, ◌/F◌}

-- a point is a row of figures: column 0 its place, the others its values
abbrev pub Point : Type 0
Point = List ℤ

abbrev pub column : ℕ → Point → ℤ
column j p = get_or p j (pos 0)

abbrev pub place : Point → ℤ
place p = column 0 p

-- ---- to a whole number

-- v1 + round((v2 − v1) × (t − t1) ÷ (t2 − t1))
abbrev pub line : ℤ → ℤ → ℤ → ℤ → ℤ → ℤ
line t₁ v₁ t₂ v₂ t = v₁ +ℤ round_div ((v₂ -ℤ v₁) *ℤ (t -ℤ t₁)) (t₂ -ℤ t₁)

-- column j between the neighbours p and q
unfoldable pub between : ℕ → Point → Point → ℤ → ℤ
between j p q t = line (place p) (column j p) (place q) (column j q) t

-- column j of the table at t (a table without points, which no sheet has, is 0)
unfoldable pub interpolated : ℕ → List Point → ℤ → ℤ
interpolated j [] t = pos 0
interpolated j (p ∷ []) t = column j p
interpolated j (p ∷ (q ∷ rest)) t =
    cond (le_z t (place p)) (column j p)
    (cond (le_z t (place q)) (between j p q t)
    (interpolated j (q ∷ rest) t))

-- ---- exactly, at a fraction: the same with no rounding

unfoldable pub between_f : ℕ → Point → Point → Fraction → Fraction
between_f j p q t = whole (column j p) +F whole (column j q -ℤ column j p) *F (t -F whole (place p)) /F (place q -ℤ place p)

unfoldable pub interpolated_f : ℕ → List Point → Fraction → Fraction
interpolated_f j [] t = whole (pos 0)
interpolated_f j (p ∷ []) t = whole (column j p)
interpolated_f j (p ∷ (q ∷ rest)) t =
    cond (t ≤? place p) (whole (column j p))
    (cond (t ≤? place q) (between_f j p q t)
    (interpolated_f j (q ∷ rest) t))
