-- What a table of points may keep (01, "The calibration sheet").
use Rattle.std.specs.Prelude.{List, [], ◌∷◌, ℕ, ◌*◌, ◌≤◌, nat_abs, ◌-ℤ◌, ◌<ℤ◌}
use Rattle.integers.specs.Within.{◌within◌}
use Rattle.arithmetic.specs.Table.{Point, column, place}

-- P holds of each point
abbrev pub Each : (Point → Type 0) → List Point → Type 0
Each P [] = Unit
Each P (p ∷ rest) = P p × Each P rest

-- R holds between neighbours
abbrev pub Neighbours : (Point → Point → Type 0) → List Point → Type 0
Neighbours R [] = Unit
Neighbours R (p ∷ []) = Unit
Neighbours R (p ∷ (q ∷ rest)) = R p q × Neighbours R (q ∷ rest)

-- the places rise strictly
abbrev pub Rising : List Point → Type 0
Rising = Neighbours (λ p q. place p <ℤ place q)

-- 4 × the change of column j is at most the change of the place, signs ignored
abbrev pub Gentle : ℕ → List Point → Type 0
Gentle j = Neighbours (λ p q. 4 * nat_abs (column j q -ℤ column j p) ≤ nat_abs (place q -ℤ place p))

-- column j is within ±n
abbrev pub ColumnWithin : ℕ → ℕ → List Point → Type 0
ColumnWithin j n = Each (λ p. column j p within n)
