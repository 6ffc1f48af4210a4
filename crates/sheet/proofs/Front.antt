-- The first points of a table: judged by themselves they are judged as in the whole table, and where they are read nothing else
-- changes. Assumes nothing.
use Rattle.std.proofs.Common.{◌≡◌, ℕ, zero, suc, ◌+◌, ◌-◌, ◌*◌, ◌<◌, ◌≤◌, List, ◌++◌, length, set, take, drop, replicate, sym, refl, ap, ap₂, subst, ◌∙◌, arith, length-take-le}
use Rattle.std.proofs.lemmas.List.{get_or-take, replicate-append-replicate, set-append_left, drop-replicate, take-replicate, length-replicate}
use Rattle.figures.specs.Unused.{no_linearity, no_temperature}
use Rattle.figures.specs.declared.TemperaturePoint.{TemperaturePoint}
use Rattle.figures.specs.declared.LinearityPoint.{LinearityPoint}
use Rattle.sheet.specs.Judge.{points_number, not_below, too_steep, against, temperature_point_number, linearity_point_number}
use Rattle.sheet.specs.Read.{points_at}
use Rattle.sheet.proofs.Points.{points-length}
use Rattle.sheet.proofs.Whole.{points-cong}

against-front : {A : Type 0} (none : A) (number : A → A → ℕ) (ps : List A) (n i : ℕ) → i < n → against none number (take n ps) i ≡ against none number ps i
against-front none number ps n zero h = refl
against-front none number ps n (suc i) h = let l : i < n = omega arith in rw (get_or-take n ps i none l, get_or-take n ps (suc i) none h)

module _ (short : ℕ → ℕ) (at n : ℕ) where
  pub temperature-front : (ps : List TemperaturePoint) → n ≤ length ps → points_number (λ i. temperature_point_number short (at + 24 * i) (take n ps) i) (length (take n ps)) ≡ points_number (λ i. temperature_point_number short (at + 24 * i) ps i) n
  unfolding temperature_point_number
  temperature-front ps h = rw (length-take-le n ps h) (points-cong n (λ i l. rw (get_or-take n ps i no_temperature l, against-front no_temperature _ ps n i l)))

  pub linearity-front : (ps : List LinearityPoint) → n ≤ length ps → points_number (λ i. linearity_point_number short (at + 16 * i) (take n ps) i) (length (take n ps)) ≡ points_number (λ i. linearity_point_number short (at + 16 * i) ps i) n
  unfolding linearity_point_number
  linearity-front ps h = rw (length-take-le n ps h) (points-cong n (λ i l. rw (get_or-take n ps i no_linearity l, against-front no_linearity (λ p q. not_below 4 p.clx q.clx) ps n i l, against-front no_linearity too_steep ps n i l)))

-- ---- reading

module _ {A : Type 0} (none : A) (point_at : List ℕ → ℕ → A) (size : ℕ) (s : List ℕ) (at : ℕ) where
  read-front : (n rest i : ℕ) → i ≤ n → points_at none point_at size n s at i ++ replicate rest none ≡ points_at none point_at size (n + rest) s at i
  read-front n rest zero h = replicate-append-replicate n rest none
  read-front n rest (suc i) h =
      let l : i < length (points_at none point_at size n s at i) = rw points-length (omega arith) in
      sym (set-append_left (points_at none point_at size n s at i) (replicate rest none) i (point_at s (at + size * i)) l) ∙ ap (λ (ps : List A). set ps i (point_at s (at + size * i))) (read-front n rest i (omega arith))

  -- the first n points of a table of `cap`, in which nothing stands yet, and the table once they are read
  pub front-unused : (cap n : ℕ) → n ≤ cap → (length (take n (replicate cap none)) ≡ n) × (take n (replicate cap none) ≡ replicate (length (take n (replicate cap none))) none)
  front-unused cap n h =
      let l : length (take n (replicate cap none)) ≡ n = length-take-le n (replicate cap none) (simp length-replicate h) in
      (l, take-replicate n cap none h ∙ ap (λ (k : ℕ). replicate k none) (sym l))

  pub table-read : (cap n : ℕ) {front : List A} → n ≤ cap → front ≡ points_at none point_at size (length (take n (replicate cap none))) s at (length (take n (replicate cap none)))
      → front ++ drop n (replicate cap none) ≡ points_at none point_at size cap s at n
  table-read cap n {front} h f =
      let e : n + (cap - n) ≡ cap = omega arith in
      let is : front ≡ points_at none point_at size n s at n = subst (λ (k : ℕ). front ≡ points_at none point_at size k s at k) (front-unused cap n h).0 f in
      ap₂ ◌++◌ is (drop-replicate n cap none) ∙ read-front n (cap - n) n (omega arith) ∙ ap (λ (k : ℕ). points_at none point_at size k s at n) e
