-- What is judged point by point, as a fact of a table's rows. Assumes nothing.
use Rattle.std.proofs.Common.{◌≡◌, ℕ, zero, suc, ◌<◌, ◌≤◌, List, [], ◌∷◌, map, length, get_or, take, sym, refl, ap, ◌∙◌, subst, ⊎_elim, eq-or-lt_of_le, arith, length-take-le, get_or-take}
use Rattle.arithmetic.specs.Table.{Point}
use Rattle.arithmetic.specs.Keeps.{Neighbours, Each}
use Rattle.sheet.specs.Judge.{points_number}
use Rattle.sheet.proofs.Chain.{then-none, both}

-- ---- points without fault

pub points-each : (number : ℕ → ℕ) (n : ℕ) → points_number number n ≡ 0 → (i : ℕ) → i < n → number i ≡ 0
points-each number zero h i l = absurd (omega arith)
points-each number (suc n) h i l =
    let e = then-none {a = points_number number n} h in
    let m : i ≤ n = omega arith in
    ⊎_elim (λ q. rw q e.1) (λ q. points-each number n e.0 i q) (eq-or-lt_of_le m)

pub each-points : (number : ℕ → ℕ) (n : ℕ) → ((i : ℕ) → i < n → number i ≡ 0) → points_number number n ≡ 0
each-points number zero h = refl
each-points number (suc n) h = both (each-points number n (λ i l. h i (omega arith))) (h n (omega arith))

-- ---- a list's elements and neighbours, by index

each_at : (P : Point → Type 0) (l : List Point) → ((i : ℕ) → i < length l → P (get_or l i [])) → Each P l
each_at P [] h = tt
each_at P (p ∷ l) h = (h 0 (omega arith), each_at P l (λ i k. h (suc i) (omega arith)))

at_each : (P : Point → Type 0) (l : List Point) → Each P l → (i : ℕ) → i < length l → P (get_or l i [])
at_each P [] h i k = absurd (omega arith)
at_each P (p ∷ l) h zero k = h.0
at_each P (p ∷ l) h (suc i) k = at_each P l h.1 i (omega arith)

neighbours_at : (R : Point → Point → Type 0) (l : List Point) → ((i : ℕ) → suc i < length l → R (get_or l i []) (get_or l (suc i) [])) → Neighbours R l
neighbours_at R [] h = tt
neighbours_at R (p ∷ []) h = tt
neighbours_at R (p ∷ (q ∷ l)) h = (h 0 (omega arith), neighbours_at R (q ∷ l) (λ i k. h (suc i) (omega arith)))

at-neighbours : (R : Point → Point → Type 0) (l : List Point) → Neighbours R l → (i : ℕ) → suc i < length l → R (get_or l i []) (get_or l (suc i) [])
at-neighbours R [] h i k = absurd (omega arith)
at-neighbours R (p ∷ []) h i k = absurd (omega arith)
at-neighbours R (p ∷ (q ∷ l)) h zero k = h.0
at-neighbours R (p ∷ (q ∷ l)) h (suc i) k = at-neighbours R (q ∷ l) h.1 i (omega arith)

-- ---- the first n of a list, as rows

length-map : {A : Type 0} (row : A → Point) (ps : List A) → length (map row ps) ≡ length ps
length-map row [] = refl
length-map row (p ∷ ps) = ap suc (length-map row ps)

get_d_map : {A : Type 0} (none : A) (row : A → Point) (ps : List A) (i : ℕ) → i < length ps → get_or (map row ps) i [] ≡ row (get_or ps i none)
get_d_map none row [] i h = absurd (omega arith)
get_d_map none row (p ∷ ps) zero h = refl
get_d_map none row (p ∷ ps) (suc i) h = get_d_map none row ps i (omega arith)

module _ {A : Type 0} (none : A) (row : A → Point) (ps : List A) (n : ℕ) (enough : n ≤ length ps) where
  many : length (take n (map row ps)) ≡ n
  many = length-take-le n (map row ps) (rw length-map enough)

  row_at : (i : ℕ) → i < n → get_or (take n (map row ps)) i [] ≡ row (get_or ps i none)
  row_at i h = get_or-take n (map row ps) i [] h ∙ get_d_map none row ps i (omega arith)

  pub each_row : (P : Point → Type 0) → ((i : ℕ) → i < n → P (row (get_or ps i none))) → Each P (take n (map row ps))
  each_row P h = each_at P (take n (map row ps)) (λ i l. let k : i < n = rw many at l in subst P (sym (row_at i k)) (h i k))

  pub row-each : (P : Point → Type 0) → Each P (take n (map row ps)) → (i : ℕ) → i < n → P (row (get_or ps i none))
  row-each P h i l = subst P (row_at i l) (at_each P (take n (map row ps)) h i (rw many l))

  pub next_row : (R : Point → Point → Type 0) → ((i : ℕ) → suc i < n → R (row (get_or ps i none)) (row (get_or ps (suc i) none))) → Neighbours R (take n (map row ps))
  next_row R h = neighbours_at R (take n (map row ps)) (λ i l. let k : suc i < n = rw many at l in rw (row_at i (omega arith), row_at (suc i) k) (h i k))

  pub row_next : (R : Point → Point → Type 0) → Neighbours R (take n (map row ps)) → (i : ℕ) → suc i < n → R (row (get_or ps i none)) (row (get_or ps (suc i) none))
  row_next R h i l = rw (row_at i (omega arith), row_at (suc i) l) at (at-neighbours R (take n (map row ps)) h i (rw many l))
