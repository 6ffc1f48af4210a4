-- A table of points and its bytes: each gives the other back, unused points 0. Assumes nothing.
use Rattle.std.proofs.Common.{◌≡◌, ℕ, zero, suc, ◌+◌, ◌*◌, ◌<◌, ◌≤◌, min, Bool, true, false, ltb, ◌⊎◌, List, [], ◌∷◌, ◌++◌, length, get_or, drop, replicate, sym, refl, ap, ◌∙◌, inl, inr, ⊎_elim, append_assoc, eq-or-lt_of_le, mul-zero, mul-suc, arith, length-set, get_or-set_other, get_or-set_same, ext_get_or, ltb-false, ltb-true}
use lib.ListN.{length-replicate}
use Rattle.figures.specs.Unused.{used}
use Rattle.sheet.specs.Read.{points_at}
use Rattle.sheet.specs.Write.{points_bytes}

past-or-before : (n i : ℕ) → (n ≤ i) ⊎ (i < n)
past-or-before n i = by (ltb i n) refl
  where
    by : (t : Bool) → ltb i n ≡ t → (n ≤ i) ⊎ (i < n)
    by true e = inr (ltb-true i n e)
    by false e = inl (ltb-false i n e)

module _ {A : Type 0} (none : A) where
  all_none : (n i : ℕ) → get_or (replicate n none) i none ≡ none
  all_none zero i = refl
  all_none (suc n) zero = refl
  all_none (suc n) (suc i) = all_none n i

  -- ---- the first n, the others 0

  pub used-length : (n : ℕ) (ps : List A) → length (used none n ps) ≡ length ps
  used-length zero [] = refl
  used-length (suc n) [] = refl
  used-length zero (p ∷ ps) = ap suc (used-length zero ps)
  used-length (suc n) (p ∷ ps) = ap suc (used-length n ps)

  pub used-at : (n : ℕ) (ps : List A) (i : ℕ) → i < n → get_or (used none n ps) i none ≡ get_or ps i none
  used-at zero ps i h = absurd (omega arith)
  used-at (suc n) [] i h = refl
  used-at (suc n) (p ∷ ps) zero h = refl
  used-at (suc n) (p ∷ ps) (suc i) h = used-at n ps i (omega arith)

  pub used-past : (n : ℕ) (ps : List A) (i : ℕ) → n ≤ i → get_or (used none n ps) i none ≡ none
  used-past zero [] i h = refl
  used-past (suc n) [] i h = refl
  used-past zero (p ∷ ps) zero h = refl
  used-past zero (p ∷ ps) (suc i) h = used-past zero ps i (omega arith)
  used-past (suc n) (p ∷ ps) zero h = absurd (omega arith)
  used-past (suc n) (p ∷ ps) (suc i) h = used-past n ps i (omega arith)

  -- ---- what is read

  module _ (point_at : List ℕ → ℕ → A) (size cap : ℕ) (s : List ℕ) (at : ℕ) where
    pub points-length : (n : ℕ) → length (points_at none point_at size cap s at n) ≡ cap
    points-length zero = length-replicate cap none
    points-length (suc n) = length-set (points_at none point_at size cap s at n) n _ ∙ points-length n

    pub points-at : (n i : ℕ) → n ≤ cap → i < n → get_or (points_at none point_at size cap s at n) i none ≡ point_at s (at + size * i)
    points-at zero i l k = absurd (omega arith)
    points-at (suc n) i l k =
        let m : i ≤ n = omega arith in
        ⊎_elim (λ q. rw q (get_or-set_same (points_at none point_at size cap s at n) n _ none (rw points-length (omega arith))))
        (λ q. get_or-set_other (points_at none point_at size cap s at n) n i _ none (λ z. omega arith) ∙ points-at n i (omega arith) q) (eq-or-lt_of_le m)

    pub points-past : (n i : ℕ) → n ≤ i → get_or (points_at none point_at size cap s at n) i none ≡ none
    points-past zero i l = all_none cap i
    points-past (suc n) i l = get_or-set_other (points_at none point_at size cap s at n) n i _ none (λ z. omega arith) ∙ points-past n i (omega arith)

    -- the points of a list are read, if its first n stand there
    pub points-are : (n : ℕ) (ps : List A) → length ps ≡ cap → ((i : ℕ) → i < n → point_at s (at + size * i) ≡ get_or ps i none) → points_at none point_at size cap s at (min n cap) ≡ used none n ps
    points-are n ps e f =
        ext_get_or none _ _ (points-length (min n cap) ∙ sym (used-length n ps ∙ e))
        (λ i k. let l : i < cap = rw points-length at k in
        ⊎_elim (λ q. points-past (min n cap) i (omega arith) ∙ sym (used-past n ps i q)) (λ q. points-at (min n cap) i (omega arith) (omega arith) ∙ f i q ∙ sym (used-at n ps i q)) (past-or-before n i))

    -- what is read has no points past the count
    pub points-used : (n : ℕ) → used none n (points_at none point_at size cap s at (min n cap)) ≡ points_at none point_at size cap s at (min n cap)
    points-used n =
        let ps = points_at none point_at size cap s at (min n cap) in
        ext_get_or none _ _ (used-length n ps)
        (λ i k. ⊎_elim (λ q. used-past n ps i q ∙ sym (points-past (min n cap) i (omega arith))) (λ q. used-at n ps i q) (past-or-before n i))

  -- ---- the bytes

  module _ (point_at : List ℕ → ℕ → A) (point_bytes : A → List ℕ) (size : ℕ) (s : List ℕ) (at : ℕ) (ps : List A) where
    pub points-glue : (n : ℕ) {rest : List ℕ} → ((p q : ℕ) (r : List ℕ) → q ≡ p + size → q ≤ length s → drop q s ≡ r → drop p s ≡ point_bytes (point_at s p) ++ r)
        → ((i : ℕ) → i < n → get_or ps i none ≡ point_at s (at + size * i)) → at + size * n ≤ length s → drop (at + size * n) s ≡ rest → drop at s ≡ points_bytes none point_bytes ps n ++ rest
    points-glue zero {rest} g f l r = let e : at + size * 0 ≡ at = omega (arith, mul-zero size) in rw e at r
    points-glue (suc n) {rest} g f l r =
        let e : at + size * suc n ≡ at + size * n + size = omega (arith, mul-suc size n) in
        let h = g (at + size * n) (at + size * suc n) rest e l r in
        let k = rw (← f n (omega arith)) at h in
        points-glue n g (λ i z. f i (omega arith)) (omega arith) k ∙ sym (append_assoc (points_bytes none point_bytes ps n) (point_bytes (get_or ps n none)) rest)

    pub record PointsCut (n : ℕ) (rest : List ℕ) : Type 0 where
      pub is : (i : ℕ) → i < n → point_at s (at + size * i) ≡ get_or ps i none
      pub next : drop (at + size * n) s ≡ rest
      pub there : at + size * n ≤ length s

    pub points-cut : (Fits : A → Type 0) (n : ℕ) (rest : List ℕ)
        → ((p q : ℕ) (a : A) (r : List ℕ) → q ≡ p + size → Fits a → drop p s ≡ point_bytes a ++ r → (point_at s p ≡ a) × (drop q s ≡ r) × (q ≤ length s))
        → at ≤ length s → ((i : ℕ) → i < n → Fits (get_or ps i none)) → drop at s ≡ points_bytes none point_bytes ps n ++ rest → PointsCut n rest
    points-cut Fits zero rest g l f r = record { is = λ i z. absurd (omega arith); next = let e : at + size * 0 ≡ at = omega (arith, mul-zero size) in rw e r; there = omega (arith, mul-zero size) }
    points-cut Fits (suc n) rest g l f r =
        let ih = points-cut Fits n (point_bytes (get_or ps n none) ++ rest) g l (λ i z. f i (omega arith)) (r ∙ append_assoc (points_bytes none point_bytes ps n) (point_bytes (get_or ps n none)) rest) in
        let e : at + size * suc n ≡ at + size * n + size = omega (arith, mul-suc size n) in
        let h = g (at + size * n) (at + size * suc n) (get_or ps n none) rest e (f n (omega arith)) ih.next in
        record { is = λ i z. let m : i ≤ n = omega arith in ⊎_elim (λ q. rw q h.0) (λ q. ih.is i q) (eq-or-lt_of_le m); next = h.1; there = h.2 }
