-- A table and its mirror (Change 5). Between two points they give the same but for the sign, or one step apart where the value lies
-- half-way: each rounds away from the point that it reads from. Of rounding that uses `round-near` alone, and the last part `round-odd`. Assumes
-- nothing.
use mathlib.Core.Path.{◌≡◌, refl, sym, ◌∙◌, ap, subst}
use mathlib.Core.Bool.{Bool, true, false, cond}
use mathlib.Core.List.{List, [], ◌∷◌, ◌++◌, map, append_assoc}
use mathlib.Core.Logic.{◌⊎◌, inl, inr, ⊎_elim}
use Prim.Native.Nat.{ℕ, zero, suc, ◌+◌, ◌*◌, ◌<◌, ◌≤◌}
use native.Mathlib.Omega.{arith}
use native.Mathlib.Nat.{eq-or-lt_of_le, eq-zero-or-pos, lt_of_mul-lt-mul_right, mul-le-mul}
use lib.IntN.{ℤ, pos, negsuc, neg_ℤ, nat_abs, ◌+ℤ◌, ◌-ℤ◌, ◌*ℤ◌, +ℤ_idr, +ℤ_invl, neg_ℤ-+ℤ}
use lib.Signed.{le_z, le_z_yes, ◌≤ℤ◌, ◌<ℤ◌, <ℤ-≤ℤ_trans, clash_ℤ}
use Rattle.integers.specs.Within.{◌within◌}
use Rattle.integers.proofs.Parts.{ints}
use Rattle.integers.proofs.Difference.{⟨◌⟩, nat, minus, ◌⊕◌, ◌⊗◌, le!, lt!, eq!, abs-above, abs-below}
use Rattle.integers.proofs.Order.{pick, le_yes, yes_le, no_le, gap-pos, neg-le, neg-lt, <-≤, ≤-antisym, ≤-or->}
use Rattle.integers.proofs.Magnitude.{abs-mul, abs-pos, abs-sum2}
use Rattle.integers.proofs.Ring.{ring, polynomials}
use Rattle.arithmetic.specs.Round.{round_magnitude, round_div}
use Rattle.arithmetic.specs.Fraction.{whole}
use Rattle.arithmetic.specs.Table.{Point, column, place, line, between, between_f, interpolated, interpolated_f}
use Rattle.arithmetic.specs.Keeps.{Rising, Neighbours, Each, ColumnWithin}
use Rattle.arithmetic.specs.Mirror.{opposite, mirrored, InNoSegment, HalfWay, OneStepApart}
use Rattle.arithmetic.proofs.Round.{round-near, round-odd}
use Rattle.arithmetic.proofs.Near.{one-pos}
use Rattle.arithmetic.proofs.Exact.{exact_above, exact-small}
use Rattle.arithmetic.proofs.Table.{between-at}
use Rattle.arithmetic.proofs.Segment.{at_first}

-- ---- a point

pub column-opposite : (j : ℕ) (p : Point) → column j (opposite p) ≡ neg_ℤ (column j p)
column-opposite j [] = refl
column-opposite zero (v ∷ rest) = refl
column-opposite (suc j) (v ∷ rest) = column-opposite j rest

opposite-lt : (p q : Point) → place p <ℤ place q → place (opposite q) <ℤ place (opposite p)
opposite-lt p q l = rw (column-opposite 0 p, column-opposite 0 q) (neg-lt l)

-- ---- neighbours, from the other end

grown : (S : Point → Point → Type 0) (table : List Point) (q p : Point) → Neighbours S (table ++ (q ∷ [])) → S q p → Neighbours S (table ++ (q ∷ (p ∷ [])))
grown S [] q p h s = (s, tt)
grown S (a ∷ []) q p h s = (h.0, (s, tt))
grown S (a ∷ (b ∷ rest)) q p h s = (h.0, grown S (b ∷ rest) q p h.1 s)

-- the first two, as the mirror has them: its last two
last-two : (p q : Point) (rest : List Point) → mirrored (p ∷ (q ∷ rest)) ≡ mirrored rest ++ (opposite q ∷ (opposite p ∷ []))
last-two p q rest = append_assoc (mirrored rest) (opposite q ∷ []) (opposite p ∷ [])

pub mirrored-neighbours : (R S : Point → Point → Type 0) → ((p q : Point) → R p q → S (opposite q) (opposite p)) → (table : List Point) → Neighbours R table → Neighbours S (mirrored table)
mirrored-neighbours R S f [] h = tt
mirrored-neighbours R S f (p ∷ []) h = tt
mirrored-neighbours R S f (p ∷ (q ∷ rest)) h =
    subst (Neighbours S) (sym (last-two p q rest)) (grown S (mirrored rest) (opposite q) (opposite p) (mirrored-neighbours R S f (q ∷ rest) h.1) (f p q h.0))

pub mirrored-rising : (table : List Point) → Rising table → Rising (mirrored table)
mirrored-rising = mirrored-neighbours (λ p q. place p <ℤ place q) (λ p q. place p <ℤ place q) opposite-lt

pub mirrored-each : (Q P : Point → Type 0) → ((p : Point) → Q p → P (opposite p)) → (table : List Point) → Each Q table → Each P (mirrored table)
mirrored-each Q P f [] h = tt
mirrored-each Q P f (p ∷ rest) h = append (mirrored rest) (mirrored-each Q P f rest h.1) (f p h.0)
  where
    append : (table : List Point) {q : Point} → Each P table → P q → Each P (table ++ (q ∷ []))
    append [] e k = (k, tt)
    append (a ∷ table) e k = (e.0, append table e.1 k)

-- ---- a table that goes on by one point: past the last but one, the line to it or its own value

ahead : (a : Point) (table : List Point) (q p : Point) → Rising (a ∷ (table ++ (q ∷ (p ∷ [])))) → place a <ℤ place q
ahead a [] q p h = h.0
ahead a (b ∷ table) q p h = <ℤ-≤ℤ_trans h.0 (<-≤ (ahead b table q p h.1))

module _ (j : ℕ) (t : ℤ) where
  abbrev beyond : Point → Point → ℤ
  beyond q p = cond (le_z t (place p)) (between j q p t) (column j p)

  before_last : (table : List Point) (q p : Point) → t ≤ℤ place q → interpolated j (table ++ (q ∷ (p ∷ []))) t ≡ interpolated j (table ++ (q ∷ [])) t
  unfolding interpolated
  before_last [] q p l = rw (yes_le l)
  before_last (a ∷ []) q p l = rw (yes_le l)
  before_last (a ∷ (b ∷ rest)) q p l = rw (before_last (b ∷ rest) q p l)

  past-last-but-one : (table : List Point) (q p : Point) → Rising (table ++ (q ∷ (p ∷ []))) → place q <ℤ t → interpolated j (table ++ (q ∷ (p ∷ []))) t ≡ beyond q p
  unfolding interpolated
  past-last-but-one [] q p h l = rw (no_le l)
  past-last-but-one (a ∷ []) q p h l = rw (no_le (<ℤ-≤ℤ_trans h.0 (<-≤ l)), no_le l)
  past-last-but-one (a ∷ (b ∷ rest)) q p h l =
      rw (no_le (<ℤ-≤ℤ_trans (ahead a (b ∷ rest) q p h) (<-≤ l)), no_le (<ℤ-≤ℤ_trans (ahead b rest q p h.1) (<-≤ l))) (past-last-but-one (b ∷ rest) q p h.1 l)

-- at the last point and past it
at-end : (j : ℕ) (t : ℤ) (q p : Point) → place q <ℤ place p → place p ≤ℤ t → beyond j t q p ≡ column j p
at-end j t q p h l =
    pick (le_z t (place p)) (between j q p t) (column j p) (λ v. v ≡ column j p)
    (λ e. subst (λ (z : ℤ). between j q p z ≡ column j p) (≤-antisym l (le_yes e)) (between-at j q p h))
    (λ e. refl)

in-first : (j : ℕ) (t : ℤ) (p q : Point) (rest : List Point) → place p <ℤ t → t ≤ℤ place q → interpolated j (p ∷ (q ∷ rest)) t ≡ between j p q t
unfolding interpolated
in-first j t p q rest l u = rw (no_le l, yes_le u)

-- from the second point on, the first says nothing
dropped : (j : ℕ) (t : ℤ) (p q : Point) (rest : List Point) → place p <ℤ place q → place q ≤ℤ t → interpolated j (p ∷ (q ∷ rest)) t ≡ interpolated j (q ∷ rest) t
unfolding interpolated
dropped j t p q rest h l = rw (no_le (<ℤ-≤ℤ_trans h l))
    (pick (le_z t (place q)) (between j p q t) (interpolated j (q ∷ rest) t) (λ v. v ≡ interpolated j (q ∷ rest) t)
    (λ e. subst (λ (z : ℤ). between j p q z ≡ column j q) (≤-antisym l (le_yes e)) (between-at j p q h) ∙ sym (at_first j (q ∷ rest) t e))
    (λ e. refl))

-- ---- a table and its mirror, by what holds of the two values in the segment that t lies in

abbrev Reads : (Point → Point → Type 0) → ℤ → List Point → Type 0
Reads S t [] = Unit
Reads S t (p ∷ []) = Unit
Reads S t (p ∷ (q ∷ rest)) = (place p <ℤ t → t <ℤ place q → S p q) × (place q <ℤ t → Reads S t (q ∷ rest))

module _ (j : ℕ) (t : ℤ) (R : ℤ → ℤ → Type 0) (kept : (v : ℤ) → R (neg_ℤ v) v) where
  abbrev Segments : List Point → Type 0
  Segments = Reads (λ p q. R (between j (opposite q) (opposite p) (neg_ℤ t)) (between j p q t)) t

  abbrev Holds : List Point → Type 0
  Holds table = R (interpolated j (mirrored table) (neg_ℤ t)) (interpolated j table t)

  -- past the last but one of the mirror, and there the first two of the table
  module _ (p q : Point) (rest : List Point) (h : Rising (p ∷ (q ∷ rest))) where
    past : t <ℤ place q → interpolated j (mirrored (p ∷ (q ∷ rest))) (neg_ℤ t) ≡ beyond j (neg_ℤ t) (opposite q) (opposite p)
    past l =
        ap (λ (table : List Point). interpolated j table (neg_ℤ t)) (last-two p q rest)
        ∙ past-last-but-one j (neg_ℤ t) (mirrored rest) (opposite q) (opposite p) (subst Rising (last-two p q rest) (mirrored-rising (p ∷ (q ∷ rest)) h)) (rw (column-opposite 0 q) (neg-lt l))

    holds-before : t ≤ℤ place p → Holds (p ∷ (q ∷ rest))
    holds-before l =
        let e = past (lt! ⟨ t ⟩ ⟨ place q ⟩ (omega (ints, l, h.0))) ∙ at-end j (neg_ℤ t) (opposite q) (opposite p) (opposite-lt p q h.0) (rw (column-opposite 0 p) (neg-le l)) ∙ column-opposite j p in
        rw (e, at_first j (p ∷ (q ∷ rest)) t (yes_le l)) (kept (column j p))

    holds-inside : place p <ℤ t → t <ℤ place q → R (between j (opposite q) (opposite p) (neg_ℤ t)) (between j p q t) → Holds (p ∷ (q ∷ rest))
    holds-inside l u r =
        let upto : le_z (neg_ℤ t) (place (opposite p)) ≡ true = rw (column-opposite 0 p) (yes_le (<-≤ (neg-lt l))) in
        let e = past u ∙ ap (λ (b : Bool). cond b (between j (opposite q) (opposite p) (neg_ℤ t)) (column j (opposite p))) upto in
        rw (e, in-first j t p q rest l (<-≤ u)) r

    holds_after : place q ≤ℤ t → Holds (q ∷ rest) → Holds (p ∷ (q ∷ rest))
    holds_after l r =
        let e = ap (λ (table : List Point). interpolated j table (neg_ℤ t)) (last-two p q rest) ∙ before_last j (neg_ℤ t) (mirrored rest) (opposite q) (opposite p) (rw (column-opposite 0 q) (neg-le l)) in
        rw (e, dropped j t p q rest h.0 l) r

  holds-first : (p : Point) (rest : List Point) → Rising (p ∷ rest) → t ≤ℤ place p → Holds (p ∷ rest)
  unfolding interpolated
  holds-first p [] h l = rw (column-opposite j p) (kept (column j p))
  holds-first p (q ∷ rest) h l = holds-before p q rest h l

  holds : (p : Point) (rest : List Point) → Rising (p ∷ rest) → Segments (p ∷ rest) → Holds (p ∷ rest)
  unfolding interpolated
  holds p [] h s = rw (column-opposite j p) (kept (column j p))
  holds p (q ∷ rest) h s =
      ⊎_elim (λ l. holds-before p q rest h l)
      (λ l. ⊎_elim (λ u. holds_after p q rest h u (⊎_elim (λ e. holds-first q rest h.1 e) (λ g. holds q rest h.1 (s.1 g)) (≤-or-> t (place q))))
      (λ u. holds-inside p q rest h l u (s.0 l u))
      (≤-or-> (place q) t))
      (≤-or-> t (place p))

opposed : (x y : ℤ) → nat_abs (x +ℤ y) < 1 → x ≡ neg_ℤ y
opposed x y l = eq! ⟨ x ⟩ (minus ⟨ y ⟩) (omega (arith, abs-above (⟨ x ⟩ ⊕ ⟨ y ⟩), abs-below (⟨ x ⟩ ⊕ ⟨ y ⟩)))

-- ---- in a segment, from (t₁, v₁) to (t₂, v₂): both values round the same two distances, which together are v₂ − v₁

module _ (t₁ v₁ t₂ v₂ t : ℤ) (h : t₁ <ℤ t₂) where
  abbrev a : ℤ
  a = (v₂ -ℤ v₁) *ℤ (t -ℤ t₁)

  abbrev w : ℤ
  w = t₂ -ℤ t₁

  abbrev pulled : ℤ
  pulled = line (neg_ℤ t₂) (neg_ℤ v₂) (neg_ℤ t₁) (neg_ℤ v₁) (neg_ℤ t)

  abbrev sum : ℤ
  sum = pulled +ℤ line t₁ v₁ t₂ v₂ t

  sum-at-most : nat_abs sum * nat_abs w * 2 ≤ 2 * nat_abs (round_div a w *ℤ w -ℤ a) + nat_abs w
  sum-at-most =
      let b = (neg_ℤ v₁ -ℤ neg_ℤ v₂) *ℤ (neg_ℤ t -ℤ neg_ℤ t₂) in
      let x = neg_ℤ t₁ -ℤ neg_ℤ t₂ in
      let s = simp abs-mul at (abs-sum2 (round_div a w *ℤ w -ℤ a) (round_div b x *ℤ x -ℤ b) (split t₁ v₁ t₂ v₂ t (round_div a w) (round_div b x))) in
      omega (arith, s, round-near b x (gap-pos (neg-lt h)), ap nat_abs (width t₁ t₂))
    where
      width : (t₁ t₂ : ℤ) → neg_ℤ t₁ -ℤ neg_ℤ t₂ ≡ t₂ -ℤ t₁
      width t₁ t₂ = ring (t₁ ∷ t₂ ∷ []) (search polynomials depth 20 fits 9000) refl

      split : (t₁ v₁ t₂ v₂ t r s : ℤ) → ((neg_ℤ v₂ +ℤ s) +ℤ (v₁ +ℤ r)) *ℤ (t₂ -ℤ t₁) ≡ (r *ℤ (t₂ -ℤ t₁) -ℤ (v₂ -ℤ v₁) *ℤ (t -ℤ t₁)) +ℤ (s *ℤ (neg_ℤ t₁ -ℤ neg_ℤ t₂) -ℤ (neg_ℤ v₁ -ℤ neg_ℤ v₂) *ℤ (neg_ℤ t -ℤ neg_ℤ t₂))
      split t₁ v₁ t₂ v₂ t r s = ring (t₁ ∷ v₁ ∷ t₂ ∷ v₂ ∷ t ∷ r ∷ s ∷ []) (search polynomials depth 20 fits 9000) refl

  line-near : sum within 1
  line-near = record { abs = below (lt_of_mul-lt-mul_right (nat_abs w) (omega (arith, sum-at-most, round-near a w (gap-pos h), abs-pos (gap-pos h)))) }
    where
      below : {n : ℕ} → n < 2 → n ≤ 1
      below l = omega arith

  line-exact : 2 * nat_abs (round_div a w *ℤ w -ℤ a) < nat_abs w → pulled ≡ neg_ℤ (line t₁ v₁ t₂ v₂ t)
  line-exact l = opposed pulled (line t₁ v₁ t₂ v₂ t) (lt_of_mul-lt-mul_right (nat_abs w) (omega (arith, sum-at-most)))

-- ---- what lies as far from its rounded value as it can is a half

module _ (j : ℕ) (p q : Point) (t : ℤ) (h : place p <ℤ place q) where
  abbrev rise : ℤ
  rise = (column j q -ℤ column j p) *ℤ (t -ℤ place p)

  abbrev width : ℤ
  width = place q -ℤ place p

  abbrev off : ℤ
  off = round_div rise width *ℤ width -ℤ rise

  -- it is (2k + 1) halves, for k = v + r + s
  halves : (s : ℤ) → pos 2 *ℤ off +ℤ (pos 2 *ℤ s +ℤ pos 1) *ℤ width ≡ pos 0 → HalfWay (between_f j p q (whole t))
  unfolding between_f
  halves s e = record {
    below = column j p +ℤ round_div rise width +ℤ s;
    half = less_none (counted (column j p) (round_div rise width) s width (column j q -ℤ column j p) t (place p)) e;
  }
    where
      less_none : {x y z : ℤ} → x ≡ y -ℤ z → z ≡ pos 0 → x ≡ y
      less_none {y} e n = e ∙ ap (λ (z : ℤ). y -ℤ z) n ∙ +ℤ_idr y

      counted : (v r s w d x y : ℤ) → pos 2 *ℤ (v *ℤ (pos 1 *ℤ (pos 1 *ℤ pos 1) *ℤ w) +ℤ d *ℤ (x *ℤ pos 1 -ℤ y *ℤ pos 1) *ℤ pos 1)
          ≡ (pos 2 *ℤ (v +ℤ r +ℤ s) +ℤ pos 1) *ℤ (pos 1 *ℤ (pos 1 *ℤ (pos 1 *ℤ pos 1) *ℤ w)) -ℤ (pos 2 *ℤ (r *ℤ w -ℤ d *ℤ (x -ℤ y)) +ℤ (pos 2 *ℤ s +ℤ pos 1) *ℤ w)
      counted v r s w d x y = ring (v ∷ r ∷ s ∷ w ∷ d ∷ x ∷ y ∷ []) (search polynomials depth 20 fits 9000) refl

  half_way : 2 * nat_abs off ≡ nat_abs width → HalfWay (between_f j p q (whole t))
  half_way e = ⊎_elim (halves (neg_ℤ (pos 1))) (halves (pos 0)) (either off width (gap-pos h) e)
    where
      either : (x w : ℤ) → pos 0 <ℤ w → 2 * nat_abs x ≡ nat_abs w → (pos 2 *ℤ x +ℤ (pos 2 *ℤ neg_ℤ (pos 1) +ℤ pos 1) *ℤ w ≡ pos 0) ⊎ (pos 2 *ℤ x +ℤ (pos 2 *ℤ pos 0 +ℤ pos 1) *ℤ w ≡ pos 0)
      either (pos n) (pos m) l e = inl (eq! (nat 2 ⊗ nat n ⊕ (nat 2 ⊗ minus (nat 1) ⊕ nat 1) ⊗ nat m) (nat 0) (omega (arith, e)))
      either (negsuc n) (pos m) l e = inr (eq! (nat 2 ⊗ ⟨ negsuc n ⟩ ⊕ (nat 2 ⊗ nat 0 ⊕ nat 1) ⊗ nat m) (nat 0) (omega (arith, e)))
      either x (negsuc m) l e = absurd l.lt

  -- so what is no half is nearer
  nearer : (HalfWay (between_f j p q (whole t)) → ⊥) → 2 * nat_abs off < nat_abs width
  nearer k = ⊎_elim (λ e. absurd (k (half_way e))) (λ l. l) (eq-or-lt_of_le (round-near rise width (gap-pos h)))

-- ---- the laws

-- the mirror's line, in the table's own figures
opposite-line : (j : ℕ) (p q : Point) (t : ℤ) → between j (opposite q) (opposite p) (neg_ℤ t) ≡ line (neg_ℤ (place q)) (neg_ℤ (column j q)) (neg_ℤ (place p)) (neg_ℤ (column j p)) (neg_ℤ t)
unfolding between
opposite-line j p q t = rw (column-opposite 0 p, column-opposite 0 q, column-opposite j p, column-opposite j q)

-- the tests of the exact interpolant, at a whole number
above : {x y : ℤ} → x <ℤ y → le_z y (x *ℤ pos 1) ≡ false
above {x} {y} l = no_le (lt! (⟨ x ⟩ ⊗ nat 1) ⟨ y ⟩ (omega (ints, l)))

is_not_above : {x y : ℤ} → y <ℤ x → le_z y (x *ℤ pos 1) ≡ true
is_not_above {x} {y} l = yes_le (le! ⟨ y ⟩ (⟨ x ⟩ ⊗ nat 1) (omega (ints, l)))

module _ (j : ℕ) (t : ℤ) where
  abbrev Opposed : ℤ → ℤ → Type 0
  Opposed x y = x ≡ neg_ℤ y

  abbrev OneStep : ℤ → ℤ → Type 0
  OneStep x y = (x +ℤ y) within 1

  no_step : (v : ℤ) → OneStep (neg_ℤ v) v
  no_step v = rw (+ℤ_invl v) (record { abs = omega arith })

  -- one step at most
  pub mirrored-near : (table : List Point) → Rising table → OneStep (interpolated j (mirrored table) (neg_ℤ t)) (interpolated j table t)
  unfolding between interpolated
  mirrored-near [] h = no_step (pos 0)
  mirrored-near (p ∷ rest) h = holds j t OneStep no_step p rest h (each (p ∷ rest) h)
    where
      each : (table : List Point) → Rising table → Segments j t OneStep no_step table
      each [] h = tt
      each (p ∷ []) h = tt
      each (p ∷ (q ∷ rest)) h = (λ l u. rw (opposite-line j p q t) (line-near (place p) (column j p) (place q) (column j q) t h.0), λ u. each (q ∷ rest) h.1)

  -- exactly, where the exact value is no half
  pub mirrored-exact : (table : List Point) → Rising table → (HalfWay (interpolated_f j table (whole t)) → ⊥) → Opposed (interpolated j (mirrored table) (neg_ℤ t)) (interpolated j table t)
  unfolding between interpolated interpolated_f
  mirrored-exact [] h k = refl
  mirrored-exact (p ∷ rest) h k = holds j t Opposed (λ v. refl) p rest h (each p rest h k)
    where
      each : (p : Point) (rest : List Point) → Rising (p ∷ rest) → (HalfWay (interpolated_f j (p ∷ rest) (whole t)) → ⊥) → Segments j t Opposed (λ v. refl) (p ∷ rest)
      each p [] h k = tt
      each p (q ∷ rest) h k = (
        λ l u. rw (opposite-line j p q t)
            (line-exact (place p) (column j p) (place q) (column j q) t h.0 (nearer j p q t h.0 (rw (above l, is_not_above u) at k))),
        λ u. each q rest h.1 (rw (above (<ℤ-≤ℤ_trans h.0 (<-≤ u)), above u) at k),
      )

  -- and inside no segment
  pub mirrored-beside : (table : List Point) → Rising table → InNoSegment t table → Opposed (interpolated j (mirrored table) (neg_ℤ t)) (interpolated j table t)
  unfolding interpolated
  mirrored-beside [] h b = refl
  mirrored-beside (p ∷ rest) h b = holds j t Opposed (λ v. refl) p rest h (each (p ∷ rest) b)
    where
      each : (table : List Point) → InNoSegment t table → Segments j t Opposed (λ v. refl) table
      each [] b = tt
      each (p ∷ []) b = tt
      each (p ∷ (q ∷ rest)) b = (λ l u. ⊎_elim (λ e. clash_ℤ l e) (λ e. clash_ℤ u e) b.0, λ u. each (q ∷ rest) b.1)

-- where every value is 0, so is the exact one, which is no half
pub none-no-half : (j : ℕ) (table : List Point) (t : ℤ) → Rising table → ColumnWithin j 0 table → HalfWay (interpolated_f j table (whole t)) → ⊥
none-no-half j table t h z k =
    let q = interpolated_f j table (whole t) in
    let e = simp abs-mul at (ap nat_abs k.half) in
    omega (arith, e, (exact-small j table (whole t) z).small, mul-le-mul (odd k.below) (abs-pos (exact_above j table (whole t) one-pos h)))
  where
    odd : (b : ℤ) → 1 ≤ nat_abs (pos 2 *ℤ b +ℤ pos 1)
    odd b = ⊎_elim (λ e. absurd (omega (arith, e, abs-above (nat 2 ⊗ ⟨ b ⟩ ⊕ nat 1), abs-below (nat 2 ⊗ ⟨ b ⟩ ⊕ nat 1)))) (λ l. l) (eq-zero-or-pos (nat_abs (pos 2 *ℤ b +ℤ pos 1)))

pub one-step-apart : OneStepApart
unfolding round_div round_magnitude between between_f interpolated interpolated_f
one-step-apart = record {
  pushed = refl;
  pulled = refl;
  half_way = record { below = pos 2; half = refl };
  not_half_way = λ k. even k.below k.half;
  at_the_points = ((inl (le_z_yes tt), tt), (inr (le_z_yes tt), tt));
  inside = λ b. ⊎_elim (λ l. absurd l.le) (λ l. absurd l.le) b.0;
}
  where
    even : (b : ℤ) → pos 40 ≡ (pos 2 *ℤ b +ℤ pos 1) *ℤ pos 4 → ⊥
    even b e = omega (ints, e, ((nat 2 ⊗ ⟨ b ⟩ ⊕ nat 1) ⊗ nat 4).is)

-- ---- the same points with one value of the other sign: CTO, whose place is a temperature

pub odd-cond : (b : Bool) (x y : ℤ) {u v : ℤ} → u ≡ neg_ℤ x → v ≡ neg_ℤ y → cond b u v ≡ neg_ℤ (cond b x y)
odd-cond true x y d e = d
odd-cond false x y d e = e

module _ (j : ℕ) (f : Point → Point) (places : (p : Point) → place (f p) ≡ place p) where
  odd-between : (p q : Point) (t : ℤ) → column j (f p) ≡ neg_ℤ (column j p) → column j (f q) ≡ neg_ℤ (column j q) → between j (f p) (f q) t ≡ neg_ℤ (between j p q t)
  unfolding between
  odd-between p q t a b = rw (places p, places q, a, b, turned (column j p) (column j q) t (place p))
      (ap (λ (r : ℤ). neg_ℤ (column j p) +ℤ r) (round-odd ((column j q -ℤ column j p) *ℤ (t -ℤ place p)) (place q -ℤ place p)) ∙ sym (neg_ℤ-+ℤ (column j p) _))
    where
      turned : (v w t x : ℤ) → (neg_ℤ w -ℤ neg_ℤ v) *ℤ (t -ℤ x) ≡ neg_ℤ ((w -ℤ v) *ℤ (t -ℤ x))
      turned v w t x = ring (v ∷ w ∷ t ∷ x ∷ []) (search polynomials depth 20 fits 9000) refl

  pub odd-column : ((p : Point) → column j (f p) ≡ neg_ℤ (column j p)) → (table : List Point) (t : ℤ) → interpolated j (map f table) t ≡ neg_ℤ (interpolated j table t)
  unfolding interpolated
  odd-column odd [] t = refl
  odd-column odd (p ∷ []) t = odd p
  odd-column odd (p ∷ (q ∷ rest)) t = rw (places p, places q)
      (odd-cond (le_z t (place p)) (column j p) (cond (le_z t (place q)) (between j p q t) (interpolated j (q ∷ rest) t)) (odd p)
      (odd-cond (le_z t (place q)) (between j p q t) (interpolated j (q ∷ rest) t) (odd-between p q t (odd p) (odd q)) (odd-column odd (q ∷ rest) t)))

  pub same-column : ((p : Point) → column j (f p) ≡ column j p) → (table : List Point) (t : ℤ) → interpolated j (map f table) t ≡ interpolated j table t
  unfolding interpolated between
  same-column same [] t = refl
  same-column same (p ∷ []) t = same p
  same-column same (p ∷ (q ∷ rest)) t = rw (places p, places q, same p, same q, same-column same (q ∷ rest) t)

-- what each point and each two neighbours keep
pub each-mapped : (Q P : Point → Type 0) (f : Point → Point) → ((p : Point) → Q p → P (f p)) → (table : List Point) → Each Q table → Each P (map f table)
each-mapped Q P f k [] h = tt
each-mapped Q P f k (p ∷ rest) h = (k p h.0, each-mapped Q P f k rest h.1)

pub neighbours-mapped : (R S : Point → Point → Type 0) (f : Point → Point) → ((p q : Point) → R p q → S (f p) (f q)) → (table : List Point) → Neighbours R table → Neighbours S (map f table)
neighbours-mapped R S f k [] h = tt
neighbours-mapped R S f k (p ∷ []) h = tt
neighbours-mapped R S f k (p ∷ (q ∷ rest)) h = (k p q h.0, neighbours-mapped R S f k (q ∷ rest) h.1)
