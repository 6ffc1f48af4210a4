-- The exact interpolant has a slope of at most 1/4 over the whole line, where every segment has: by recursion over the points.
-- No case asks in which segment the other place lies. Assumes nothing.
use mathlib.Core.Path.{◌≡◌, refl, ap, subst}
use mathlib.Core.Bool.{cond}
use mathlib.Core.List.{List, [], ◌∷◌}
use mathlib.Core.Logic.{⊎_elim}
use Prim.Native.Nat.{ℕ, ◌*◌, ◌≤◌}
use native.Mathlib.Omega.{arith}
use native.Mathlib.Nat.{mul-le-mul_right, mul-le-mul_left}
use lib.IntN.{ℤ, pos, nat_abs, ◌+ℤ◌, ◌-ℤ◌, ◌*ℤ◌}
use lib.Signed.{le_z, ◌≤ℤ◌, ◌<ℤ◌, ≤ℤ_refl, clash_ℤ}
use Rattle.integers.proofs.Order.{pick, le_yes, le-no, yes_le, ≤-or->, ≤_trans, <-≤, mul-le}
use Rattle.integers.proofs.Magnitude.{abs-mul, abs-sum2, abs-swap, abs-between}
use Rattle.integers.proofs.Ring.{ring, polynomials}
use Rattle.arithmetic.specs.Fraction.{Fraction, ◌over◌, whole}
use Rattle.arithmetic.specs.Table.{Point, column, place, between_f, interpolated_f}
use Rattle.arithmetic.specs.Keeps.{Gentle, Rising}
use Rattle.arithmetic.proofs.Exact.{abs-gap-scaled}

-- from the value s at a ÷ m to the value t at b ÷ m: 4·|t − s| ≤ |b − a| ÷ m, multiplied out
pub record Quarter (m a : ℤ) (s : Fraction) (b : ℤ) (t : Fraction) : Type 0 where
  pub slope : 4 * (nat_abs (t.top *ℤ s.low -ℤ s.top *ℤ t.low) * nat_abs m) ≤ nat_abs (b -ℤ a) * (nat_abs s.low * nat_abs t.low)

-- ---- no change; by way of a whole value at a place between

no_change : (a b : ℤ) → a *ℤ b -ℤ a *ℤ b ≡ pos 0
no_change a b = ring (a ∷ b ∷ []) (search polynomials depth 20 fits 9000) refl

same : {m a b : ℤ} {s : Fraction} → Quarter m a s b s
same {s} = record { slope = rw (no_change s.top s.low) (omega arith) }

change-by-way : (a b c d v : ℤ) → c *ℤ b -ℤ a *ℤ d ≡ b *ℤ (c *ℤ pos 1 -ℤ v *ℤ d) +ℤ d *ℤ (v *ℤ b -ℤ a *ℤ pos 1)
change-by-way a b c d v = ring (a ∷ b ∷ c ∷ d ∷ v ∷ []) (search polynomials depth 20 fits 9000) refl

by_way : {m a b : ℤ} {s t : Fraction} (c v : ℤ) → a ≤ℤ c → c ≤ℤ b → Quarter m a s c (whole v) → Quarter m c (whole v) b t → Quarter m a s b t
by_way {m} {s} {t} c v l u h k = record {
  slope =
      let e = simp abs-mul at (abs-sum2 (s.low *ℤ (t.top *ℤ pos 1 -ℤ v *ℤ t.low)) (t.low *ℤ (v *ℤ s.low -ℤ s.top *ℤ pos 1)) (change-by-way s.top s.low t.top t.low v)) in
      omega (
        arith,
        mul-le-mul_right (nat_abs m) e,
        mul-le-mul_right (nat_abs s.low) k.slope,
        mul-le-mul_right (nat_abs t.low) h.slope,
        ap (λ (z : ℕ). z * (nat_abs s.low * nat_abs t.low)) (abs-between l u),
      );
}

-- ---- one segment

module _ (j : ℕ) (p q : Point) (m : ℤ) (gentle : 4 * nat_abs (column j q -ℤ column j p) ≤ nat_abs (place q -ℤ place p)) where
  enter-change : (u v b x y : ℤ) → (u *ℤ (pos 1 *ℤ (m *ℤ pos 1) *ℤ (y -ℤ x)) +ℤ (v -ℤ u) *ℤ (b *ℤ pos 1 -ℤ x *ℤ m) *ℤ pos 1) *ℤ pos 1 -ℤ u *ℤ (pos 1 *ℤ (pos 1 *ℤ (m *ℤ pos 1) *ℤ (y -ℤ x))) ≡ (v -ℤ u) *ℤ (b -ℤ x *ℤ m)
  enter-change u v b x y = ring (u ∷ v ∷ b ∷ m ∷ x ∷ y ∷ []) (search polynomials depth 20 fits 9000) refl

  -- from the first point, or before it, into the segment
  enter : (a b : ℤ) → a ≤ℤ (place p *ℤ m) → (place p *ℤ m) ≤ℤ b → Quarter m a (whole (column j p)) b (between_f j p q (b over m))
  unfolding between_f
  enter a b l u = record {
    slope =
        let part : nat_abs (b -ℤ place p *ℤ m) ≤ nat_abs (b -ℤ a) = omega (arith, abs-between l u) in
        rw (enter-change (column j p) (column j q) b (place p) (place q))
        (simp abs-mul (omega (
          arith,
          mul-le-mul_right (nat_abs (b -ℤ a) * nat_abs m) gentle,
          mul-le-mul_left (nat_abs (column j q -ℤ column j p) * nat_abs m) part,
        )));
  }

  inside-change : (u d w a b x : ℤ) → (u *ℤ (pos 1 *ℤ (m *ℤ pos 1) *ℤ w) +ℤ d *ℤ (b *ℤ pos 1 -ℤ x *ℤ m) *ℤ pos 1) *ℤ (pos 1 *ℤ (pos 1 *ℤ (m *ℤ pos 1) *ℤ w))
      -ℤ (u *ℤ (pos 1 *ℤ (m *ℤ pos 1) *ℤ w) +ℤ d *ℤ (a *ℤ pos 1 -ℤ x *ℤ m) *ℤ pos 1) *ℤ (pos 1 *ℤ (pos 1 *ℤ (m *ℤ pos 1) *ℤ w)) ≡ d *ℤ (b -ℤ a) *ℤ (m *ℤ w)
  inside-change u d w a b x = ring (u ∷ d ∷ w ∷ a ∷ b ∷ x ∷ m ∷ []) (search polynomials depth 20 fits 9000) refl

  inside : (a b : ℤ) → Quarter m a (between_f j p q (a over m)) b (between_f j p q (b over m))
  unfolding between_f
  inside a b = record {
    slope =
        let w = place q -ℤ place p in
        rw (inside-change (column j p) (column j q -ℤ column j p) w a b (place p)) (simp abs-mul (omega (arith, mul-le-mul_right (nat_abs (b -ℤ a) * (nat_abs m * nat_abs w) * nat_abs m) gentle)));
  }

  leave-change : (u v a x y : ℤ) → v *ℤ (pos 1 *ℤ (pos 1 *ℤ (m *ℤ pos 1) *ℤ (y -ℤ x))) -ℤ (u *ℤ (pos 1 *ℤ (m *ℤ pos 1) *ℤ (y -ℤ x)) +ℤ (v -ℤ u) *ℤ (a *ℤ pos 1 -ℤ x *ℤ m) *ℤ pos 1) *ℤ pos 1 ≡ (v -ℤ u) *ℤ (y *ℤ m -ℤ a)
  leave-change u v a x y = ring (u ∷ v ∷ a ∷ m ∷ x ∷ y ∷ []) (search polynomials depth 20 fits 9000) refl

  -- from the segment to the second point
  leave : (a : ℤ) → Quarter m a (between_f j p q (a over m)) (place q *ℤ m) (whole (column j q))
  unfolding between_f
  leave a = record {
    slope = rw (leave-change (column j p) (column j q) a (place p) (place q)) (simp abs-mul (omega (arith, mul-le-mul_right (nat_abs (place q *ℤ m -ℤ a) * nat_abs m) gentle)));
  }

  cross-change : (u v : ℤ) → v *ℤ pos 1 -ℤ u *ℤ pos 1 ≡ v -ℤ u
  cross-change u v = ring (u ∷ v ∷ []) (search polynomials depth 20 fits 9000) refl

  -- from before the first point to the second
  cross : (a : ℤ) → a ≤ℤ (place p *ℤ m) → (place p *ℤ m) ≤ℤ (place q *ℤ m) → Quarter m a (whole (column j p)) (place q *ℤ m) (whole (column j q))
  cross a l r = record {
    slope = rw (cross-change (column j p) (column j q)) (omega (arith, mul-le-mul_right (nat_abs m) gentle, abs-gap-scaled (place p) (place q) m, abs-between l r));
  }

-- ---- the whole table

-- at its first point a table has that point's value
first-value : (j : ℕ) (q : Point) (rest : List Point) (m : ℤ) → interpolated_f j (q ∷ rest) ((place q *ℤ m) over m) ≡ whole (column j q)
unfolding interpolated_f
first-value j q [] m = refl
first-value j q (r ∷ rest) m = rw (yes_le (≤ℤ_refl (place q *ℤ m)))

rising-slope : (j : ℕ) (table : List Point) (m a b : ℤ) → pos 0 <ℤ m → Rising table → Gentle j table → a ≤ℤ b → Quarter m a (interpolated_f j table (a over m)) b (interpolated_f j table (b over m))
unfolding interpolated_f
rising-slope j [] m a b h k g l = same
rising-slope j (p ∷ []) m a b h k g l = same
rising-slope j (p ∷ (q ∷ rest)) m a b h k g l =
    let x = place p *ℤ m in
    let y = place q *ℤ m in
    let first = whole (column j p) in
    let segment : ℤ → Fraction = λ (c : ℤ). between_f j p q (c over m) in
    let after : ℤ → Fraction = λ (c : ℤ). interpolated_f j (q ∷ rest) (c over m) in
    let later : ℤ → Fraction = λ (c : ℤ). cond (le_z c y) (segment c) (after c) in
    let xy : x ≤ℤ y = mul-le h (<-≤ k.0) in
    let onward : y ≤ℤ b → Quarter m y (whole (column j q)) b (after b) = λ u. subst (λ z. Quarter m y z b (after b)) (first-value j q rest m) (rising-slope j (q ∷ rest) m y b h k.1 g.1 u) in
    pick (le_z a x) first (later a) (λ s. Quarter m a s b (cond (le_z b x) first (later b)))
    (λ ax. pick (le_z b x) first (later b) (λ t. Quarter m a first b t)
    (λ bx. same)
    (λ bx. pick (le_z b y) (segment b) (after b) (λ t. Quarter m a first b t)
    (λ by. enter j p q m g.0 a b (le_yes ax) (<-≤ (le-no bx)))
    (λ by. by_way y (column j q) (≤_trans (le_yes ax) xy) (<-≤ (le-no by)) (cross j p q m g.0 a (le_yes ax) xy) (onward (<-≤ (le-no by))))))
    (λ ax. pick (le_z b x) first (later b) (λ t. Quarter m a (later a) b t)
    (λ bx. clash_ℤ (le-no ax) (≤_trans l (le_yes bx)))
    (λ bx. pick (le_z a y) (segment a) (after a) (λ s. Quarter m a s b (later b))
    (λ ay. pick (le_z b y) (segment b) (after b) (λ t. Quarter m a (segment a) b t)
    (λ by. inside j p q m g.0 a b)
    (λ by. by_way y (column j q) (le_yes ay) (<-≤ (le-no by)) (leave j p q m g.0 a) (onward (<-≤ (le-no by)))))
    (λ ay. pick (le_z b y) (segment b) (after b) (λ t. Quarter m a (after a) b t)
    (λ by. clash_ℤ (le-no ay) (≤_trans l (le_yes by)))
    (λ by. rising-slope j (q ∷ rest) m a b h k.1 g.1 l))))

-- whichever place is the larger
pub exact-slope : (j : ℕ) (table : List Point) (m a b : ℤ) → pos 0 <ℤ m → Rising table → Gentle j table → Quarter m a (interpolated_f j table (a over m)) b (interpolated_f j table (b over m))
exact-slope j table m a b h k g = ⊎_elim (λ l. rising-slope j table m a b h k g l) (λ l. turn (rising-slope j table m b a h k g (<-≤ l))) (≤-or-> a b)
  where
    turn : {s t : Fraction} → Quarter m b s a t → Quarter m a t b s
    turn {s} {t} z = record { slope = rw (abs-swap (s.top *ℤ t.low) (t.top *ℤ s.low), abs-swap b a) (omega (arith, z.slope)) }
