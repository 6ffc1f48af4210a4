-- Laws of `interpolated_f`, the exact interpolant, for tables that rise strictly: it is a fraction, the rounded value is at
-- most half a step from it, it stays within the values, and it changes by at most a quarter of the change of the place
-- where every segment does. Of rounding they use `round-near` alone. Assumes nothing.
use mathlib.Core.Path.{◌≡◌, refl, sym, ◌∙◌, ap}
use mathlib.Core.Bool.{cond}
use mathlib.Core.List.{List, [], ◌∷◌}
use mathlib.Core.Logic.{⊎_elim}
use Prim.Native.Nat.{ℕ, ◌*◌, ◌≤◌}
use native.Mathlib.Omega.{arith}
use native.Mathlib.Nat.{mul-le-mul_right, mul-le-mul_left}
use lib.IntN.{ℤ, pos, nat_abs, ◌+ℤ◌, ◌-ℤ◌, ◌*ℤ◌}
use lib.Signed.{le_z, ◌≤ℤ◌, ◌<ℤ◌}
use Rattle.integers.specs.Within.{◌within◌}
use Rattle.integers.proofs.Order.{pick, le_yes, le-no, yes_le, no_le, ≤-or->, <-≤, gap-pos, mul-pos, mul-le, mul-lt}
use Rattle.integers.proofs.Magnitude.{abs-mul, abs-sum2, abs-between}
use Rattle.integers.proofs.Ring.{ring, polynomials}
use Rattle.arithmetic.specs.Round.{round_div}
use Rattle.arithmetic.specs.Fraction.{Fraction, ◌over◌, whole, Near}
use Rattle.arithmetic.specs.Table.{Point, column, place, between, between_f, interpolated, interpolated_f}
use Rattle.arithmetic.specs.Keeps.{ColumnWithin, Rising}
use Rattle.arithmetic.proofs.Round.{round-near}
use Rattle.arithmetic.proofs.Near.{one-pos, near-whole, near-pick}

-- ---- it is a fraction

between-above : (j : ℕ) (p q : Point) (t : Fraction) → pos 0 <ℤ t.low → place p <ℤ place q → pos 0 <ℤ (between_f j p q t).low
unfolding between_f
between-above j p q t h k = mul-pos one-pos (mul-pos (mul-pos one-pos (mul-pos h one-pos)) (gap-pos k))

pub exact_above : (j : ℕ) (table : List Point) (t : Fraction) → pos 0 <ℤ t.low → Rising table → pos 0 <ℤ (interpolated_f j table t).low
unfolding interpolated_f
exact_above j [] t h k = one-pos
exact_above j (p ∷ []) t h k = one-pos
exact_above j (p ∷ (q ∷ rest)) t h k =
    pick (le_z t.top (place p *ℤ t.low)) (whole (column j p)) (cond (le_z t.top (place q *ℤ t.low)) (between_f j p q t) (interpolated_f j (q ∷ rest) t)) (λ s. pos 0 <ℤ s.low)
    (λ a. one-pos)
    (λ a. pick (le_z t.top (place q *ℤ t.low)) (between_f j p q t) (interpolated_f j (q ∷ rest) t) (λ s. pos 0 <ℤ s.low)
    (λ b. between-above j p q t h k.0)
    (λ b. exact_above j (q ∷ rest) t h k.1))

-- ---- half a step: the whole number x, against the exact value at x·m ÷ m

-- multiplied out by m, a test is the same
le-scaled : (x y m : ℤ) → pos 0 <ℤ m → le_z (x *ℤ m) (y *ℤ m) ≡ le_z x y
le-scaled x y m h = ⊎_elim (λ l. yes_le (mul-le h l) ∙ sym (yes_le l)) (λ l. no_le (mul-lt h l) ∙ sym (no_le l)) (≤-or-> x y)

between-distance : (v r m w d x y : ℤ) → (v +ℤ r) *ℤ (pos 1 *ℤ (pos 1 *ℤ (m *ℤ pos 1) *ℤ w)) -ℤ (v *ℤ (pos 1 *ℤ (m *ℤ pos 1) *ℤ w) +ℤ d *ℤ (x *ℤ m *ℤ pos 1 -ℤ y *ℤ m) *ℤ pos 1) ≡ m *ℤ (r *ℤ w -ℤ d *ℤ (x -ℤ y))
between-distance v r m w d x y = ring (v ∷ r ∷ m ∷ w ∷ d ∷ x ∷ y ∷ []) (search polynomials depth 20 fits 9000) refl

between-near : (j : ℕ) (p q : Point) (x m : ℤ) → pos 0 <ℤ m → place p <ℤ place q → Near 1 2 (between j p q x) (between_f j p q ((x *ℤ m) over m))
unfolding between between_f
between-near j p q x m h k = record {
  above = mul-pos one-pos (mul-pos (mul-pos one-pos (mul-pos h one-pos)) (gap-pos k));
  near =
      let w = place q -ℤ place p in
      let d = column j q -ℤ column j p in
      let a = d *ℤ (x -ℤ place p) in
      rw (between-distance (column j p) (round_div a w) m w d x (place p)) (simp abs-mul (omega (arith, mul-le-mul_left (nat_abs m) (round-near a w (gap-pos k)))));
}

pub interpolated-near : (j : ℕ) (table : List Point) (x m : ℤ) → pos 0 <ℤ m → Rising table → Near 1 2 (interpolated j table x) (interpolated_f j table ((x *ℤ m) over m))
unfolding interpolated interpolated_f
interpolated-near j [] x m h k = near-whole 1 2 (pos 0)
interpolated-near j (p ∷ []) x m h k = near-whole 1 2 (column j p)
interpolated-near j (p ∷ (q ∷ rest)) x m h k =
    let t = (x *ℤ m) over m in
    rw (le-scaled x (place p) m h, le-scaled x (place q) m h)
    (near-pick (le_z x (place p)) (column j p) (cond (le_z x (place q)) (between j p q x) (interpolated j (q ∷ rest) x)) (whole (column j p)) (cond (le_z x (place q)) (between_f j p q t) (interpolated_f j (q ∷ rest) t))
    (λ a. near-whole 1 2 (column j p))
    (λ a. near-pick (le_z x (place q)) (between j p q x) (interpolated j (q ∷ rest) x) (between_f j p q t) (interpolated_f j (q ∷ rest) t)
    (λ b. between-near j p q x m h k.0)
    (λ b. interpolated-near j (q ∷ rest) x m h k.1)))

-- ---- the hull: |exact value| ≤ n, multiplied out

pub record Small (n : ℕ) (q : Fraction) : Type 0 where
  pub small : nat_abs q.top ≤ n * nat_abs q.low

gap-scaled : (x y m : ℤ) → y *ℤ m -ℤ x *ℤ m ≡ m *ℤ (y -ℤ x)
gap-scaled x y m = ring (x ∷ y ∷ m ∷ []) (search polynomials depth 20 fits 9000) refl

pub abs-gap-scaled : (x y m : ℤ) → nat_abs (y *ℤ m -ℤ x *ℤ m) ≡ nat_abs m * nat_abs (y -ℤ x)
abs-gap-scaled x y m = rw (gap-scaled x y m) (abs-mul m (y -ℤ x))

-- the weights of the two values are what lies on the other side
between-weights : (u v a m x y : ℤ) → u *ℤ (pos 1 *ℤ (m *ℤ pos 1) *ℤ (y -ℤ x)) +ℤ (v -ℤ u) *ℤ (a *ℤ pos 1 -ℤ x *ℤ m) *ℤ pos 1 ≡ u *ℤ (y *ℤ m -ℤ a) +ℤ v *ℤ (a -ℤ x *ℤ m)
between-weights u v a m x y = ring (u ∷ v ∷ a ∷ m ∷ x ∷ y ∷ []) (search polynomials depth 20 fits 9000) refl

between-small : {n : ℕ} (j : ℕ) (p q : Point) (t : Fraction) → (column j p) within n → (column j q) within n → (place p *ℤ t.low) ≤ℤ t.top → t.top ≤ℤ (place q *ℤ t.low) → Small n (between_f j p q t)
unfolding between_f
between-small {n} j p q t hp hq a b = record {
  small =
      let m = t.low in
      let before = t.top -ℤ place p *ℤ m in
      let after = place q *ℤ m -ℤ t.top in
      let s = simp abs-mul at (abs-sum2 (column j p *ℤ after) (column j q *ℤ before) (between-weights (column j p) (column j q) t.top m (place p) (place q))) in
      simp abs-mul (omega (
        arith,
        s,
        mul-le-mul_right (nat_abs after) hp.abs,
        mul-le-mul_right (nat_abs before) hq.abs,
        ap (λ (z : ℕ). n * z) (abs-between a b ∙ abs-gap-scaled (place p) (place q) m),
      ));
}

pub exact-small : {n : ℕ} (j : ℕ) (table : List Point) (t : Fraction) → ColumnWithin j n table → Small n (interpolated_f j table t)
unfolding interpolated_f
exact-small {n} j [] t h = record { small = omega arith }
exact-small {n} j (p ∷ []) t h = record { small = omega (arith, h.0.abs) }
exact-small {n} j (p ∷ (q ∷ rest)) t h =
    pick (le_z t.top (place p *ℤ t.low)) (whole (column j p)) (cond (le_z t.top (place q *ℤ t.low)) (between_f j p q t) (interpolated_f j (q ∷ rest) t)) (Small n)
    (λ a. record { small = omega (arith, h.0.abs) })
    (λ a. pick (le_z t.top (place q *ℤ t.low)) (between_f j p q t) (interpolated_f j (q ∷ rest) t) (Small n)
    (λ b. between-small j p q t h.0 h.1.0 (<-≤ (le-no a)) (le_yes b))
    (λ b. exact-small j (q ∷ rest) t h.1))
