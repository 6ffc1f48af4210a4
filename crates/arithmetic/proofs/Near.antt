-- Laws of `Near`: a whole number within k/u of a fraction. Assumes nothing.
use mathlib.Core.Path.{◌≡◌, refl}
use mathlib.Core.Bool.{Bool, true, false, cond}
use mathlib.Core.List.{[], ◌∷◌}
use Prim.Native.Nat.{ℕ, ◌+◌, ◌*◌}
use native.Mathlib.Omega.{arith}
use native.Mathlib.Nat.{mul-le-mul_right, mul-le-mul_left}
use lib.IntN.{ℤ, pos, neg_ℤ, nat_abs, ◌+ℤ◌, ◌-ℤ◌, ◌*ℤ◌}
use lib.Signed.{◌<ℤ◌, lt_z_yes}
use Rattle.integers.proofs.Order.{mul-pos}
use Rattle.integers.proofs.Magnitude.{abs-mul, abs_neg, abs-sum2}
use Rattle.integers.proofs.Ring.{ring, polynomials}
use Rattle.arithmetic.specs.Fraction.{Fraction, whole, ◌+F◌, ◌-F◌, Near}

pub one-pos : pos 0 <ℤ pos 1
one-pos = lt_z_yes tt

zero-distance : (z : ℤ) → z *ℤ pos 1 -ℤ z ≡ pos 0
zero-distance z = ring (z ∷ []) (search polynomials depth 20 fits 9000) refl

pub near-whole : (k u : ℕ) (z : ℤ) → Near k u z (whole z)
near-whole k u z = record { above = one-pos; near = rw (zero-distance z) (omega arith) }

-- where one test picks both
pub near-pick : {k u : ℕ} (b : Bool) (x y : ℤ) (q s : Fraction) → (b ≡ true → Near k u x q) → (b ≡ false → Near k u y s) → Near k u (cond b x y) (cond b q s)
near-pick true x y q s f g = f refl
near-pick false x y q s f g = g refl

-- ---- sums and differences; other units

sum-distance : (a b : ℤ) (p q : Fraction) → (a +ℤ b) *ℤ (p.low *ℤ q.low) -ℤ (p.top *ℤ q.low +ℤ q.top *ℤ p.low) ≡ (a *ℤ p.low -ℤ p.top) *ℤ q.low +ℤ (b *ℤ q.low -ℤ q.top) *ℤ p.low
sum-distance a b p q = ring (a ∷ b ∷ p.low ∷ p.top ∷ q.low ∷ q.top ∷ []) (search polynomials depth 20 fits 9000) refl

pub near_add : {k j u : ℕ} {a b : ℤ} {p q : Fraction} → Near k u a p → Near j u b q → Near (k + j) u (a +ℤ b) (p +F q)
near_add {u} {a} {b} {p} {q} h g = record {
  above = mul-pos h.above g.above;
  near =
      let s = simp abs-mul at (abs-sum2 ((a *ℤ p.low -ℤ p.top) *ℤ q.low) ((b *ℤ q.low -ℤ q.top) *ℤ p.low) (sum-distance a b p q)) in
      simp abs-mul (omega (arith, mul-le-mul_right u s, mul-le-mul_right (nat_abs q.low) h.near, mul-le-mul_right (nat_abs p.low) g.near));
}

sub-distance : (a b : ℤ) (p q : Fraction) → (a -ℤ b) *ℤ (p.low *ℤ q.low) -ℤ (p.top *ℤ q.low -ℤ q.top *ℤ p.low) ≡ (a *ℤ p.low -ℤ p.top) *ℤ q.low +ℤ neg_ℤ (b *ℤ q.low -ℤ q.top) *ℤ p.low
sub-distance a b p q = ring (a ∷ b ∷ p.low ∷ p.top ∷ q.low ∷ q.top ∷ []) (search polynomials depth 20 fits 9000) refl

pub near_sub : {k j u : ℕ} {a b : ℤ} {p q : Fraction} → Near k u a p → Near j u b q → Near (k + j) u (a -ℤ b) (p -F q)
near_sub {u} {a} {b} {p} {q} h g = record {
  above = mul-pos h.above g.above;
  near =
      let s = simp (abs-mul, abs_neg) at (abs-sum2 ((a *ℤ p.low -ℤ p.top) *ℤ q.low) (neg_ℤ (b *ℤ q.low -ℤ q.top) *ℤ p.low) (sub-distance a b p q)) in
      simp abs-mul (omega (arith, mul-le-mul_right u s, mul-le-mul_right (nat_abs q.low) h.near, mul-le-mul_right (nat_abs p.low) g.near));
}

-- k/u is (c·k)/(c·u)
pub near-units : {k u : ℕ} {x : ℤ} {q : Fraction} (c : ℕ) → Near k u x q → Near (c * k) (c * u) x q
near-units c h = record { above = h.above; near = omega (arith, mul-le-mul_left c h.near) }
