-- How large sums, differences and products can be: |z|, and |z| ≤ n as a fact that is passed on. Assumes nothing.
use mathlib.Core.Path.{◌≡◌, refl}
use mathlib.Core.Bool.{Bool, true, false, cond}
use Prim.Native.Nat.{ℕ, zero, suc, ◌+◌, ◌*◌, ◌-◌, ◌<◌, ◌≤◌}
use native.Mathlib.Omega.{arith}
use native.Mathlib.Nat.{mul-le-mul, le_trans}
use lib.Dec.{T, ltb, ltb→lt}
use lib.IntN.{ℤ, pos, negsuc, neg_ℤ, nat_abs, sub_ℕ, ◌+ℤ◌, ◌-ℤ◌, ◌*ℤ◌}
use lib.Signed.{◌≤ℤ◌, ◌<ℤ◌}
use Rattle.integers.specs.Within.{◌within◌}
use Rattle.integers.proofs.Parts.{pos_part, neg_part, abs-parts, nonneg-parts, ints}
use Rattle.integers.proofs.Difference.{⟨◌⟩, nat, minus, ◌⊝◌, le!, eq!, le?, abs! }
use Rattle.integers.proofs.Order.{≤_trans}

-- ---- |z|

pub abs_neg : (a : ℤ) → nat_abs (neg_ℤ a) ≡ nat_abs a
abs_neg (pos zero) = refl
abs_neg (pos (suc m)) = refl
abs_neg (negsuc m) = refl

abs-subℕ : (a b : ℕ) → nat_abs (sub_ℕ a b) ≤ a + b
abs-subℕ a b = by (ltb a b) (ltb→lt a b)
  where
    by : (c : Bool) → (T c → a < b) → nat_abs (cond c (negsuc (b - suc a)) (pos (a - b))) ≤ a + b
    by true f = omega (arith, f tt)
    by false f = omega arith

pub abs-add : (a b : ℤ) → nat_abs (a +ℤ b) ≤ nat_abs a + nat_abs b
abs-add (pos a) (pos b) = omega arith
abs-add (pos a) (negsuc b) = abs-subℕ a (suc b)
abs-add (negsuc a) (pos b) = omega (arith, abs-subℕ b (suc a))
abs-add (negsuc a) (negsuc b) = omega arith

pub abs-mul : (a b : ℤ) → nat_abs (a *ℤ b) ≡ nat_abs a * nat_abs b
abs-mul (pos a) (pos b) = refl
abs-mul (pos a) (negsuc b) = abs_neg (pos (a * suc b))
abs-mul (negsuc a) (pos b) = abs_neg (pos (suc a * b))
abs-mul (negsuc a) (negsuc b) = refl

-- of what is a sum of two, of three
pub abs-sum2 : {x : ℤ} (a b : ℤ) → x ≡ a +ℤ b → nat_abs x ≤ nat_abs a + nat_abs b
abs-sum2 a b e = rw e (abs-add a b)

pub abs-sum3 : {x : ℤ} (a b c : ℤ) → x ≡ a +ℤ b +ℤ c → nat_abs x ≤ nat_abs a + nat_abs b + nat_abs c
abs-sum3 a b c e = rw e (omega (arith, abs-add (a +ℤ b) c, abs-add a b))

-- a distance has no direction
pub abs-swap : (a b : ℤ) → nat_abs (a -ℤ b) ≡ nat_abs (b -ℤ a)
abs-swap a b = rw (turned a b) (abs_neg (b -ℤ a))
  where
    turned : (a b : ℤ) → a -ℤ b ≡ neg_ℤ (b -ℤ a)
    turned a b = eq! (⟨ a ⟩ ⊝ ⟨ b ⟩) (minus (⟨ b ⟩ ⊝ ⟨ a ⟩)) (omega arith)

pub abs-pos : {a : ℤ} → pos 0 <ℤ a → 0 < nat_abs a
abs-pos {a} h = omega (ints, abs-parts a)

-- the distance of two numbers, the smaller known; by way of one between
pub abs-gap : {a b : ℤ} → a ≤ℤ b → nat_abs (b -ℤ a) + (pos_part a + neg_part b) ≡ pos_part b + neg_part a
abs-gap {a} {b} h =
    let G = ⟨ b ⟩ ⊝ ⟨ a ⟩ in
    omega (arith, G.is, abs-parts (b -ℤ a), nonneg-parts (le! (nat 0) G (omega ints)))

pub abs-between : {a b c : ℤ} → a ≤ℤ b → b ≤ℤ c → nat_abs (b -ℤ a) + nat_abs (c -ℤ b) ≡ nat_abs (c -ℤ a)
abs-between h k = omega (arith, abs-gap h, abs-gap k, abs-gap (≤_trans h k))

-- ---- |z| ≤ n

pub within-most : {z : ℤ} {n : ℕ} → z within n → z ≤ℤ pos n
within-most {z} {n} h = le! ⟨ z ⟩ (nat n) (omega (arith, abs-parts z))

pub within-least : {z : ℤ} {n : ℕ} → z within n → neg_ℤ (pos n) ≤ℤ z
within-least {z} {n} h = le! (minus (nat n)) ⟨ z ⟩ (omega (arith, abs-parts z))

pub within_of : {z : ℤ} {n : ℕ} → neg_ℤ (pos n) ≤ℤ z → z ≤ℤ pos n → z within n
within_of {z} {n} l h =
    let u : 1 * nat_abs z ≤ n = abs! ⟨ z ⟩ 1 n (omega ints) (omega (ints, le? (minus (nat n)) ⟨ z ⟩ l)) in record { abs = omega arith }

-- between two numbers that are
pub within-between : {a b z : ℤ} {n : ℕ} → a within n → b within n → a ≤ℤ z → z ≤ℤ b → z within n
within-between h k l u = within_of (≤_trans (within-least h) l) (≤_trans u (within-most k))

pub within_more : {z : ℤ} {m n : ℕ} → z within m → m ≤ n → z within n
within_more h k = record { abs = le_trans h.abs k }

pub within-add : {a b : ℤ} {m n : ℕ} → a within m → b within n → (a +ℤ b) within (m + n)
within-add {a} {b} h k = record { abs = omega (arith, abs-add a b) }

pub within-neg : {a : ℤ} {m : ℕ} → a within m → (neg_ℤ a) within m
within-neg {a} h = record { abs = omega (arith, abs_neg a) }

pub within-mul : {a b : ℤ} {m n : ℕ} → a within m → b within n → (a *ℤ b) within (m * n)
within-mul h k = record { abs = rw abs-mul (mul-le-mul h.abs k.abs) }
