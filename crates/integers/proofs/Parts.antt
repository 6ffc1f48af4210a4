-- The two parts of a whole number: z = pos_part z − neg_part z, and one of the two is 0. Sums, products, orders and
-- magnitudes of integers by their parts, which are naturals, so that `omega` can read them. Assumes nothing.
use mathlib.Core.Path.{◌≡◌, refl, ap}
use mathlib.Core.Bool.{Bool, true, false, not, cond}
use Prim.Native.Nat.{ℕ, zero, suc, ◌+◌, ◌*◌, ◌-◌, ◌<◌, ◌≤◌}
use native.Mathlib.Omega.{arith}
use lib.Dec.{T, ltb, leb→le, le→leb, ltb→lt, lt→ltb, nltb→le}
use lib.IntN.{ℤ, pos, negsuc, neg_ℤ, nat_abs, sub_ℕ, ◌+ℤ◌, ◌*ℤ◌}
use lib.Signed.{◌≤ℤ◌, ◌<ℤ◌}

abbrev pub pos_part : ℤ → ℕ
pos_part (pos n) = n
pos_part (negsuc n) = 0

abbrev pub neg_part : ℤ → ℕ
neg_part (pos n) = 0
neg_part (negsuc n) = suc n

-- ---- of sums, negations, products

cond-parts : (c : Bool) (a b : ℕ) → (T c → a < b) → (T (not c) → b ≤ a) → pos_part (cond c (negsuc (b - suc a)) (pos (a - b))) + b ≡ a + neg_part (cond c (negsuc (b - suc a)) (pos (a - b)))
cond-parts true a b f g = omega (arith, f tt)
cond-parts false a b f g = omega (arith, g tt)

sub_parts : (a b : ℕ) → pos_part (sub_ℕ a b) + b ≡ a + neg_part (sub_ℕ a b)
sub_parts a b = cond-parts (ltb a b) a b (ltb→lt a b) (nltb→le a b)

pub add_parts : (a b : ℤ) → pos_part (a +ℤ b) + (neg_part a + neg_part b) ≡ (pos_part a + pos_part b) + neg_part (a +ℤ b)
add_parts (pos a) (pos b) = omega arith
add_parts (pos a) (negsuc b) = omega (arith, sub_parts a (suc b))
add_parts (negsuc a) (pos b) = omega (arith, sub_parts b (suc a))
add_parts (negsuc a) (negsuc b) = omega arith

pub neg-pos-part : (a : ℤ) → pos_part (neg_ℤ a) ≡ neg_part a
neg-pos-part (pos zero) = refl
neg-pos-part (pos (suc n)) = refl
neg-pos-part (negsuc n) = refl

pub neg-neg-part : (a : ℤ) → neg_part (neg_ℤ a) ≡ pos_part a
neg-neg-part (pos zero) = refl
neg-neg-part (pos (suc n)) = refl
neg-neg-part (negsuc n) = refl

pub mul-parts : (a b : ℤ) → pos_part (a *ℤ b) + (pos_part a * neg_part b + neg_part a * pos_part b) ≡ (pos_part a * pos_part b + neg_part a * neg_part b) + neg_part (a *ℤ b)
mul-parts (pos a) (pos b) = omega arith
mul-parts (pos a) (negsuc b) = omega (arith, neg-pos-part (pos (a * suc b)), neg-neg-part (pos (a * suc b)))
mul-parts (negsuc a) (pos b) = omega (arith, neg-pos-part (pos (suc a * b)), neg-neg-part (pos (suc a * b)))
mul-parts (negsuc a) (negsuc b) = omega arith

-- ---- the order and equality, to the parts and from them

pub le_parts : {a b : ℤ} → a ≤ℤ b → pos_part a + neg_part b ≤ pos_part b + neg_part a
le_parts {a = pos a} {b = pos b} h = omega (arith, leb→le a b h.le)
le_parts {a = pos a} {b = negsuc b} h = absurd h.le
le_parts {a = negsuc a} {b = pos b} h = omega arith
le_parts {a = negsuc a} {b = negsuc b} h = omega (arith, leb→le b a h.le)

pub parts-le : (a b : ℤ) → pos_part a + neg_part b ≤ pos_part b + neg_part a → a ≤ℤ b
parts-le (pos a) (pos b) h = record { le = le→leb a b (omega arith) }
parts-le (pos a) (negsuc b) h = absurd (omega arith)
parts-le (negsuc a) (pos b) h = record { le = tt }
parts-le (negsuc a) (negsuc b) h = record { le = le→leb b a (omega arith) }

pub lt-parts : {a b : ℤ} → a <ℤ b → pos_part a + neg_part b < pos_part b + neg_part a
lt-parts {a = pos a} {b = pos b} h = omega (arith, ltb→lt a b h.lt)
lt-parts {a = pos a} {b = negsuc b} h = absurd h.lt
lt-parts {a = negsuc a} {b = pos b} h = omega arith
lt-parts {a = negsuc a} {b = negsuc b} h = omega (arith, ltb→lt b a h.lt)

pub parts-lt : (a b : ℤ) → pos_part a + neg_part b < pos_part b + neg_part a → a <ℤ b
parts-lt (pos a) (pos b) h = record { lt = lt→ltb a b (omega arith) }
parts-lt (pos a) (negsuc b) h = absurd (omega arith)
parts-lt (negsuc a) (pos b) h = record { lt = tt }
parts-lt (negsuc a) (negsuc b) h = record { lt = lt→ltb b a (omega arith) }

pub eq-parts : {a b : ℤ} → a ≡ b → pos_part a + neg_part b ≡ pos_part b + neg_part a
eq-parts {a} {b} h = omega (arith, ap pos_part h, ap neg_part h)

pub parts-eq : (a b : ℤ) → pos_part a + neg_part b ≡ pos_part b + neg_part a → a ≡ b
parts-eq (pos a) (pos b) h = ap pos (omega arith)
parts-eq (pos a) (negsuc b) h = absurd (omega arith)
parts-eq (negsuc a) (pos b) h = absurd (omega arith)
parts-eq (negsuc a) (negsuc b) h = ap negsuc (omega arith)

-- ---- magnitudes, and numbers that are not negative

pub abs-parts : (z : ℤ) → nat_abs z ≡ pos_part z + neg_part z
abs-parts (pos m) = omega arith
abs-parts (negsuc m) = omega arith

pub nonneg-parts : {z : ℤ} → pos 0 ≤ℤ z → neg_part z ≡ 0
nonneg-parts {z = pos m} h = refl
nonneg-parts {z = negsuc m} h = absurd h.le

pub nonpos-parts : {z : ℤ} → z ≤ℤ pos 0 → pos_part z ≡ 0
nonpos-parts {z = pos m} h = omega (arith, le_parts h)
nonpos-parts {z = negsuc m} h = refl

-- `omega ints` reads each order and each equation of integers in scope by these rules
pub ruleset ints = (arith, le_parts, lt-parts, eq-parts)
