-- What each number of 0 says, and what gives it. Assumes nothing.
use Rattle.std.proofs.Common.{◌≡◌, ℕ, suc, ◌*◌, ◌≤◌, Bool, true, false, cond, ltb, ℤ, pos, ◌-ℤ◌, neg_ℤ, nat_abs, ◌≤ℤ◌, ◌<ℤ◌, refl, arith, ltb-false, le-ltb}
use lib.Signed.{lt_z}
use Rattle.integers.specs.Within.{◌within◌}
use Rattle.integers.proofs.Order.{lt_yes, lt_no, yes_lt, no_lt}
use Rattle.integers.proofs.Magnitude.{within_of, within-least, within-most}
use Rattle.figures.specs.declared.LinearityPoint.{LinearityPoint}
use Rattle.sheet.specs.Judge.{short_of, wrong_count, out_of_range, not_below, too_steep, trailing}

-- ---- a number that a test picks

test-no : (t : Bool) (k b : ℕ) → cond t (suc k) b ≡ 0 → (t ≡ false) × (b ≡ 0)
test-no true k b h = absurd (omega arith)
test-no false k b h = (refl, h)

test-yes : (t : Bool) (k : ℕ) → cond t 0 (suc k) ≡ 0 → t ≡ true
test-yes true k h = refl
test-yes false k h = absurd (omega arith)

-- ---- 1, 2, 7

pub short-in : (room end : ℕ) → short_of room end ≡ 0 → end ≤ room
unfolding short_of
short-in room end h = ltb-false room end (test-no (ltb room end) 0 0 h).0

pub in-short : {room end : ℕ} → end ≤ room → short_of room end ≡ 0
unfolding short_of
in-short h = simp (le-ltb _ _ h)

pub count-in : (least most n : ℕ) → wrong_count least most n ≡ 0 → (least ≤ n) × (n ≤ most)
unfolding wrong_count
count-in least most n h =
    let e = test-no (ltb n least) 1 _ h in
    (ltb-false n least e.0, ltb-false most n (test-no (ltb most n) 1 0 e.1).0)

pub in_count : {least most n : ℕ} → least ≤ n → n ≤ most → wrong_count least most n ≡ 0
unfolding wrong_count
in_count h k = simp (le-ltb _ _ h, le-ltb _ _ k)

wrong-by : {n m : ℕ} (t u : Bool) → ltb m n ≡ t → ltb n m ≡ u → (m ≡ n → ⊥) → cond {A = ℕ} t 2 (cond u 2 0) ≡ 2
wrong-by true u e f h = refl
wrong-by false true e f h = refl
wrong-by {n} {m} false false e f h = absurd (h (omega (arith, ltb-false m n e, ltb-false n m f)))

-- another count than the one that is due
pub count-wrong : {n m : ℕ} → (m ≡ n → ⊥) → wrong_count n n m ≡ 2
unfolding wrong_count
count-wrong {n} {m} h = wrong-by (ltb m n) (ltb n m) refl refl h

pub whole_in : (room end : ℕ) → trailing room end ≡ 0 → room ≤ end
unfolding trailing
whole_in room end h = ltb-false end room (test-no (ltb end room) 6 0 h).0

pub in_whole : {room end : ℕ} → room ≤ end → trailing room end ≡ 0
unfolding trailing
in_whole h = simp (le-ltb _ _ h)

-- ---- 3

pub beyond-in : (least most v : ℤ) → out_of_range least most v ≡ 0 → (least ≤ℤ v) × (v ≤ℤ most)
unfolding out_of_range
beyond-in least most v h =
    let e = test-no (lt_z v least) 2 _ h in
    (lt_no e.0, lt_no (test-no (lt_z most v) 2 0 e.1).0)

pub in-beyond : {least most v : ℤ} → least ≤ℤ v → v ≤ℤ most → out_of_range least most v ≡ 0
unfolding out_of_range
in-beyond h k = simp (no_lt h, no_lt k)

pub figure-in : (n : ℕ) (v : ℤ) → out_of_range (neg_ℤ (pos n)) (pos n) v ≡ 0 → v within n
figure-in n v h = let r = beyond-in (neg_ℤ (pos n)) (pos n) v h in within_of r.0 r.1

pub in-figure : {n : ℕ} {v : ℤ} → v within n → out_of_range (neg_ℤ (pos n)) (pos n) v ≡ 0
in-figure h = in-beyond (within-least h) (within-most h)

-- ---- 4, 6, 5

pub below_in : (k : ℕ) (a b : ℤ) → not_below (suc k) a b ≡ 0 → a <ℤ b
unfolding not_below
below_in k a b h = lt_yes (test-yes (lt_z a b) k h)

pub in-below : (k : ℕ) {a b : ℤ} → a <ℤ b → not_below k a b ≡ 0
unfolding not_below
in-below k h = simp (yes_lt h)

pub steep-in : (p q : LinearityPoint) → too_steep p q ≡ 0 → 4 * nat_abs (q.clk -ℤ p.clk) ≤ nat_abs (q.clx -ℤ p.clx)
unfolding too_steep
steep-in p q h = ltb-false _ _ (test-no (ltb (nat_abs (q.clx -ℤ p.clx)) (4 * nat_abs (q.clk -ℤ p.clk))) 4 0 h).0

pub in-steep : (p q : LinearityPoint) → 4 * nat_abs (q.clk -ℤ p.clk) ≤ nat_abs (q.clx -ℤ p.clx) → too_steep p q ≡ 0
unfolding too_steep
in-steep p q h = simp (le-ltb _ _ h)
