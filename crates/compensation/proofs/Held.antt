-- Holding within limits does not take a value and its exact value apart; and away from a limit both are on one side of it.
-- Assumes nothing.
use mathlib.Core.Logic.{◌↔◌}
use mathlib.Core.Path.{◌≡◌, refl}
use mathlib.Core.Bool.{false, cond}
use Rattle.std.specs.Int.{int_max, int_min}
use Prim.Native.Nat.{ℕ, ◌*◌, ◌≤◌}
use native.Mathlib.Omega.{arith}
use native.Mathlib.Nat.{mul-le-mul_right, mul-le-mul_left, le_of_mul-le-mul_right}
use lib.IntN.{ℤ, pos, negsuc, nat_abs, ◌-ℤ◌, ◌*ℤ◌}
use lib.Signed.{lt_z, ◌≤ℤ◌, ◌<ℤ◌, ≤ℤ_refl}
use Rattle.integers.specs.Within.{◌within◌}
use Rattle.integers.proofs.Parts.{le_parts}
use Rattle.integers.proofs.Difference.{Difference, ⟨◌⟩, nat, ◌⊝◌, ◌⊗◌, le?, lt?, abs!, abs-above, abs-below}
use Rattle.integers.proofs.Order.{pick, lt_yes, lt_no, no_lt, ≤_trans, <-≤, <-unless}
use Rattle.integers.proofs.Magnitude.{abs-pos, within-between}
use Rattle.arithmetic.specs.Fraction.{Fraction, ◌over◌, whole, Near}
use Rattle.arithmetic.proofs.Near.{one-pos, near-whole}
use Rattle.compensation.specs.Hold.{hold, hold_f}
use Rattle.compensation.specs.Faithful.{Within, Farther, Above, Below}

pub hold-within : {n : ℕ} (lo hi x : ℤ) → lo within n → hi within n → (hold lo hi x) within n
unfolding hold
hold-within {n} lo hi x a b =
    pick (lt_z x lo) lo (cond (lt_z hi x) hi x) (λ z. z within n) (λ _. a)
    (λ c. pick (lt_z hi x) hi x (λ z. z within n) (λ _. b) (λ d. within-between a b (lt_no c) (lt_no d)))

-- std's `clamp` says the same, for limits that are in order
pub clamped : (lo hi x : ℤ) → lo ≤ℤ hi → int_max lo (int_min x hi) ≡ hold lo hi x
unfolding hold
clamped lo hi x l =
    pick (lt_z hi x) hi x (λ (z : ℤ). cond (lt_z z lo) lo z ≡ cond (lt_z x lo) lo z)
    (λ e. let a : lt_z hi lo ≡ false = no_lt l in let b : lt_z x lo ≡ false = no_lt (≤_trans l (<-≤ (lt_yes e))) in rw (a, b))
    (λ e. refl)

-- ---- a distance that is no larger

closer : {k u : ℕ} {x h : ℤ} {q s : Fraction} → Near k u x q → pos 0 <ℤ s.low → nat_abs (h *ℤ s.low -ℤ s.top) * nat_abs q.low ≤ nat_abs (x *ℤ q.low -ℤ q.top) * nat_abs s.low → Near k u h s
closer {k} {u} {x} {h} {q} {s} w a l = record {
  above = a;
  near = le_of_mul-le-mul_right (omega (arith, mul-le-mul_left u l, mul-le-mul_right (nat_abs s.low) w.near)) (abs-pos w.above);
}

-- x is held at h, and t ÷ n, n above 0, is the exact value
module _ (h x t : ℤ) (n : ℕ) where
  distance : ℕ
  distance = nat_abs (x *ℤ pos n -ℤ t)

  -- the exact value is below lo, and so held there: lo ≤ h ≤ x
  at-lower : (lo : ℤ) → t <ℤ (lo *ℤ pos n) → lo ≤ℤ h → h ≤ℤ x → nat_abs (h *ℤ pos 1 -ℤ lo) * n ≤ distance * 1
  unfolding distance
  at-lower lo a b c =
      let z : n * nat_abs (h *ℤ pos 1 -ℤ lo) ≤ nat_abs (x *ℤ pos n -ℤ t) = abs! (⟨ h ⟩ ⊗ nat 1 ⊝ ⟨ lo ⟩) n (nat_abs (x *ℤ pos n -ℤ t))
      (omega (arith, mul-le-mul_right n (le_parts c), lt? ⟨ t ⟩ (⟨ lo ⟩ ⊗ nat n) a, abs-above (⟨ x ⟩ ⊗ nat n ⊝ ⟨ t ⟩)))
      (omega (arith, mul-le-mul_right n (le_parts b))) in
      omega arith

  -- it is above hi, and so held there: x ≤ h ≤ hi
  at-upper : (hi : ℤ) → (hi *ℤ pos n) <ℤ t → x ≤ℤ h → h ≤ℤ hi → nat_abs (h *ℤ pos 1 -ℤ hi) * n ≤ distance * 1
  unfolding distance
  at-upper hi a b c =
      let z : n * nat_abs (h *ℤ pos 1 -ℤ hi) ≤ nat_abs (x *ℤ pos n -ℤ t) = abs! (⟨ h ⟩ ⊗ nat 1 ⊝ ⟨ hi ⟩) n (nat_abs (x *ℤ pos n -ℤ t))
      (omega (arith, mul-le-mul_right n (le_parts c)))
      (omega (arith, mul-le-mul_right n (le_parts b), lt? (⟨ hi ⟩ ⊗ nat n) ⟨ t ⟩ a, abs-below (⟨ x ⟩ ⊗ nat n ⊝ ⟨ t ⟩))) in
      omega arith

  -- it is held nowhere, and h lies between x and it
  below-it : x ≤ℤ h → (h *ℤ pos n) ≤ℤ t → nat_abs (h *ℤ pos n -ℤ t) ≤ distance
  unfolding distance
  below-it a b =
      let z : 1 * nat_abs (h *ℤ pos n -ℤ t) ≤ nat_abs (x *ℤ pos n -ℤ t) = abs! (⟨ h ⟩ ⊗ nat n ⊝ ⟨ t ⟩) 1 (nat_abs (x *ℤ pos n -ℤ t))
      (omega (arith, le? (⟨ h ⟩ ⊗ nat n) ⟨ t ⟩ b))
      (omega (arith, mul-le-mul_right n (le_parts a), abs-below (⟨ x ⟩ ⊗ nat n ⊝ ⟨ t ⟩))) in
      omega arith

  above-it : h ≤ℤ x → t ≤ℤ (h *ℤ pos n) → nat_abs (h *ℤ pos n -ℤ t) ≤ distance
  unfolding distance
  above-it a b =
      let z : 1 * nat_abs (h *ℤ pos n -ℤ t) ≤ nat_abs (x *ℤ pos n -ℤ t) = abs! (⟨ h ⟩ ⊗ nat n ⊝ ⟨ t ⟩) 1 (nat_abs (x *ℤ pos n -ℤ t))
      (omega (arith, mul-le-mul_right n (le_parts a), abs-above (⟨ x ⟩ ⊗ nat n ⊝ ⟨ t ⟩)))
      (omega (arith, le? ⟨ t ⟩ (⟨ h ⟩ ⊗ nat n) b)) in
      omega arith

-- ---- both are held

near-held : {k u : ℕ} (lo hi x t l : ℤ) → lo ≤ℤ hi → Near k u x (t over l) → Near k u (hold lo hi x) (hold_f lo hi (t over l))
unfolding hold hold_f distance
near-held lo hi x t (negsuc n) o w = absurd w.above.lt
near-held {k} {u} lo hi x t (pos n) o w =
    let q = t over pos n in
    let h = cond (lt_z x lo) lo (cond (lt_z hi x) hi x) in
    pick (lt_z t (lo *ℤ pos n)) (whole lo) (cond (lt_z (hi *ℤ pos n) t) (whole hi) q) (λ s. Near k u h s)
    (λ a. pick (lt_z x lo) lo (cond (lt_z hi x) hi x) (λ h. Near k u h (whole lo))
    (λ b. near-whole k u lo)
    (λ b. pick (lt_z hi x) hi x (λ h. Near k u h (whole lo))
    (λ c. closer w one-pos (at-lower hi x t n lo (lt_yes a) o (<-≤ (lt_yes c))))
    (λ c. closer w one-pos (at-lower x x t n lo (lt_yes a) (lt_no b) (≤ℤ_refl x)))))
    (λ a. pick (lt_z (hi *ℤ pos n) t) (whole hi) q (λ s. Near k u h s)
    (λ d. pick (lt_z x lo) lo (cond (lt_z hi x) hi x) (λ h. Near k u h (whole hi))
    (λ b. closer w one-pos (at-upper lo x t n hi (lt_yes d) (<-≤ (lt_yes b)) o))
    (λ b. pick (lt_z hi x) hi x (λ h. Near k u h (whole hi))
    (λ c. near-whole k u hi)
    (λ c. closer w one-pos (at-upper x x t n hi (lt_yes d) (≤ℤ_refl x) (lt_no c)))))
    (λ d. pick (lt_z x lo) lo (cond (lt_z hi x) hi x) (λ h. Near k u h q)
    (λ b. closer w w.above (mul-le-mul_right n (below-it lo x t n (<-≤ (lt_yes b)) (lt_no a))))
    (λ b. pick (lt_z hi x) hi x (λ h. Near k u h q)
    (λ c. closer w w.above (mul-le-mul_right n (above-it hi x t n (<-≤ (lt_yes c)) (lt_no d))))
    (λ c. w))))

pub near-hold : {k u : ℕ} {x : ℤ} {q : Fraction} (lo hi : ℤ) → lo ≤ℤ hi → Near k u x q → Near k u (hold lo hi x) (hold_f lo hi q)
near-hold {x} {q} lo hi o w = near-held lo hi x q.top q.low o w

-- ---- farther than k from a limit, both are on one side of it

module _ {k : ℕ} (limit x t : ℤ) where
  one_side : (l : ℤ) → Within k x (t over l) → Farther k limit (t over l) → (x <ℤ limit ↔ Below (t over l) limit) × (limit <ℤ x ↔ Above (t over l) limit)
  one_side (negsuc n) w f = absurd w.above.lt
  one_side (pos n) w f = (
    ((λ a. <-unless t (limit *ℤ pos n) (λ b. not-under b (<-≤ a))), (λ a. <-unless x limit (λ b. not-over b (<-≤ a)))),
    ((λ a. <-unless (limit *ℤ pos n) t (λ b. not-over (<-≤ a) b)), (λ a. <-unless limit x (λ b. not-under (<-≤ a) b))),
  )
    where
      L : Difference (limit *ℤ pos n -ℤ t)
      L = ⟨ limit ⟩ ⊗ nat n ⊝ ⟨ t ⟩

      X : Difference (x *ℤ pos n -ℤ t)
      X = ⟨ x ⟩ ⊗ nat n ⊝ ⟨ t ⟩

      not-over : limit ≤ℤ x → t ≤ℤ (limit *ℤ pos n) → ⊥
      not-over a b =
          let z : 1 * nat_abs (limit *ℤ pos n -ℤ t) ≤ k * n = abs! L 1 (k * n) (omega (arith, mul-le-mul_right n (le_parts a), abs-above X, w.near)) (omega (arith, le? ⟨ t ⟩ (⟨ limit ⟩ ⊗ nat n) b)) in
          omega (arith, f)

      not-under : (limit *ℤ pos n) ≤ℤ t → x ≤ℤ limit → ⊥
      not-under a b =
          let z : 1 * nat_abs (limit *ℤ pos n -ℤ t) ≤ k * n = abs! L 1 (k * n) (omega (arith, le? (⟨ limit ⟩ ⊗ nat n) ⟨ t ⟩ a)) (omega (arith, mul-le-mul_right n (le_parts b), abs-below X, w.near)) in
          omega (arith, f)

pub same-side : {k : ℕ} {x : ℤ} {q : Fraction} (limit : ℤ) → Within k x q → Farther k limit q → (x <ℤ limit ↔ Below q limit) × (limit <ℤ x ↔ Above q limit)
same-side {x} {q} limit w f = one_side limit x q.top q.low w f
