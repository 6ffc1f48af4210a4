-- Laws of `round_div`. `round-near` is the only fact about rounding that anything else may use: the laws after it follow from
-- it alone, up to `closest`. Only the last parts know which way halves go. Assumes nothing.
use mathlib.Core.Path.{◌≡◌, refl, sym, ◌∙◌, ap, ap₂, subst}
use mathlib.Core.List.{[], ◌∷◌}
use mathlib.Core.Logic.{⊎_elim, ◌↔◌}
use Prim.Native.Nat.{ℕ, zero, suc, ◌+◌, ◌*◌, ◌/◌, ◌^◌, ◌<◌, ◌≤◌}
use native.Mathlib.Omega.{arith}
use native.Mathlib.Nat.{div-add-mod, mod-lt, div-eq_of_lt, mul-le-mul_left, mul-le-mul_right, lt_of_mul-lt-mul_right, mul-div-mul_left, suc-add, le_antisymm, le_refl}
use lib.IntN.{ℤ, pos, negsuc, neg_ℤ, neg_ℤ-neg_ℤ, nat_abs, ◌+ℤ◌, ◌-ℤ◌, ◌*ℤ◌}
use mir.Syntax.{Width, w64}
use mir.Val.{SFits}
use lib.Signed.{shr_z, quot_z, ◌≤ℤ◌, ◌<ℤ◌, ≤ℤ_refl}
use Rattle.integers.specs.Within.{◌within◌}
use Rattle.integers.proofs.Parts.{pos_part, neg_part, lt-parts, abs-parts, ints}
use Rattle.integers.proofs.Difference.{⟨◌⟩, nat, minus, ◌⊕◌, ◌⊝◌, ◌⊗◌, le!, lt!, eq!, le?, lt?, abs!, abs-above, abs-below}
use Rattle.integers.proofs.Order.{≤-or->, ≤-unless, ≤-antisym}
use Rattle.integers.proofs.Magnitude.{within_of, abs_neg, abs-mul, abs-sum2, abs-pos}
use Rattle.integers.proofs.Ring.{ring, polynomials}
use Rattle.integers.proofs.Machine.{fits!, fits-pos-part, fits-neg-part}
use Rattle.arithmetic.specs.Round.{round_magnitude, round_div, Nearest}

-- ---- of magnitudes: 2d·r ≤ 2n + d < 2d·r + 2d, and whatever lies there is r

magnitude-bounds : (n d : ℕ) → 0 < d → let r = round_magnitude n d in (2 * (r * d) ≤ 2 * n + d) × (2 * n + d < 2 * (r * d) + 2 * d)
unfolding round_magnitude
magnitude-bounds n d h = (omega (arith, div-add-mod (2 * n + d) (2 * d)), omega (arith, div-add-mod (2 * n + d) (2 * d), mod-lt (2 * n + d) (twice h)))
  where
    twice : 0 < d → 0 < 2 * d
    twice h = omega arith

magnitude-unique : (n d r : ℕ) → 0 < d → 2 * (r * d) ≤ 2 * n + d → 2 * n + d < 2 * (r * d) + 2 * d → r ≡ round_magnitude n d
magnitude-unique n d r h l u =
    let b = magnitude-bounds n d h in
    le_antisymm (below r (round_magnitude n d) l b.1) (below (round_magnitude n d) r b.0 u)
  where
    -- x·2d ≤ z < y·2d + 2d
    below : (x y : ℕ) → 2 * (x * d) ≤ 2 * n + d → 2 * n + d < 2 * (y * d) + 2 * d → x ≤ y
    below x y f g = reach (lt_of_mul-lt-mul_right d (omega arith))
      where
        reach : x < suc y → x ≤ y
        reach k = omega arith

-- ---- the one fact: 2·|r·d − a| ≤ d

pub round-near : (a d : ℤ) → pos 0 <ℤ d → 2 * nat_abs (round_div a d *ℤ d -ℤ a) ≤ nat_abs d
unfolding round_div
round-near a (negsuc m) h = absurd h.lt
round-near (pos n) (pos m) h =
    let b = magnitude-bounds n m (omega (arith, lt-parts h)) in
    abs! (nat (round_magnitude n m) ⊗ nat m ⊝ nat n) 2 m (omega (arith, b.0)) (omega (arith, b.1))
round-near (negsuc n) (pos m) h =
    let b = magnitude-bounds (suc n) m (omega (arith, lt-parts h)) in
    abs! (minus (nat (round_magnitude (suc n) m)) ⊗ nat m ⊝ ⟨ negsuc n ⟩) 2 m (omega (arith, b.1)) (omega (arith, b.0))

-- ---- between whole bounds before rounding, between them after; so monotone, and of a's sign

-- a is less than n·d above b: rounded, a is at most n above b
pub round-apart : (a b n d : ℤ) → pos 0 <ℤ d → (a -ℤ n *ℤ d) <ℤ b → (round_div a d -ℤ n) ≤ℤ round_div b d
round-apart a b n (negsuc m) h l = absurd h.lt
round-apart a b n (pos m) h l = ≤-unless (round_div a (pos m) -ℤ n) (round_div b (pos m)) (λ g.
    let R = ⟨ round_div a (pos m) ⟩ in
    let S = ⟨ round_div b (pos m) ⟩ in
    omega (
      arith,
      mul-le-mul_right m (lt? S (R ⊝ ⟨ n ⟩) g),
      lt? (⟨ a ⟩ ⊝ ⟨ n ⟩ ⊗ nat m) ⟨ b ⟩ l,
      abs-above (R ⊗ nat m ⊝ ⟨ a ⟩),
      round-near a (pos m) h,
      abs-below (S ⊗ nat m ⊝ ⟨ b ⟩),
      round-near b (pos m) h,
    ))

pub round_mono : (a b d : ℤ) → pos 0 <ℤ d → a ≤ℤ b → round_div a d ≤ℤ round_div b d
round_mono a b d h l = ⊎_elim (λ k. same (≤-antisym l k)) (λ k. rise k) (≤-or-> b a)
  where
    same : a ≡ b → round_div a d ≤ℤ round_div b d
    same e = subst (λ (z : ℤ). round_div a d ≤ℤ round_div z d) e (≤ℤ_refl (round_div a d))

    rise : a <ℤ b → round_div a d ≤ℤ round_div b d
    rise k = le! ⟨ round_div a d ⟩ ⟨ round_div b d ⟩
        (omega (ints, le? (⟨ round_div a d ⟩ ⊝ nat 0) ⟨ round_div b d ⟩ (round-apart a b (pos 0) d h (lt! (⟨ a ⟩ ⊝ nat 0 ⊗ ⟨ d ⟩) ⟨ b ⟩ (omega ints)))))

pub round-at-least : (a k d : ℤ) → pos 0 <ℤ d → (k *ℤ d) ≤ℤ a → k ≤ℤ round_div a d
round-at-least a k (negsuc m) h l = absurd h.lt
round-at-least a k (pos m) h l = ≤-unless k (round_div a (pos m)) (λ g.
    let R = ⟨ round_div a (pos m) ⟩ in
    omega (ints, mul-le-mul_right m (lt-parts g), le? (⟨ k ⟩ ⊗ nat m) ⟨ a ⟩ l, abs-below (R ⊗ nat m ⊝ ⟨ a ⟩), round-near a (pos m) h))

pub round-at-most : (a k d : ℤ) → pos 0 <ℤ d → a ≤ℤ (k *ℤ d) → round_div a d ≤ℤ k
round-at-most a k (negsuc m) h l = absurd h.lt
round-at-most a k (pos m) h l = ≤-unless (round_div a (pos m)) k (λ g.
    let R = ⟨ round_div a (pos m) ⟩ in
    omega (ints, mul-le-mul_right m (lt-parts g), le? ⟨ a ⟩ (⟨ k ⟩ ⊗ nat m) l, abs-above (R ⊗ nat m ⊝ ⟨ a ⟩), round-near a (pos m) h))

-- a whole quotient is itself
pub round_whole : (k d : ℤ) → pos 0 <ℤ d → round_div (k *ℤ d) d ≡ k
round_whole k d h = ≤-antisym (round-at-most (k *ℤ d) k d h (≤ℤ_refl (k *ℤ d))) (round-at-least (k *ℤ d) k d h (≤ℤ_refl (k *ℤ d)))

-- |a| ≤ n·d: |r| ≤ n
pub round-within : {n : ℕ} (a d : ℤ) → pos 0 <ℤ d → a within (n * nat_abs d) → (round_div a d) within n
round-within a (negsuc m) h k = absurd h.lt
round-within {n} a (pos m) h k = within_of
    (round-at-least a (neg_ℤ (pos n)) (pos m) h (le! (minus (nat n) ⊗ nat m) ⟨ a ⟩ (omega (arith, abs-parts a))))
    (round-at-most a (pos n) (pos m) h (le! ⟨ a ⟩ (nat n ⊗ nat m) (omega (arith, abs-parts a))))

-- less than half of d: 0
pub round-none : (a d : ℤ) → pos 0 <ℤ d → 2 * nat_abs a < nat_abs d → round_div a d ≡ pos 0
round-none a d h l =
    let r = round_div a d in
    let s = simp abs-mul at (abs-sum2 (r *ℤ d -ℤ a) a (back (r *ℤ d) a)) in
    by r (lt_of_mul-lt-mul_right (nat_abs d) (omega (arith, s, round-near a d h)))
  where
    back : (x a : ℤ) → x ≡ (x -ℤ a) +ℤ a
    back x a = ring (x ∷ a ∷ []) (search polynomials depth 20 fits 9000) refl

    by : (z : ℤ) → nat_abs z < 1 → z ≡ pos 0
    by (pos n) k = ap pos (omega arith)
    by (negsuc n) k = absurd (omega arith)

-- ---- two whole numbers are no farther apart than a ÷ d lies from both

far : (a d r s : ℤ) → nat_abs (r -ℤ s) * nat_abs d ≤ nat_abs (r *ℤ d -ℤ a) + nat_abs (s *ℤ d -ℤ a)
far a d r s = simp (abs-mul, abs_neg) at (abs-sum2 (r *ℤ d -ℤ a) (neg_ℤ (s *ℤ d -ℤ a)) (between r s d a))
  where
    between : (r s d a : ℤ) → (r -ℤ s) *ℤ d ≡ (r *ℤ d -ℤ a) +ℤ neg_ℤ (s *ℤ d -ℤ a)
    between r s d a = ring (r ∷ s ∷ d ∷ a ∷ []) (search polynomials depth 20 fits 9000) refl

no_gap : {r s : ℤ} → nat_abs (r -ℤ s) < 1 → r ≡ s
no_gap {r} {s} l = eq! ⟨ r ⟩ ⟨ s ⟩ (omega (arith, abs-above (⟨ r ⟩ ⊝ ⟨ s ⟩), abs-below (⟨ r ⟩ ⊝ ⟨ s ⟩)))

-- none is nearer
closest : (a d s : ℤ) → pos 0 <ℤ d → nat_abs (round_div a d *ℤ d -ℤ a) ≤ nat_abs (s *ℤ d -ℤ a)
closest a d s h = by (nat_abs (round_div a d -ℤ s)) refl
  where
    by : (k : ℕ) → nat_abs (round_div a d -ℤ s) ≡ k → nat_abs (round_div a d *ℤ d -ℤ a) ≤ nat_abs (s *ℤ d -ℤ a)
    by zero e = let f : round_div a d ≡ s = no_gap (omega (arith, e)) in rw f (le_refl _)
    by (suc k) e = let f = rw e at (far a d (round_div a d) s) in omega (arith, f, round-near a d h)

-- ---- halves go away from zero: of −a, all with the other sign

pub round-odd : (a d : ℤ) → round_div (neg_ℤ a) d ≡ neg_ℤ (round_div a d)
unfolding round_div round_magnitude
round-odd (pos zero) d = let e = none (nat_abs d) in rw e
  where
    none : (m : ℕ) → round_magnitude 0 m ≡ 0
    none zero = refl
    none (suc m) = div-eq_of_lt (omega arith)
round-odd (pos (suc n)) d = refl
round-odd (negsuc n) d = sym (neg_ℤ-neg_ℤ (pos (round_magnitude (suc n) (nat_abs d))))

nearest-odd : {a d r : ℤ} → Nearest a d r → Nearest (neg_ℤ a) d (neg_ℤ r)
nearest-odd {a} {d} {r} k = record {
  nearest = λ s. rw (turned r, turned-back s) (k.nearest (neg_ℤ s));
  away = λ s e. rw (abs_neg r) (simp abs_neg at (k.away (neg_ℤ s) (sym (turned-back s) ∙ e ∙ turned r)));
}
  where
    turn : (s d a : ℤ) → neg_ℤ s *ℤ d -ℤ neg_ℤ a ≡ neg_ℤ (s *ℤ d -ℤ a)
    turn s d a = ring (s ∷ d ∷ a ∷ []) (search polynomials depth 20 fits 9000) refl

    turned : (s : ℤ) → nat_abs (neg_ℤ s *ℤ d -ℤ neg_ℤ a) ≡ nat_abs (s *ℤ d -ℤ a)
    turned s = ap nat_abs (turn s d a) ∙ abs_neg (s *ℤ d -ℤ a)

    turned-back : (s : ℤ) → nat_abs (s *ℤ d -ℤ neg_ℤ a) ≡ nat_abs (neg_ℤ s *ℤ d -ℤ a)
    turned-back s = ap (λ (z : ℤ). nat_abs (z *ℤ d -ℤ neg_ℤ a)) (sym (neg_ℤ-neg_ℤ s)) ∙ turned (neg_ℤ s)

nearest-above : (n m : ℕ) → pos 0 <ℤ pos m → Nearest (pos n) (pos m) (round_div (pos n) (pos m))
unfolding round_div
nearest-above n m h = record { nearest = λ s. closest (pos n) (pos m) s h; away = away }
  where
    R : ℕ
    R = round_magnitude n m

    b : (2 * (R * m) ≤ 2 * n + m) × (2 * n + m < 2 * (R * m) + 2 * m)
    b = magnitude-bounds n m (omega (arith, lt-parts h))

    near : 2 * nat_abs (pos R *ℤ pos m -ℤ pos n) ≤ m
    near = round-near (pos n) (pos m) h

    away : (s : ℤ) → nat_abs (s *ℤ pos m -ℤ pos n) ≡ nat_abs (pos R *ℤ pos m -ℤ pos n) → nat_abs s ≤ R
    away (pos S) e = omega (ints, ≤-unless (pos S) (pos R) (λ g. omega (arith, b.1, near, e, mul-le-mul_right m (lt-parts g), abs-above (nat S ⊗ nat m ⊝ nat n))))
    away (negsuc S) e = absurd (omega (arith, near, e, lt-parts h, abs-below (⟨ negsuc S ⟩ ⊗ nat m ⊝ nat n)))

-- `round_div a d` is the nearest whole number, halves away from zero, and nothing else is
pub round-nearest : (a d : ℤ) → pos 0 <ℤ d → Nearest a d (round_div a d)
round-nearest a (negsuc m) h = absurd h.lt
round-nearest (pos n) (pos m) h = nearest-above n m h
round-nearest (negsuc n) (pos m) h = subst (Nearest (negsuc n) (pos m)) (sym (round-odd (pos (suc n)) (pos m))) (nearest-odd (nearest-above (suc n) m h))

pub round_is : (a d r : ℤ) → pos 0 <ℤ d → r ≡ round_div a d ↔ Nearest a d r
round_is a d r h = ((λ e. rw e (round-nearest a d h)), only)
  where
    -- equally large and at most 1 apart
    equal : (r s : ℤ) → nat_abs r ≡ nat_abs s → nat_abs (r -ℤ s) < 2 → r ≡ s
    equal (pos n) (pos m) e l = ap pos e
    equal (pos n) (negsuc m) e l = absurd (omega (arith, e, abs-above (nat n ⊝ ⟨ negsuc m ⟩)))
    equal (negsuc n) (pos m) e l = absurd (omega (arith, e, abs-below (⟨ negsuc n ⟩ ⊝ nat m)))
    equal (negsuc n) (negsuc m) e l = ap negsuc (omega (arith, e))

    only : Nearest a d r → r ≡ round_div a d
    only k =
        let n = round-nearest a d h in
        let e = le_antisymm (k.nearest (round_div a d)) (n.nearest r) in
        equal r (round_div a d) (le_antisymm (n.away r e) (k.away (round_div a d) (sym e)))
        (lt_of_mul-lt-mul_right (nat_abs d) (omega (arith, far a d r (round_div a d), round-near a d h, e, abs-pos h)))

-- equal fractions round alike
magnitude-same : (n m k l : ℕ) → 0 < m → 0 < l → n * l ≡ k * m → round_magnitude n m ≡ round_magnitude k l
unfolding round_magnitude
magnitude-same n m k l hm hl e =
    sym (mul-div-mul_left (2 * n + m) (2 * m) hl)
    ∙ ap₂ ◌/◌ (omega (arith, e)) (omega arith)
    ∙ mul-div-mul_left {m = m} (2 * k + l) (2 * l) hm

level : {x y : ℤ} → x ≡ y → x ≤ℤ y
level {x} e = subst (λ (z : ℤ). x ≤ℤ z) e (≤ℤ_refl x)

pub round_same : (a d b c : ℤ) → pos 0 <ℤ d → pos 0 <ℤ c → a *ℤ c ≡ b *ℤ d → round_div a d ≡ round_div b c
unfolding round_div
round_same a (negsuc m) b c hd hc e = absurd hd.lt
round_same a (pos m) b (negsuc l) hd hc e = absurd hc.lt
round_same (pos n) (pos m) (pos k) (pos l) hd hc e = ap pos (magnitude-same n m k l (abs-pos hd) (abs-pos hc) (ap nat_abs e))
round_same (pos n) (pos m) (negsuc k) (pos l) hd hc e = absurd (omega (arith, lt-parts hd, le? (nat n ⊗ nat l) (⟨ negsuc k ⟩ ⊗ nat m) (level e)))
round_same (negsuc n) (pos m) (pos k) (pos l) hd hc e = absurd (omega (arith, lt-parts hc, le? (nat k ⊗ nat m) (⟨ negsuc n ⟩ ⊗ nat l) (level (sym e))))
round_same (negsuc n) (pos m) (negsuc k) (pos l) hd hc e = ap (λ (z : ℕ). neg_ℤ (pos z)) (magnitude-same (suc n) m (suc k) l (abs-pos hd) (abs-pos hc) (simp abs-mul at (ap nat_abs e)))

-- ---- by a quotient towards zero, as the code goes: half of d goes in front, with the sign of a

pub half-within : {n : ℕ} (d : ℤ) → pos 0 <ℤ d → d within (2 * n) → (shr_z d 2) within n
half-within (negsuc m) h l = absurd h.lt
half-within (pos m) h l = record { abs = omega (arith, div-add-mod m 2, l.abs) }

quotient_is : (n m : ℕ) → 0 < m → (n + m / 2) / m ≡ round_magnitude n m
quotient_is n m h =
    let z = n + m / 2 in
    let q = div-add-mod z m in
    let e = div-add-mod m 2 in
    magnitude-unique n m (z / m) h (omega (arith, q, e)) (omega (arith, q, e, mod-lt z h, mod-lt m two))
  where
    two : 0 < 2
    two = omega arith

pub quotient-above : (a d : ℤ) → pos 0 <ℤ d → pos 0 ≤ℤ a → quot_z (a +ℤ shr_z d 2) d ≡ round_div a d
unfolding round_div
quotient-above a (negsuc m) h l = absurd h.lt
quotient-above (pos n) (pos m) h l = ap pos (quotient_is n m (abs-pos h))
quotient-above (negsuc n) (pos m) h l = absurd l.le

pub quotient-below : (a d : ℤ) → pos 0 <ℤ d → a <ℤ pos 0 → quot_z (a -ℤ shr_z d 2) d ≡ round_div a d
unfolding round_div
quotient-below a (negsuc m) h l = absurd h.lt
quotient-below (pos n) (pos m) h l = absurd (omega (arith, lt-parts l))
quotient-below (negsuc n) (pos m) h l =
    ap (λ (z : ℤ). quot_z z (pos m)) (farther n (m / 2))
    ∙ ap (λ (z : ℕ). neg_ℤ (pos (z / m))) (sym (suc-add n (m / 2)))
    ∙ ap (λ (z : ℕ). neg_ℤ (pos z)) (quotient_is (suc n) m (abs-pos h))
  where
    farther : (n k : ℕ) → negsuc n -ℤ pos k ≡ negsuc (n + k)
    farther n k = eq! (⟨ negsuc n ⟩ ⊝ nat k) ⟨ negsuc (n + k) ⟩ (omega arith)

-- ---- by a floor, for an even d, as the code goes where d is a power of two: ⌊(a + d/2) ÷ d⌋, of a negative a ⌊(a + d/2 − 1) ÷ d⌋

-- m·⌊z ÷ m⌋ ≤ z < m·⌊z ÷ m⌋ + m
floor-bounds : (z : ℤ) (m : ℕ) → 0 < m → ((pos m *ℤ shr_z z m) ≤ℤ z) × (z <ℤ (pos m *ℤ shr_z z m +ℤ pos m))
floor-bounds (pos a) m h = (
  le! (nat m ⊗ nat (a / m)) (nat a) (omega (arith, div-add-mod a m)),
  lt! (nat a) (nat m ⊗ nat (a / m) ⊕ nat m) (omega (arith, div-add-mod a m, mod-lt a h)),
)
floor-bounds (negsuc a) m h = (
  le! (nat m ⊗ ⟨ negsuc (a / m) ⟩) ⟨ negsuc a ⟩ (omega (arith, div-add-mod a m, mod-lt a h)),
  lt! ⟨ negsuc a ⟩ (nat m ⊗ ⟨ negsuc (a / m) ⟩ ⊕ nat m) (omega (arith, div-add-mod a m)),
)

floor-unique : (z q : ℤ) (m : ℕ) → 0 < m → (pos m *ℤ q) ≤ℤ z → z <ℤ (pos m *ℤ q +ℤ pos m) → shr_z z m ≡ q
floor-unique z q m h l u =
    let b = floor-bounds z m h in
    let Q = ⟨ q ⟩ in
    let S = ⟨ shr_z z m ⟩ in
    let low = le? (nat m ⊗ Q) ⟨ z ⟩ l in
    let high = lt? ⟨ z ⟩ (nat m ⊗ Q ⊕ nat m) u in
    let floor = le? (nat m ⊗ S) ⟨ z ⟩ b.0 in
    let next = lt? ⟨ z ⟩ (nat m ⊗ S ⊕ nat m) b.1 in
    ≤-antisym (≤-unless (shr_z z m) q (λ g. omega (arith, mul-le-mul_left m (lt-parts g), floor, high))) (≤-unless q (shr_z z m) (λ g. omega (arith, mul-le-mul_left m (lt-parts g), low, next)))

shift-above : (n half k : ℕ) → 0 < half → k ≡ 0 → shr_z (pos n +ℤ pos half +ℤ pos k) (2 * half) ≡ pos (round_magnitude n (2 * half))
shift-above n half k h e =
    let b = magnitude-bounds n (2 * half) (omega arith) in
    let Z = nat n ⊕ nat half ⊕ nat k in
    let D = nat (2 * half) ⊗ nat (round_magnitude n (2 * half)) in
    floor-unique _ _ (2 * half) (omega arith) (le! D Z (omega (arith, b.0, e))) (lt! Z (D ⊕ nat (2 * half)) (omega (arith, b.1, e)))

shift-below : (n half k : ℕ) → 0 < half → k ≡ 0 → shr_z (negsuc n +ℤ pos half +ℤ negsuc k) (2 * half) ≡ neg_ℤ (pos (round_magnitude (suc n) (2 * half)))
shift-below n half k h e =
    let b = magnitude-bounds (suc n) (2 * half) (omega arith) in
    let Z = ⟨ negsuc n ⟩ ⊕ nat half ⊕ ⟨ negsuc k ⟩ in
    let D = nat (2 * half) ⊗ minus (nat (round_magnitude (suc n) (2 * half))) in
    floor-unique _ _ (2 * half) (omega arith) (le! D Z (omega (arith, b.1, e))) (lt! Z (D ⊕ nat (2 * half)) (omega (arith, b.0, e)))

-- what fits is, shifted by 63, 0, or −1 where it is negative
pub sign-within : (a : ℤ) → SFits w64 a → (shr_z a (2 ^ 63)) within 1
sign-within (pos n) f = record { abs = rw (div-eq_of_lt f.sfits) (omega arith) }
sign-within (negsuc n) f = record { abs = rw (div-eq_of_lt f.sfits) (omega arith) }

pub round-shift : (a : ℤ) (half : ℕ) → 0 < half → SFits w64 a → shr_z (a +ℤ pos half +ℤ shr_z a (2 ^ 63)) (2 * half) ≡ round_div a (pos (2 * half))
unfolding round_div
round-shift (pos n) half h f = shift-above n half (n / 2 ^ 63) h (div-eq_of_lt f.sfits)
round-shift (negsuc n) half h f = shift-below n half (n / 2 ^ 63) h (div-eq_of_lt f.sfits)

-- it fits where a does
pub round-fits : {w : Width} (a d : ℤ) → pos 0 <ℤ d → SFits w a → SFits w (round_div a d)
round-fits a (negsuc m) h f = absurd h.lt
round-fits {w} a (pos (suc m)) h f =
    let u = round-at-most a (pos (pos_part a)) (pos (suc m)) h (le! ⟨ a ⟩ (nat (pos_part a) ⊗ nat (suc m)) (omega arith)) in
    let l = round-at-least a (neg_ℤ (pos (neg_part a))) (pos (suc m)) h (le! (minus (nat (neg_part a)) ⊗ nat (suc m)) ⟨ a ⟩ (omega arith)) in
    fits! ⟨ round_div a (pos (suc m)) ⟩ (omega (ints, le? (minus (nat (neg_part a))) ⟨ round_div a (pos (suc m)) ⟩ l, fits-pos-part f, fits-neg-part f))
round-fits a (pos zero) h f = absurd h.lt
