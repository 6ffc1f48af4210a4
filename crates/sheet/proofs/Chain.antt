-- The first fault of several: what a number of 0 says, and what code with early returns gives. Assumes nothing.
use Rattle.std.proofs.Common.{◌≡◌, ℕ, zero, suc, ◌+◌, ◌-◌, ◌*◌, ◌<◌, Bool, true, false, ltb, List, get_or, set, sym, refl, ap, subst, ◌∙◌, add-one, arith, ltb-true, ltb-false}
use native.Mathlib.Numerals.{unary_clauses}
use Rattle.sheet.specs.Judge.{◌then◌, points_number, against}
use Rattle.sheet.specs.Read.{points_at}

pub then-stop : (a b : ℕ) → (a ≡ 0 → ⊥) → a then b ≡ a
then-stop zero b h = absurd (h refl)
then-stop (suc a) b h = refl

pub then-none : {a b : ℕ} → a then b ≡ 0 → (a ≡ 0) × (b ≡ 0)
then-none {a = zero} h = (refl, h)
then-none {a = suc a} h = absurd (omega arith)

pub then-zero : (a : ℕ) → a then 0 ≡ a
then-zero zero = refl
then-zero (suc a) = refl

pub both : {a b : ℕ} → a ≡ 0 → b ≡ 0 → a then b ≡ 0
both {a} {b} e h = rw e h

-- two chains agree, where the second parts need to agree only after no fault
pub then-cong : {a a' b b' : ℕ} → a ≡ a' → (a' ≡ 0 → b ≡ b') → a then b ≡ a' then b'
then-cong {a} {a'} {b} {b'} e h = rw e (by a' h)
  where
    by : (k : ℕ) → (k ≡ 0 → b ≡ b') → k then b ≡ k then b'
    by zero g = g refl
    by (suc k) g = refl

-- code that returns a number which is not 0, and goes on where it is 0
pub stop : {r a : ℕ} (b : ℕ) → r ≡ a → (r ≡ 0 → ⊥) → r ≡ a then b
stop {r} {a} b e h = e ∙ sym (then-stop a b (λ z. h (e ∙ z)))

pub pass : {r a t b : ℕ} → r ≡ a → r ≡ 0 → t ≡ b → t ≡ a then b
pass {r} {a} {t} {b} e z h = h ∙ ap (λ (k : ℕ). k then b) (sym (sym e ∙ z))

-- one point more
pub points-next : (number : ℕ → ℕ) (i : ℕ) → points_number number (i + 1) ≡ points_number number i then number i
points-next number i = rw add-one

-- the first point with a fault
pub points-fault : (number : ℕ → ℕ) (i n : ℕ) → i < n → points_number number i ≡ 0 → 0 < number i → points_number number n ≡ number i
points-fault number i zero h z f = absurd (omega arith)
points-fault number i (suc n) h z f = by (ltb i n) refl (λ k. points-fault number i n k z f)
  where
    by : (t : Bool) → ltb i n ≡ t → (i < n → points_number number n ≡ number i) → points_number number (suc n) ≡ number i
    by true e rest =
        let p = rest (ltb-true i n e) in
        then-stop (points_number number n) (number n) (λ k. absurd (omega arith)) ∙ p
    by false e rest =
        let j : i ≡ n = omega (arith, ltb-false i n e) in
        let k : points_number number n ≡ 0 = subst (λ (m : ℕ). points_number number m ≡ 0) j z in
        rw k (ap number (sym j))

pub against-later : {A : Type 0} (none : A) (number : A → A → ℕ) (points : List A) (i : ℕ) → (i ≡ 0 → ⊥) → against none number points i ≡ number (get_or points (i - 1) none) (get_or points i none)
against-later none number points zero h = absurd (h refl)
against-later none number points (suc i) h = simp unary_clauses

pub points-at-next : {A : Type 0} (none : A) (point_at : List ℕ → ℕ → A) (size cap : ℕ) (s : List ℕ) (at i : ℕ) → points_at none point_at size cap s at (i + 1) ≡ set (points_at none point_at size cap s at i) i (point_at s (at + size * i))
points-at-next none point_at size cap s at i = rw add-one
