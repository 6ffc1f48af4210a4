-- The order of whole numbers: its laws, products of inequalities, and what a test says. Assumes nothing.
use mathlib.Core.Path.{◌≡◌, refl, sym, ◌∙◌, subst}
use mathlib.Core.Bool.{Bool, true, false, not, cond}
use mathlib.Core.Logic.{◌⊎◌, inl, inr, ⊎_elim}
use Prim.Native.Nat.{ℕ, ◌+◌, ◌*◌, ◌-◌, ◌≤◌}
use native.Mathlib.Omega.{arith}
use native.Mathlib.Nat.{mul-le-mul_right}
use lib.Dec.{T, nleb→lt, lt→ltb}
use lib.IntN.{ℤ, pos, negsuc, neg_ℤ, ◌-ℤ◌, ◌*ℤ◌}
use lib.Signed.{lt_z, le_z, ◌≤ℤ◌, ◌<ℤ◌, le_z_yes, lt_z_yes, lt_z_no, clash_ℤ}
use Rattle.integers.proofs.Parts.{parts-le, parts-eq, le_parts, lt-parts, ints}
use Rattle.integers.proofs.Difference.{⟨◌⟩, nat, minus, ◌⊝◌, ◌⊗◌, le!, lt! }

-- ---- a test and the fact that it tells, both ways

pub is_true : {b : Bool} → b ≡ true → T b
is_true e = subst T (sym e) tt

pub is_false : {b : Bool} → b ≡ false → T (not b)
is_false e = subst (λ (t : Bool). T (not t)) (sym e) tt

pub lt_yes : {a b : ℤ} → lt_z a b ≡ true → a <ℤ b
lt_yes e = lt_z_yes (is_true e)

pub lt_no : {a b : ℤ} → lt_z a b ≡ false → b ≤ℤ a
lt_no e = lt_z_no (is_false e)

pub le_yes : {a b : ℤ} → le_z a b ≡ true → a ≤ℤ b
le_yes e = le_z_yes (is_true e)

pub le-no : {a b : ℤ} → le_z a b ≡ false → b <ℤ a
le-no {a} {b} e = lt_z_yes (by a b (is_false e))
  where
    by : (a b : ℤ) → T (not (le_z a b)) → T (lt_z b a)
    by (pos a) (pos b) t = lt→ltb b a (nleb→lt a b t)
    by (pos a) (negsuc b) t = tt
    by (negsuc a) (pos b) t = t
    by (negsuc a) (negsuc b) t = lt→ltb a b (nleb→lt b a t)

-- a value that a test picks: what holds of either under its test holds of it
pub pick : {X : Type 0} (b : Bool) (x y : X) (P : X → Type 0) → (b ≡ true → P x) → (b ≡ false → P y) → P (cond b x y)
pick true x y P f g = f refl
pick false x y P f g = g refl

pub yes_le : {a b : ℤ} → a ≤ℤ b → le_z a b ≡ true
yes_le {a} {b} h = by (le_z a b) refl
  where
    by : (t : Bool) → le_z a b ≡ t → le_z a b ≡ true
    by true e = e
    by false e = clash_ℤ (le-no e) h

pub no_le : {a b : ℤ} → b <ℤ a → le_z a b ≡ false
no_le {a} {b} h = by (le_z a b) refl
  where
    by : (t : Bool) → le_z a b ≡ t → le_z a b ≡ false
    by true e = clash_ℤ h (le_yes e)
    by false e = e

pub yes_lt : {a b : ℤ} → a <ℤ b → lt_z a b ≡ true
yes_lt {a} {b} h = by (lt_z a b) refl
  where
    by : (t : Bool) → lt_z a b ≡ t → lt_z a b ≡ true
    by true e = e
    by false e = clash_ℤ h (lt_no e)

pub no_lt : {a b : ℤ} → b ≤ℤ a → lt_z a b ≡ false
no_lt {a} {b} h = by (lt_z a b) refl
  where
    by : (t : Bool) → lt_z a b ≡ t → lt_z a b ≡ false
    by true e = clash_ℤ (lt_yes e) h
    by false e = e

-- ---- laws of the order

pub ≤-or-> : (a b : ℤ) → (a ≤ℤ b) ⊎ (b <ℤ a)
≤-or-> a b = by (le_z a b) refl
  where
    by : (t : Bool) → le_z a b ≡ t → (a ≤ℤ b) ⊎ (b <ℤ a)
    by true e = inl (le_yes e)
    by false e = inr (le-no e)

-- a ≤ b since b < a is impossible, a < b since b ≤ a is
pub ≤-unless : (a b : ℤ) → (b <ℤ a → ⊥) → a ≤ℤ b
≤-unless a b f = ⊎_elim (λ h. h) (λ h. absurd (f h)) (≤-or-> a b)

pub <-unless : (a b : ℤ) → (b ≤ℤ a → ⊥) → a <ℤ b
<-unless a b f = ⊎_elim (λ h. absurd (f h)) (λ h. h) (≤-or-> b a)

pub ≤_trans : {a b c : ℤ} → a ≤ℤ b → b ≤ℤ c → a ≤ℤ c
≤_trans {a} {b} {c} h k = parts-le a c (omega ints)

pub ≤-antisym : {a b : ℤ} → a ≤ℤ b → b ≤ℤ a → a ≡ b
≤-antisym {a} {b} h k = parts-eq a b (omega ints)

pub <-≤ : {a b : ℤ} → a <ℤ b → a ≤ℤ b
<-≤ {a} {b} h = parts-le a b (omega ints)

pub gap-pos : {a b : ℤ} → a <ℤ b → pos 0 <ℤ (b -ℤ a)
gap-pos {a} {b} h = lt! (nat 0) (⟨ b ⟩ ⊝ ⟨ a ⟩) (omega ints)

-- what is below is above, with the other sign
pub neg-le : {a b : ℤ} → a ≤ℤ b → neg_ℤ b ≤ℤ neg_ℤ a
neg-le {a} {b} h = le! (minus ⟨ b ⟩) (minus ⟨ a ⟩) (omega ints)

pub neg-lt : {a b : ℤ} → a <ℤ b → neg_ℤ b <ℤ neg_ℤ a
neg-lt {a} {b} h = lt! (minus ⟨ b ⟩) (minus ⟨ a ⟩) (omega ints)

-- so a test goes the other way
pub lt-neg : (a b : ℤ) → lt_z (neg_ℤ a) (neg_ℤ b) ≡ lt_z b a
lt-neg a b = ⊎_elim (λ l. no_lt (neg-le l) ∙ sym (no_lt l)) (λ l. yes_lt (neg-lt l) ∙ sym (yes_lt l)) (≤-or-> a b)

-- ---- products

-- 0 ≤ (y − x)(v − u), multiplied out: the product of two facts, for `omega`, which multiplies none by itself
pub product : {x y u v : ℕ} → x ≤ y → u ≤ v → x * v + y * u ≤ x * u + y * v
product {x} {y} {u} {v} h k = subst (λ (t : ℕ). x * t + y * u ≤ x * u + y * t) (omega arith) (by (v - u))
  where
    by : (t : ℕ) → x * (u + t) + y * u ≤ x * u + y * (u + t)
    by t = omega (arith, mul-le-mul_right t h)

pub mul-pos : {a b : ℤ} → pos 0 <ℤ a → pos 0 <ℤ b → pos 0 <ℤ (a *ℤ b)
mul-pos {a} {b} h k = lt! (nat 0) (⟨ a ⟩ ⊗ ⟨ b ⟩) (omega (ints, product (lt-parts h) (lt-parts k)))

pub mul-le : {a b m : ℤ} → pos 0 <ℤ m → a ≤ℤ b → (a *ℤ m) ≤ℤ (b *ℤ m)
mul-le {a} {b} {m} h k = le! (⟨ a ⟩ ⊗ ⟨ m ⟩) (⟨ b ⟩ ⊗ ⟨ m ⟩) (omega (ints, product (lt-parts h) (le_parts k)))

pub mul-lt : {a b m : ℤ} → pos 0 <ℤ m → a <ℤ b → (a *ℤ m) <ℤ (b *ℤ m)
mul-lt {a} {b} {m} h k = lt! (⟨ a ⟩ ⊗ ⟨ m ⟩) (⟨ b ⟩ ⊗ ⟨ m ⟩) (omega (ints, product (lt-parts h) (lt-parts k)))

pub mul-cancel : {a b m : ℤ} → pos 0 <ℤ m → (a *ℤ m) ≤ℤ (b *ℤ m) → a ≤ℤ b
mul-cancel {a} {b} h k = ≤-unless a b (λ l. clash_ℤ (mul-lt h l) k)
