-- What i64 code leaves to be shown. A signed local holds bits, so an operand in a need is to_z w64 (of_z w64 x), nested at each
-- operation. `Computed z` undoes that: the plain value v behind z, a bound of |v|, and a Bool that says whether each step on
-- the way fits; `search i64s` finds it from the shape of z, and the rest is computation. Assumes nothing.
use mathlib.Core.Path.{◌≡◌, refl, sym, ◌∙◌, ap, ap₂, subst}
use mathlib.Core.Bool.{Bool, true, false, ◌&&◌}
use Prim.Native.Nat.{ℕ, suc, ◌+◌, ◌*◌, ◌<◌, ◌≤◌, ◌^◌}
use native.Mathlib.Omega.{arith}
use native.Mathlib.Nat.{mul-le-mul, le_refl, le_trans}
use lib.Dec.{T, leb, ltb, leb→le, ltb→lt}
use lib.IntN.{ℤ, pos, negsuc, neg_ℤ, nat_abs, ◌+ℤ◌, ◌*ℤ◌}
use lib.Signed.{mag, ◌<ℤ◌}
use mir.Syntax.{Width, w64}
use mir.Val.{SFits, to_z, of_z, hbits}
use mir.ValLaws.{to_z-of_z}
use Rattle.integers.specs.Within.{◌within◌}
use Rattle.integers.proofs.Parts.{pos_part, neg_part, abs-parts, lt-parts}
use Rattle.integers.proofs.Difference.{Difference, ⟨◌⟩}
use Rattle.integers.proofs.Magnitude.{abs_neg, abs-add, abs-mul}

-- ---- ranges

-- −2ʰ ≤ z < 2ʰ, as two bounds of naturals
pub fits! : {w : Width} {z : ℤ} (A : Difference z) → (A.p < 2 ^ hbits w + A.n) × (A.n ≤ 2 ^ hbits w + A.p) → SFits w z
fits! {w} {z} A h = record { sfits = by z (omega (arith, A.is, h)) (omega (arith, A.is, h)) }
  where
    by : (y : ℤ) → pos_part y < 2 ^ hbits w + neg_part y → neg_part y ≤ 2 ^ hbits w + pos_part y → mag y < 2 ^ hbits w
    by (pos m) u d = omega arith
    by (negsuc m) u d = omega arith

pub fits-pos-part : {w : Width} {z : ℤ} → SFits w z → pos_part z < 2 ^ hbits w
fits-pos-part {z = pos m} f = f.sfits
fits-pos-part {w} {z = negsuc m} f = omega (arith, f.sfits)

pub fits-neg-part : {w : Width} {z : ℤ} → SFits w z → neg_part z ≤ 2 ^ hbits w
fits-neg-part {w} {z = pos m} f = omega arith
fits-neg-part {z = negsuc m} f = f.sfits

abs-fits : {w : Width} {z : ℤ} {n : ℕ} → nat_abs z ≤ n → T (ltb n (2 ^ hbits w)) → SFits w z
abs-fits {w} {z} {n} h t = fits! ⟨ z ⟩ (omega (arith, abs-parts z, ltb→lt n (2 ^ hbits w) t))

-- a divisor above 0: its bits are not 0
pub bits_pos : (w : Width) {z : ℤ} → pos 0 <ℤ z → 0 < of_z w z
bits_pos w {z = pos m} h = omega (arith, lt-parts h)
bits_pos w {z = negsuc m} h = absurd h.lt

-- ---- the plain value

pub record Computed (z : ℤ) : Type 0 where
  pub v : ℤ
  pub bound : ℕ
  pub fit : Bool
  pub bounded : nat_abs v ≤ bound
  pub is : T fit → z ≡ v

pub and_left : (a b : Bool) → T (a && b) → T a
and_left true b t = tt
and_left false b t = t

pub and_right : (a b : Bool) → T (a && b) → T b
and_right true b t = t
and_right false b t = absurd t

-- a leaf is a parameter of which |z| ≤ n is known; a literal
abbrev pub known : {z : ℤ} {n : ℕ} → z within n → Computed z
known {z} {n} h = record { v = z; bound = n; fit = true; bounded = h.abs; is = λ t. refl }

abbrev pub literal : (n : ℕ) → Computed (pos n)
literal n = record { v = pos n; bound = n; fit = true; bounded = le_refl n; is = λ t. refl }

abbrev pub negative-literal : (n : ℕ) → Computed (negsuc n)
negative-literal n = record { v = negsuc n; bound = suc n; fit = true; bounded = le_refl (suc n); is = λ t. refl }

abbrev pub sum : {a b : ℤ} → Computed a → Computed b → Computed (a +ℤ b)
sum A B = record {
  v = A.v +ℤ B.v;
  bound = A.bound + B.bound;
  fit = A.fit && B.fit;
  bounded = omega (arith, abs-add A.v B.v, A.bounded, B.bounded);
  is = λ t. ap₂ ◌+ℤ◌ (A.is (and_left A.fit B.fit t)) (B.is (and_right A.fit B.fit t));
}

abbrev pub negation : {a : ℤ} → Computed a → Computed (neg_ℤ a)
negation A = record { v = neg_ℤ A.v; bound = A.bound; fit = A.fit; bounded = omega (arith, abs_neg A.v, A.bounded); is = λ t. ap neg_ℤ (A.is t) }

abbrev pub product : {a b : ℤ} → Computed a → Computed b → Computed (a *ℤ b)
product A B = record {
  v = A.v *ℤ B.v;
  bound = A.bound * B.bound;
  fit = A.fit && B.fit;
  bounded = rw abs-mul (mul-le-mul A.bounded B.bounded);
  is = λ t. ap₂ ◌*ℤ◌ (A.is (and_left A.fit B.fit t)) (B.is (and_right A.fit B.fit t));
}

-- through the bits and back
pub stored_is : {z v : ℤ} {n : ℕ} → nat_abs v ≤ n → T (ltb n (2 ^ 63)) → z ≡ v → to_z w64 (of_z w64 z) ≡ v
stored_is {v} h t e = ap (λ (y : ℤ). to_z w64 (of_z w64 y)) e ∙ to_z-of_z w64 v (abs-fits h t)

abbrev pub stored : {z : ℤ} → Computed z → Computed (to_z w64 (of_z w64 z))
stored A = record {
  v = A.v;
  bound = A.bound;
  fit = ltb A.bound (2 ^ 63) && A.fit;
  bounded = A.bounded;
  is = λ t. stored_is A.bounded (and_left (ltb A.bound (2 ^ 63)) A.fit t) (A.is (and_right (ltb A.bound (2 ^ 63)) A.fit t));
}

pub ruleset i64s = (tt, literal, negative-literal, stored, sum, negation, product, known)

-- the plain value; that it fits; that it is within n: each by computation, `tt`
pub plain : {z : ℤ} (A : Computed z) → T A.fit → z ≡ A.v
plain A t = A.is t

pub fits : {z : ℤ} (A : Computed z) → T (ltb A.bound (2 ^ 63) && A.fit) → SFits w64 z
fits A t =
    subst (SFits w64) (sym (A.is (and_right (ltb A.bound (2 ^ 63)) A.fit t))) (abs-fits A.bounded (and_left (ltb A.bound (2 ^ 63)) A.fit t))

pub small : {z : ℤ} {n : ℕ} (A : Computed z) → T (leb A.bound n && A.fit) → z within n
small {n} A t = record { abs = rw (A.is (and_right (leb A.bound n) A.fit t)) (le_trans A.bounded (leb→le A.bound n (and_left (leb A.bound n) A.fit t))) }

-- an order of what the machine computes, from that of the plain values
module _ {a b : ℤ} (A : Computed a) (B : Computed b) (t : T (A.fit && B.fit)) where
  pub lt-plain : A.v <ℤ B.v → a <ℤ b
  lt-plain h = rw (A.is (and_left A.fit B.fit t), B.is (and_right A.fit B.fit t)) h

-- a test of equality compares bits
pub eq-bits : (w : Width) (x y : ℤ) → SFits w x → SFits w y → of_z w x ≡ of_z w y → x ≡ y
eq-bits w x y f g e = sym (to_z-of_z w x f) ∙ ap (to_z w) e ∙ to_z-of_z w y g

-- a call's result, through the bits and back, is what its contract says
pub held : {z v : ℤ} → mag z < 2 ^ hbits w64 → z ≡ v → to_z w64 (of_z w64 z) ≡ v
held {z} f e = to_z-of_z w64 z (record { sfits = f }) ∙ e
