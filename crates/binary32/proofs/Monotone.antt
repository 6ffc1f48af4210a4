-- Floats go out in the order of their counts (specs/Monotone.antt): above zero by the library's `round_mono`, below it by the same of the
-- magnitudes, and a negative float is at most any other. Assumes nothing.
use mathlib.Core.Path.{◌≡◌, refl, sym, ap, ◌∙◌, subst}
use mathlib.Core.Bool.{Bool, true, false, cond, beq, ◌&&◌, ◌||◌}
use Prim.Native.Nat.{ℕ, zero, suc, ◌+◌, ◌*◌, ◌^◌}
use native.Mathlib.Nat.{mul-le-mul_right}
use native.Mathlib.Omega.{arith}
use lib.Dec.{T, ltb, eqb, lt→ltb, eqb→eq, eqb_refl}
use lib.IntN.{ℤ, pos, negsuc}
use lib.Pow.{pow_pos}
use lib.Ieee.{Float, nan, inf, fin, Format, binary32, prec, low, emax, up, down, odd, units, round, neg, lt, eq, le, fits}
use lib.Ieee.Fits.{round_is, round-fits}
use lib.Ieee.Order.{round_mono}
use Rattle.integers.proofs.Parts.{le_parts}
use Rattle.binary32.specs.Sent.{count_float}
use Rattle.binary32.specs.Monotone.{SentInOrder}

-- ---- the sign of what is rounded

-- x is no NaN, and negative where s is `true`
abbrev HasSign : Bool → Float → Type 0
HasSign s nan = ⊥
HasSign s (inf t) = T (beq s t)
HasSign s (fin t m e) = T (beq s t)

own : (s : Bool) → T (beq s s)
own true = tt
own false = tt

odd_sign : (d : ℕ) (s : Bool) (q k l : ℕ) → HasSign s (odd d s q k l)
unfolding odd
odd_sign d s zero k l = own s
odd_sign d s (suc q) k l = own s

odd-neg : (d q k l : ℕ) → odd d true q k l ≡ neg (odd d false q k l)
unfolding odd neg
odd-neg d zero k l = refl
odd-neg d (suc q) k l = refl

module _ (f : Format) (q k : ℕ) where
  units-sign : (s : Bool) → HasSign s (units f s q k)
  unfolding units
  units-sign s = by (ltb (q * 2 ^ k) (2 ^ (low f + suc (emax f))))
    where
      by : (b : Bool) → HasSign s (cond b (odd (suc (prec f)) s q k (low f)) (inf s))
      by true = odd_sign (suc (prec f)) s q k (low f)
      by false = own s

  units-neg : units f true q k ≡ neg (units f false q k)
  unfolding units neg
  units-neg = by (ltb (q * 2 ^ k) (2 ^ (low f + suc (emax f))))
    where
      by : (b : Bool) → cond b (odd (suc (prec f)) true q k (low f)) (inf true) ≡ neg (cond b (odd (suc (prec f)) false q k (low f)) (inf false))
      by true = odd-neg (suc (prec f)) q k (low f)
      by false = refl

module _ (f : Format) (a c : ℕ) where
  round-sign : (s : Bool) → HasSign s (round f s a c)
  round-sign s = subst (HasSign s) (sym (round_is f s a c)) (units-sign f _ _ s)

  round-neg : round f true a c ≡ neg (round f false a c)
  round-neg = round_is f true a c ∙ units-neg f _ _ ∙ ap neg (sym (round_is f false a c))

-- ---- the order of floats that are not NaN

or_left : (a b : Bool) → T a → T (a || b)
or_left true b t = tt
or_left false b t = elim t [ ]

-- a negative float is at most any other
across : (x y : Float) → HasSign true x → HasSign false y → T (le x y)
unfolding le lt eq
across nan y h k = elim h [ ]
across (inf false) y h k = elim h [ ]
across (inf true) nan h k = elim k [ ]
across (inf true) (inf true) h k = elim k [ ]
across (inf true) (fin true n d) h k = elim k [ ]
across (fin false m e) y h k = elim h [ ]
across (fin true m e) nan h k = elim k [ ]
across (fin true m e) (inf true) h k = elim k [ ]
across (fin true m e) (fin true n d) h k = elim k [ ]
across (inf true) (inf false) h k = tt
across (inf true) (fin false n d) h k = tt
across (fin true m e) (inf false) h k = tt
across (fin true m e) (fin false n d) h k = by (m * up e * down d) (n * up d * down e)
  where
    by : (a b : ℕ) → T (ltb 0 (a + b) || (eqb a b && (false || eqb a 0)))
    by zero zero = tt
    by zero (suc b) = or_left (ltb 0 (0 + suc b)) _ (lt→ltb 0 (0 + suc b) (omega arith))
    by (suc a) b = or_left (ltb 0 (suc a + b)) _ (lt→ltb 0 (suc a + b) (omega arith))

-- with the other sign, in the other order
turned : (x y : Float) → HasSign false x → HasSign false y → T (le x y) → T (le (neg y) (neg x))
unfolding le lt eq neg
turned nan y h k l = elim h [ ]
turned (inf false) nan h k l = elim k [ ]
turned (inf false) (inf true) h k l = elim k [ ]
turned (inf false) (fin _ n d) h k l = elim l [ ]
turned (inf true) y h k l = elim h [ ]
turned (fin false m e) nan h k l = elim k [ ]
turned (fin false m e) (inf true) h k l = elim k [ ]
turned (fin false m e) (fin true n d) h k l = elim k [ ]
turned (fin true m e) y h k l = elim h [ ]
turned (inf false) (inf false) h k l = tt
turned (fin false m e) (inf false) h k l = tt
turned (fin false m e) (fin false n d) h k l =
    let a = m * up e * down d in
    let b = n * up d * down e in
    by (ltb a b) (eqb a b) (eqb b a) (λ t. subst (λ (z : ℕ). T (eqb z a)) (eqb→eq a b t) (eqb_refl a)) l
  where
    by : (p q r : Bool) → (T q → T r) → T (p || (q && true)) → T (p || (r && true))
    by true q r f t = tt
    by false true true f t = tt
    by false true false f t = f tt
    by false false r f t = elim t [ ]

pub sent-in-order : SentInOrder
unfolding count_float
sent-in-order shift (pos n) (pos m) h = round_mono binary32 n (2 ^ shift) m (2 ^ shift) (pow_pos shift) (pow_pos shift) (mul-le-mul_right (2 ^ shift) (omega (arith, le_parts h)))
sent-in-order shift (pos n) (negsuc m) h = absurd (omega (arith, le_parts h))
sent-in-order shift (negsuc n) (pos m) h = across _ _ (round-sign binary32 (suc n) (2 ^ shift) true) (round-sign binary32 m (2 ^ shift) false)
sent-in-order shift (negsuc n) (negsuc m) h = rw (round-neg binary32 (suc n) (2 ^ shift), round-neg binary32 (suc m) (2 ^ shift))
    (turned _ _ (round-sign binary32 (suc m) (2 ^ shift) false) (round-sign binary32 (suc n) (2 ^ shift) false)
    (round_mono binary32 (suc m) (2 ^ shift) (suc n) (2 ^ shift) (pow_pos shift) (pow_pos shift) (mul-le-mul_right (2 ^ shift) (omega (arith, le_parts h)))))

-- and each is one
pub count_fits : (shift : ℕ) (a : ℤ) → T (fits binary32 (count_float shift a))
unfolding count_float
count_fits shift (pos n) = round-fits binary32 false n (2 ^ shift)
count_fits shift (negsuc n) = round-fits binary32 true (suc n) (2 ^ shift)
