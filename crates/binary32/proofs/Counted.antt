-- What a register takes of a float, and the count that is nearest to it, by the float's units. Assumes nothing.
use mathlib.Core.Path.{◌≡◌, refl, sym, ap, ap₂, ◌∙◌, subst}
use mathlib.Core.Bool.{Bool, true, false, cond, not, ◌&&◌, ◌||◌, false≢true}
use Prim.Native.Nat.{ℕ, zero, suc, ◌+◌, ◌-◌, ◌*◌, ◌/◌, ◌%◌, ◌^◌, ◌≤◌, ◌<◌}
use native.Mathlib.Nat.{mul_right_comm, mul-one, le_of_lt, lt_of_lt_of_le}
use native.Mathlib.Omega.{arith}
use borrow.Author.Tests.{lt-ltb, ltb-false, eq-eqb, eqb-true, eqb-false}
use lib.Dec.{T, eqb, leb, ltb, lit≤}
use lib.Bits.{bit_and, and_mask}
use mir.Syntax.{w64}
use mir.Val.{SFits, of_z}
use lib.IntN.{ℤ, pos, neg_ℤ, nat_abs, ◌*ℤ◌}
use lib.Signed.{le_z, ◌≤ℤ◌}
use lib.Pow.{pow_pos, pow_mono, shl_lt}
use lib.Ieee.{Float, nan, inf, fin, binary32, up, down, fits, to_bits}
use lib.Ieee.Fits.{down_pos}
use lib.Ieee.Bits.{of_bits-to_bits}
use lib.Ieee.Exact.{HasValue}
use lib.Ieee.Scale.{finite}
use Rattle.integers.specs.Within.{◌within◌}
use Rattle.integers.proofs.Parts.{abs-parts}
use Rattle.integers.proofs.Difference.{⟨◌⟩, nat, minus, ◌⊗◌, le?}
use Rattle.integers.proofs.Machine.{fits! }
use Rattle.integers.proofs.Magnitude.{within-between}
use Rattle.integers.proofs.Order.{is_true, le_yes, ≤_trans}
use Rattle.arithmetic.specs.Round.{round_div}
use Rattle.arithmetic.proofs.Round.{round_same, round-at-least, round-at-most}
use Rattle.binary32.specs.Received.{signed, exact, takes, nearest, counted}
use Rattle.binary32.specs.ForCode.{Computable}
use Rattle.binary32.specs.Units.{units, units_of}
use Rattle.binary32.specs.declared.received.Range.{Range}
use Rattle.binary32.proofs.Pattern.{value, reads, finite-is}
use Rattle.binary32.proofs.Signed.{signed_mul, abs-signed}
use Rattle.binary32.proofs.Units.{Beside, beside, le_same, ge-same, whole_same, above, below, rounded, wholly, above_zero, signed_same}

-- ---- a float as the fraction v / l, with its sign

module _ (shift : ℕ) where
  scaled : (s : Bool) (M d v l : ℕ) → M * l ≡ v * d → signed s M *ℤ pos (2 ^ shift) *ℤ pos l ≡ signed s (v * 2 ^ shift) *ℤ pos d
  scaled s M d v l e =
      ap (λ (z : ℤ). z *ℤ pos l) (signed_mul s M (2 ^ shift))
      ∙ signed_same s (M * 2 ^ shift) (v * 2 ^ shift) l d (mul_right_comm M (2 ^ shift) l ∙ ap (λ (z : ℕ). z * 2 ^ shift) e ∙ mul_right_comm v d (2 ^ shift))

  lower-at : (x : Float) (s : Bool) (v l : ℕ) → 0 < l → HasValue x s v l → (n : ℤ)
      → le_z (n *ℤ (exact x).low) ((exact x).top *ℤ pos (2 ^ shift)) ≡ le_z (n *ℤ pos l) (signed s (v * 2 ^ shift))
  lower-at nan s v l L h n = absurd h
  lower-at (inf t) s v l L h n = absurd h
  lower-at (fin t m g) s v l L h n = rw h.0 (le_same n (signed s (m * up g) *ℤ pos (2 ^ shift)) (pos (down g)) (signed s (v * 2 ^ shift)) (pos l) (above_zero (down_pos g)) (above_zero L) (scaled s (m * up g) (down g) v l h.1))

  upper-at : (x : Float) (s : Bool) (v l : ℕ) → 0 < l → HasValue x s v l → (n : ℤ)
      → le_z ((exact x).top *ℤ pos (2 ^ shift)) (n *ℤ (exact x).low) ≡ le_z (signed s (v * 2 ^ shift)) (n *ℤ pos l)
  upper-at nan s v l L h n = absurd h
  upper-at (inf t) s v l L h n = absurd h
  upper-at (fin t m g) s v l L h n = rw h.0 (ge-same n (signed s (m * up g) *ℤ pos (2 ^ shift)) (pos (down g)) (signed s (v * 2 ^ shift)) (pos l) (above_zero (down_pos g)) (above_zero L) (scaled s (m * up g) (down g) v l h.1))

  nearest-at : (x : Float) (s : Bool) (v l : ℕ) → 0 < l → HasValue x s v l → nearest shift x ≡ round_div (signed s (v * 2 ^ shift)) (pos l)
  unfolding nearest
  nearest-at nan s v l L h = absurd h
  nearest-at (inf t) s v l L h = absurd h
  nearest-at (fin t m g) s v l L h = rw h.0 (round_same (signed s (m * up g) *ℤ pos (2 ^ shift)) (pos (down g)) (signed s (v * 2 ^ shift)) (pos l) (above_zero (down_pos g)) (above_zero L) (scaled s (m * up g) (down g) v l h.1))

whole-at : (x : Float) (s : Bool) (v l : ℕ) → 0 < l → HasValue x s v l → eqb (nat_abs (exact x).top % nat_abs (exact x).low) 0 ≡ eqb (v % l) 0
whole-at nan s v l L h = absurd h
whole-at (inf t) s v l L h = absurd h
whole-at (fin t m g) s v l L h = rw (abs-signed t (m * up g)) (whole_same (m * up g) (down g) v l (down_pos g) L h.1)

-- ---- a float of 32 bits

module _ (shift : ℕ) (S : shift ≤ 28) (x : Float) (F : T (fits binary32 x)) where
  abbrev b : ℕ
  b = to_bits binary32 x

  abbrev size : ℕ
  size = units shift (b % 2 ^ 31)

  -- what is not finite is too large
  infinite : finite x ≡ false → size ≡ 2 ^ 61
  unfolding units
  infinite e = rw (lt-ltb 161 (b % 2 ^ 31 / 2 ^ 23 + shift) (big (b % 2 ^ 31 / 2 ^ 23) (eqb-true (b % 2 ^ 31 / 2 ^ 23) 255 all_ones)))
    where
      all_ones : eqb (b % 2 ^ 31 / 2 ^ 23) 255 ≡ true
      all_ones = by (eqb (b % 2 ^ 31 / 2 ^ 23) 255) (sym (finite-is b) ∙ ap finite (of_bits-to_bits binary32 x F) ∙ e)
        where
          by : (t : Bool) → not t ≡ false → t ≡ true
          by true h = refl
          by false h = sym h

      big : (e : ℕ) → e ≡ 255 → 161 < e + shift
      big e h = omega arith

  module _ (finite-x : finite x ≡ true) where
    abbrev v : ℕ
    v = value (b % 2 ^ 31 / 2 ^ 23) (b % 2 ^ 23)

    valued : HasValue x (leb (2 ^ 31) b) v (2 ^ 149)
    valued = reads x F (is_true finite-x)

    lies : Beside (v * 2 ^ shift) (2 ^ 149) size
    lies = subst (λ (t : ℕ). Beside (value (b % 2 ^ 31 / 2 ^ 23) t * 2 ^ shift) (2 ^ 149) size) (cut b) (beside shift (b % 2 ^ 31) S)
      where
        cut : (n : ℕ) → n % 2147483648 % 8388608 ≡ n % 8388608
        cut n = omega arith

    lower : (n : ℤ) → n within (2 ^ 34) → le_z (n *ℤ (exact x).low) ((exact x).top *ℤ pos (2 ^ shift)) ≡ le_z (n *ℤ pos (2 ^ 25)) (units_of shift x)
    unfolding units_of
    lower n w = lower-at shift x (leb (2 ^ 31) b) v (2 ^ 149) (pow_pos 149) valued n ∙ above (pow_pos 149) lies n w (leb (2 ^ 31) b)

    upper : (n : ℤ) → n within (2 ^ 34) → le_z ((exact x).top *ℤ pos (2 ^ shift)) (n *ℤ (exact x).low) ≡ le_z (units_of shift x) (n *ℤ pos (2 ^ 25))
    unfolding units_of
    upper n w = upper-at shift x (leb (2 ^ 31) b) v (2 ^ 149) (pow_pos 149) valued n ∙ below (pow_pos 149) lies n w (leb (2 ^ 31) b)

    pub nearest-is : size < 2 ^ 61 → nearest shift x ≡ round_div (units_of shift x) (pos (2 ^ 25))
    unfolding units_of
    nearest-is l = nearest-at shift x (leb (2 ^ 31) b) v (2 ^ 149) (pow_pos 149) valued ∙ rounded (pow_pos 149) lies l (leb (2 ^ 31) b)

    wholly-is : shift ≡ 0 → size < 2 ^ 61 → eqb (nat_abs (exact x).top % nat_abs (exact x).low) 0 ≡ eqb (size % 2 ^ 25) 0
    wholly-is e l =
        whole-at x (leb (2 ^ 31) b) v (2 ^ 149) (pow_pos 149) valued
        ∙ ap (λ (k : ℕ). eqb (k % 2 ^ 149) 0) (sym (mul-one v) ∙ ap (λ (k : ℕ). v * 2 ^ k) (sym e))
        ∙ wholly (pow_pos 149) lies l

-- ---- the test, by the units

abbrev pub whole_units : ℕ → ℕ → Bool
whole_units shift size = ltb 0 shift || eqb (size % 2 ^ 25) 0

abbrev pub in_units : Range → ℤ → Bool
in_units r u = le_z (r.least *ℤ pos (2 ^ 25)) u && le_z u (r.most *ℤ pos (2 ^ 25))

-- what is in range is not too large
pub size_in : (r : Range) → Computable r → (s : Bool) (m : ℕ) → T (in_units r (signed s m)) → m < 2 ^ 61
size_in r k false m t = omega (arith, abs-parts r.most, k.most_in.abs, le? (nat m) (⟨ r.most ⟩ ⊗ nat (2 ^ 25)) (le_yes (right (le_z (r.least *ℤ pos (2 ^ 25)) (pos m)) _ t)))
  where
    right : (a b : Bool) → T (a && b) → b ≡ true
    right true true t = refl
    right true false t = absurd t
    right false b t = absurd t
size_in r k true m t = omega (arith, abs-parts r.least, k.least_in.abs, le? (⟨ r.least ⟩ ⊗ nat (2 ^ 25)) (minus (nat m)) (le_yes (left _ (le_z (neg_ℤ (pos m)) (r.most *ℤ pos (2 ^ 25))) t)))
  where
    left : (a b : Bool) → T (a && b) → a ≡ true
    left true b t = refl
    left false b t = absurd t

pub takes-is : (r : Range) → Computable r → (x : Float) → T (fits binary32 x)
    → takes r x ≡ (in_units r (units_of r.shift x) && whole_units r.shift (units r.shift (to_bits binary32 x % 2 ^ 31)))
unfolding takes units_of
takes-is r k x F = by (finite x) refl (in_units r u) refl
  where
    m : ℕ
    m = units r.shift (to_bits binary32 x % 2 ^ 31)

    s : Bool
    s = leb (2 ^ 31) (to_bits binary32 x)

    u : ℤ
    u = signed s m

    lo : Bool
    lo = le_z (r.least *ℤ (exact x).low) ((exact x).top *ℤ pos (2 ^ r.shift))

    hi : Bool
    hi = le_z ((exact x).top *ℤ pos (2 ^ r.shift)) (r.most *ℤ (exact x).low)

    wh : Bool
    wh = ltb 0 r.shift || eqb (nat_abs (exact x).top % nat_abs (exact x).low) 0

    last : (f : finite x ≡ true) → m < 2 ^ 61 → wh ≡ whole_units r.shift m
    last f l = go r.shift refl
      where
        go : (n : ℕ) → r.shift ≡ n → (ltb 0 n || eqb (nat_abs (exact x).top % nat_abs (exact x).low) 0) ≡ (ltb 0 n || eqb (m % 2 ^ 25) 0)
        go zero e = wholly-is r.shift k.shift_in x F f e l
        go (suc n) e = rw (lt-ltb 0 (suc n) (omega arith))

    by : (f : Bool) → finite x ≡ f → (i : Bool) → in_units r u ≡ i → (f && lo && hi && wh) ≡ (i && whole_units r.shift m)
    by true f i e =
        ap₂ (λ (p q : Bool). p && q && wh) (lower r.shift k.shift_in x F f r.least k.least_in) (upper r.shift k.shift_in x F f r.most k.most_in)
        ∙ ap (λ (p : Bool). p && wh) e ∙ rest i e
      where
        rest : (i : Bool) → in_units r u ≡ i → (i && wh) ≡ (i && whole_units r.shift m)
        rest true e = last f (size_in r k s m (is_true e))
        rest false e = refl
    by false f false e = refl
    by false f true e = absurd (omega (arith, size_in r k s m (is_true e), infinite r.shift k.shift_in x F f))

-- ---- as the code has them

pub units-top : (shift p : ℕ) → units shift p ≤ 2 ^ 61
unfolding units
units-top shift p = by (ltb 161 (p / 2 ^ 23 + shift)) refl (leb 125 (p / 2 ^ 23 + shift)) (eqb p 0)
  where
    lead : (p : ℕ) → 8388608 + p % 8388608 < 16777216
    lead p = omega arith

    room : (k : ℕ) → k ≤ 161 → 24 + (k - 125) ≤ 61
    room k h = omega arith

    by : (l : Bool) → ltb 161 (p / 2 ^ 23 + shift) ≡ l → (m z : Bool) → cond l (2 ^ 61) (cond m ((2 ^ 23 + p % 2 ^ 23) * 2 ^ (p / 2 ^ 23 + shift - 125)) (cond z 0 1)) ≤ 2 ^ 61
    by true h m z = lit≤ tt
    by false h true z = le_of_lt (lt_of_lt_of_le (shl_lt 24 (p / 2 ^ 23 + shift - 125) (lead p)) (pow_mono (room (p / 2 ^ 23 + shift) (ltb-false 161 _ h))))
    by false h false true = lit≤ tt
    by false h false false = lit≤ tt

module _ (r : Range) (k : Computable r) where
  pub least_fits : SFits w64 r.least
  least_fits = fits! ⟨ r.least ⟩ (omega (arith, abs-parts r.least, k.least_in.abs))

  pub most-fits : SFits w64 r.most
  most-fits = fits! ⟨ r.most ⟩ (omega (arith, abs-parts r.most, k.most_in.abs))

  pub least-units-fit : SFits w64 (r.least *ℤ pos (2 ^ 25))
  least-units-fit = fits! (⟨ r.least ⟩ ⊗ nat (2 ^ 25)) (omega (arith, abs-parts r.least, k.least_in.abs))

  pub most-units-fit : SFits w64 (r.most *ℤ pos (2 ^ 25))
  most-units-fit = fits! (⟨ r.most ⟩ ⊗ nat (2 ^ 25)) (omega (arith, abs-parts r.most, k.most_in.abs))

-- a whole number of counts, by the low 25 bits of what the machine holds
pub low_bits : (s : Bool) (m : ℕ) → m ≤ 2 ^ 61 → eqb (bit_and (of_z w64 (signed s m)) 33554431) 0 ≡ eqb (m % 2 ^ 25) 0
low_bits s m l = ap (λ (n : ℕ). eqb n 0) (and_mask (of_z w64 (signed s m)) 25) ∙ by s m l
  where
    by : (s : Bool) (m : ℕ) → m ≤ 2305843009213693952 → eqb (of_z w64 (signed s m) % 33554432) 0 ≡ eqb (m % 33554432) 0
    by false m l = refl
    by true zero l = refl
    by true (suc m) l = either (eqb ((18446744073709551616 - suc m) % 33554432) 0) refl (eqb (suc m % 33554432) 0) refl
      where
        either : (p : Bool) → eqb ((18446744073709551616 - suc m) % 33554432) 0 ≡ p → (q : Bool) → eqb (suc m % 33554432) 0 ≡ q → p ≡ q
        either true h q g = sym (eq-eqb (suc m % 33554432) 0 (omega (arith, eqb-true ((18446744073709551616 - suc m) % 33554432) 0 h))) ∙ g
        either false h true g = absurd (eqb-false ((18446744073709551616 - suc m) % 33554432) 0 h (omega (arith, eqb-true (suc m % 33554432) 0 g)))
        either false h false g = refl

-- what is taken is finite
pub taken-finite : (r : Range) (x : Float) → takes r x ≡ true → finite x ≡ true
unfolding takes
taken-finite r nan h = h
taken-finite r (inf s) h = h
taken-finite r (fin s m e) h = refl

pub units-within : (shift : ℕ) (x : Float) → (units_of shift x) within (2 ^ 61)
unfolding units_of
units-within shift x = record { abs = rw (abs-signed (leb (2 ^ 31) (to_bits binary32 x)) (units shift (to_bits binary32 x % 2 ^ 31))) (units-top shift (to_bits binary32 x % 2 ^ 31)) }

-- the nearest count of what is taken
pub taken-nearest : (r : Range) → Computable r → (x : Float) → T (fits binary32 x) → takes r x ≡ true → nearest r.shift x ≡ round_div (units_of r.shift x) (pos (2 ^ 25))
unfolding units_of
taken-nearest r k x F h = nearest-is r.shift k.shift_in x F (taken-finite r x h) (small h)
  where
    left : (a b : Bool) → a && b ≡ true → T a
    left true b e = tt
    left false b e = absurd (false≢true e)

    small : takes r x ≡ true → units r.shift (to_bits binary32 x % 2 ^ 31) < 2 ^ 61
    small h = size_in r k (leb (2 ^ 31) (to_bits binary32 x)) (units r.shift (to_bits binary32 x % 2 ^ 31)) (left (in_units r (units_of r.shift x)) (whole_units r.shift (units r.shift (to_bits binary32 x % 2 ^ 31))) (sym (takes-is r k x F) ∙ h))

-- a count that is taken is in range: rounding leads to no other side of a whole number
pub counted-in : (r : Range) (x : Float) → takes r x ≡ true → (r.least ≤ℤ counted r x) × (counted r x ≤ℤ r.most)
unfolding takes counted nearest
counted-in r nan h = absurd (false≢true h)
counted-in r (inf s) h = absurd (false≢true h)
counted-in r (fin s m e) h =
    let a : ℤ = signed s (m * up e) *ℤ pos (2 ^ r.shift) in
    let d : ℤ = pos (down e) in
    let t = ends (le_z (r.least *ℤ d) a) (le_z a (r.most *ℤ d)) _ h in
    rw h (round-at-least a r.least d (above_zero (down_pos e)) (le_yes {a = r.least *ℤ d} {b = a} t.0), round-at-most a r.most d (above_zero (down_pos e)) (le_yes {a = a} {b = r.most *ℤ d} t.1))
  where
    ends : (a b c : Bool) → a && b && c ≡ true → (a ≡ true) × (b ≡ true)
    ends true true c e = (refl, refl)
    ends true false c e = absurd (false≢true e)
    ends false b c e = absurd (false≢true e)

pub unfit : (r : Range) (x : Float) → takes r x ≡ false → pos 0 ≡ counted r x
unfolding counted
unfit r x e = rw e

-- and any count is within the larger end
pub counted-within : (r : Range) (n : ℕ) → r.least within n → r.most within n → (x : Float) → (counted r x) within n
counted-within r n l m x = by (takes r x) refl
  where
    nought : (n : ℕ) → 0 ≤ n
    nought n = omega arith

    by : (t : Bool) → takes r x ≡ t → (counted r x) within n
    by true e = within-between l m (counted-in r x e).0 (counted-in r x e).1
    by false e = subst (λ (z : ℤ). z within n) (unfit r x e) (record { abs = nought n })

-- of a range from 0 on: a count is never below it
pub counted-up : (r : Range) → pos 0 ≤ℤ r.least → pos 0 ≤ℤ r.most → (x : Float) → (pos 0 ≤ℤ counted r x) × (counted r x ≤ℤ r.most)
counted-up r l m x = by (takes r x) refl
  where
    by : (t : Bool) → takes r x ≡ t → (pos 0 ≤ℤ counted r x) × (counted r x ≤ℤ r.most)
    by true e = (≤_trans l (counted-in r x e).0, (counted-in r x e).1)
    by false e = subst (λ (z : ℤ). (pos 0 ≤ℤ z) × (z ≤ℤ r.most)) (unfit r x e) (record { le = tt }, m)
