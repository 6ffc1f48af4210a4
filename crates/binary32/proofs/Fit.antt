-- `takes` and `counted` are what `specs/Fit.antt` says in the paper's words. Assumes nothing.
use mathlib.Core.Path.{◌≡◌, refl, sym, ap, ap₂, ◌∙◌, subst}
use mathlib.Core.Bool.{Bool, true, false, ◌&&◌, ◌||◌, false≢true}
use Prim.Native.Nat.{ℕ, zero, suc, ◌<◌, ◌*◌, ◌/◌, ◌%◌, ◌^◌}
use native.Mathlib.Nat.{div-add-mod', mul-mod_left, mul-one}
use native.Mathlib.Omega.{arith}
use borrow.Author.Tests.{lt-ltb, eq-eqb, eqb-true}
use lib.Dec.{eqb, ltb}
use lib.IntN.{ℤ, pos, one, nat_abs, ◌*ℤ◌, *ℤ-one}
use lib.Signed.{le_z}
use lib.Ieee.{Float, nan, inf, fin, binary32, up, down, of_int}
use lib.Ieee.Back.{round_whole as round-float}
use lib.Ieee.Exact.{HasValue}
use lib.Ieee.Fits.{down_pos}
use Rattle.integers.proofs.Magnitude.{abs-mul}
use Rattle.integers.proofs.Order.{le_yes, yes_le}
use Rattle.arithmetic.specs.Round.{round_div, Nearest}
use Rattle.arithmetic.proofs.Round.{round-nearest, round_whole}
use Rattle.binary32.specs.Sent.{whole_float}
use Rattle.binary32.specs.Received.{signed, exact, takes, nearest, counted}
use Rattle.binary32.specs.Fit.{in_counts, Whole, Fit, FitTaken}
use Rattle.binary32.specs.declared.received.Range.{Range}
use Rattle.binary32.proofs.Signed.{signed_mul, abs-signed}
use Rattle.binary32.proofs.Units.{above_zero}

-- the tests, one by one
all_three : (a b c : Bool) → a && b && c ≡ true → (a ≡ true) × (b ≡ true) × (c ≡ true)
all_three true true true e = (refl, refl, refl)
all_three true true false e = absurd (false≢true e)
all_three true false c e = absurd (false≢true e)
all_three false b c e = absurd (false≢true e)

-- the test for a whole number, both ways
divided : (s : Bool) (n d : ℕ) → eqb (nat_abs (signed s n) % d) 0 ≡ true → signed s n ≡ signed s (n / d) *ℤ pos d
divided s n d e = ap (signed s) (whole n d (ap (λ (k : ℕ). k % d) (sym (abs-signed s n)) ∙ eqb-true (nat_abs (signed s n) % d) 0 e)) ∙ sym (signed_mul s (n / d) d)
  where
    whole : (n d : ℕ) → n % d ≡ 0 → n ≡ n / d * d
    whole n d h = omega (arith, div-add-mod' n d)

a-multiple : (a n : ℤ) (d : ℕ) → a ≡ n *ℤ pos d → eqb (nat_abs a % d) 0 ≡ true
a-multiple a n d e = eq-eqb (nat_abs a % d) 0 (ap (λ (z : ℤ). nat_abs z % d) e ∙ ap (λ (k : ℕ). k % d) (abs-mul n (pos d)) ∙ mul-mod_left (nat_abs n) d)

fit : (r : Range) (x : Float) → takes r x ≡ true → Fit r x
unfolding takes
fit r nan h = absurd (false≢true h)
fit r (inf s) h = absurd (false≢true h)
fit r (fin s m e) h =
    let a : ℤ = signed s (m * up e) *ℤ pos (2 ^ r.shift) in
    let d : ℤ = pos (down e) in
    let t = all_three (le_z (r.least *ℤ d) a) (le_z a (r.most *ℤ d)) (ltb 0 r.shift || eqb (nat_abs (signed s (m * up e)) % down e) 0) h in
    record {
      is_finite = refl;
      at_least = le_yes {a = r.least *ℤ d} {b = a} t.0;
      at_most = le_yes {a = a} {b = r.most *ℤ d} t.1;
      whole = λ z. record { number = signed s (m * up e / down e); is = divided s (m * up e) (down e) (subst (λ (k : ℕ). (ltb 0 k || eqb (nat_abs (signed s (m * up e)) % down e) 0) ≡ true) z t.2) };
    }

taken : (r : Range) (x : Float) → Fit r x → takes r x ≡ true
unfolding takes
taken r nan h = h.is_finite
taken r (inf s) h = h.is_finite
taken r (fin s m e) h =
    let a : ℤ = signed s (m * up e) *ℤ pos (2 ^ r.shift) in
    let d : ℤ = pos (down e) in
    ap₂ ◌&&◌ (ap₂ ◌&&◌ (yes_le {a = r.least *ℤ d} {b = a} h.at_least) (yes_le {a = a} {b = r.most *ℤ d} h.at_most)) (by r.shift h.whole)
  where
    by : (n : ℕ) → (n ≡ 0 → Whole (exact (fin s m e))) → (ltb 0 n || eqb (nat_abs (signed s (m * up e)) % down e) 0) ≡ true
    by zero w = a-multiple (signed s (m * up e)) (w refl).number (down e) (w refl).is
    by (suc n) w = rw (lt-ltb 0 (suc n) (omega arith))

rounded : (r : Range) (x : Float) → Fit r x → Nearest (in_counts r x).top (in_counts r x).low (counted r x)
unfolding counted nearest
rounded r nan h = absurd (false≢true h.is_finite)
rounded r (inf s) h = absurd (false≢true h.is_finite)
rounded r (fin s m e) h = rw (taken r (fin s m e) h) (round-nearest (signed s (m * up e) *ℤ pos (2 ^ r.shift)) (pos (down e)) (above_zero (down_pos e)))

pub fit-taken : FitTaken
fit-taken = record { taken = λ r x. (fit r x, taken r x); rounded = rounded }

-- a whole number is counted as itself
pub counted-whole : (r : Range) (x : Float) → takes r x ≡ true → r.shift ≡ 0 → (z : ℤ) → (exact x).top ≡ z *ℤ (exact x).low → counted r x ≡ z
unfolding counted nearest one
counted-whole r nan h e z is = absurd (false≢true (fit r nan h).is_finite)
counted-whole r (inf s) h e z is = absurd (false≢true (fit r (inf s) h).is_finite)
counted-whole r (fin s m e) h none z is =
    let a : ℤ = signed s (m * up e) in
    rw h (ap (λ (k : ℤ). round_div k (pos (down e))) (ap (λ (n : ℕ). a *ℤ pos (2 ^ n)) none ∙ *ℤ-one a ∙ is) ∙ round_whole z (pos (down e)) (above_zero (down_pos e)))

pub whole-counted : (r : Range) (x : Float) → takes r x ≡ true → r.shift ≡ 0 → (exact x).top ≡ counted r x *ℤ (exact x).low
whole-counted r x h e = let w = (fit r x h).whole e in w.is ∙ ap (λ (z : ℤ). z *ℤ (exact x).low) (sym (counted-whole r x h e w.number w.is))

-- and one of 16 bits is sent as itself
pub whole-exact : (n : ℕ) → n < 2 ^ 16 → (exact (whole_float n)).top ≡ pos n *ℤ (exact (whole_float n)).low
unfolding of_int
whole-exact n h = by (whole_float n) (round-float binary32 false n (omega (arith, h)))
  where
    by : (x : Float) → HasValue x false n 1 → (exact x).top ≡ pos n *ℤ (exact x).low
    by nan v = absurd v
    by (inf s) v = absurd v
    by (fin s m e) v = rw v.0 (ap pos (sym (mul-one (m * up e)) ∙ v.1))
