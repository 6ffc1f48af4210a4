-- What a binary32's bit pattern is read as: the sign, the exponent's field e and the digits t give the value, in units of 2 ^ -149; and which patterns are finite.
-- Assumes nothing.
use mathlib.Core.Path.{◌≡◌, refl, sym, ap, ◌∙◌, subst}
use mathlib.Core.Bool.{Bool, true, false, not, cond}
use Prim.Native.Nat.{ℕ, zero, suc, ◌+◌, ◌*◌, ◌/◌, ◌%◌, ◌^◌}
use lib.Dec.{T, leb, eqb}
use lib.Ieee.{Float, nan, inf, binary32, odd, fits, of_fields, of_bits, to_bits}
use lib.Ieee.Bits.{of_bits-to_bits}
use lib.Ieee.Exact.{HasValue, odd_sign}
use lib.Ieee.Scale.{finite}

abbrev pub value : ℕ → ℕ → ℕ
value zero t = t * 2 ^ 0
value (suc j) t = (2 ^ 23 + t) * 2 ^ j

read : (s : Bool) (e t : ℕ) → T (finite (of_fields binary32 s e t)) → HasValue (of_fields binary32 s e t) s (value e t) (2 ^ 149)
unfolding of_fields
read s zero t r = odd_sign 24 s t 0 149
read s (suc j) t r = go (eqb (suc j) 255) (eqb t 0) r
  where
    go : (a b : Bool) → T (finite (cond a (cond b (inf s) nan) (odd 24 s (2 ^ 23 + t) j 149))) → HasValue (cond a (cond b (inf s) nan) (odd 24 s (2 ^ 23 + t) j 149)) s ((2 ^ 23 + t) * 2 ^ j) (2 ^ 149)
    go true true r = absurd r
    go true false r = absurd r
    go false b r = odd_sign 24 s (2 ^ 23 + t) j 149

pub of_bits_is : (b : ℕ) → of_bits binary32 b ≡ of_fields binary32 (leb (2 ^ 31) b) (b % 2 ^ 31 / 2 ^ 23) (b % 2 ^ 23)
unfolding of_bits
of_bits_is b = refl

pub reads : (x : Float) → T (fits binary32 x) → T (finite x) → HasValue x (leb (2 ^ 31) (to_bits binary32 x)) (value (to_bits binary32 x % 2 ^ 31 / 2 ^ 23) (to_bits binary32 x % 2 ^ 23)) (2 ^ 149)
reads x F r =
    let b = to_bits binary32 x in
    let s = leb (2 ^ 31) b in
    let e = b % 2 ^ 31 / 2 ^ 23 in
    let t = b % 2 ^ 23 in
    let is : x ≡ of_fields binary32 s e t = sym (of_bits-to_bits binary32 x F) ∙ of_bits_is b in
    subst (λ (y : Float). HasValue y s (value e t) (2 ^ 149)) (sym is) (read s e t (subst (λ (y : Float). T (finite y)) is r))

-- ---- which patterns are finite: those whose exponent's field is not all ones
odd-finite : (d : ℕ) (s : Bool) (q k l : ℕ) → finite (odd d s q k l) ≡ true
unfolding odd
odd-finite d s zero k l = refl
odd-finite d s (suc q) k l = refl

fields-finite : (s : Bool) (e t : ℕ) → finite (of_fields binary32 s e t) ≡ not (eqb e 255)
unfolding of_fields
fields-finite s zero t = odd-finite 24 s t 0 149
fields-finite s (suc j) t = go (eqb (suc j) 255) (eqb t 0)
  where
    go : (a b : Bool) → finite (cond a (cond b (inf s) nan) (odd 24 s (2 ^ 23 + t) j 149)) ≡ not a
    go true true = refl
    go true false = refl
    go false b = odd-finite 24 s (2 ^ 23 + t) j 149

pub finite-is : (n : ℕ) → finite (of_bits binary32 n) ≡ not (eqb (n % 2 ^ 31 / 2 ^ 23) 255)
finite-is n = ap finite (of_bits_is n) ∙ fields-finite (leb (2 ^ 31) n) (n % 2 ^ 31 / 2 ^ 23) (n % 2 ^ 23)
