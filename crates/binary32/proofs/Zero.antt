-- What SZ takes, by the pattern without its sign: of two positive floats the larger has the larger pattern, and that of 32,000.0 is
-- 46FA0000, with the exponent's field 141. Assumes nothing.
use mathlib.Core.Path.{◌≡◌, refl, sym, ap, ap₂, ◌∙◌}
use mathlib.Core.Bool.{Bool, true, false, cond, ◌&&◌}
use Prim.Native.Nat.{ℕ, ◌+◌, ◌-◌, ◌*◌, ◌/◌, ◌%◌, ◌^◌, ◌≤◌, ◌<◌}
use native.Mathlib.Nat.{le_trans, le_of_lt, lt_of_lt_of_le, mul-le-mul_left, mul-le-mul_right, le-add_right}
use native.Mathlib.Omega.{arith}
use borrow.Author.Tests.{ltb-true, ltb-false, leb-true, leb-false, le-leb, lt-leb}
use lib.Dec.{T, eqb, leb, ltb, lit≤, lit<}
use lib.IntN.{pos, neg_ℤ}
use lib.Signed.{le_z}
use lib.Pow.{pow_mono, shl_lt}
use lib.Ieee.{Float, binary32, fits, to_bits}
use Rattle.integers.proofs.Difference.{nat, minus, le!, lt! }
use Rattle.integers.proofs.Order.{yes_le, no_le}
use Rattle.binary32.specs.Received.{signed, takes, zero_range}
use Rattle.binary32.specs.ForCode.{Computable}
use Rattle.binary32.specs.Units.{units, units_of}
use Rattle.binary32.proofs.Counted.{takes-is, in_units}

-- the pattern of 32,000.0, and 32,000 in units
abbrev top : ℕ
top = 1190789120

abbrev most : ℕ
most = 70368744177664000

-- ---- a pattern's digits, 24 bits, at the place of its exponent's field e

lead : (b : ℕ) → 8388608 + b % 8388608 < 16777216
lead b = omega arith

low-digits : (b e : ℕ) → e < 141 → 109 ≤ e → (2 ^ 23 + b % 2 ^ 23) * 2 ^ (e + 16 - 125) ≤ most
low-digits b e h k = le_of_lt (lt_of_lt_of_le (shl_lt 24 (e + 16 - 125) (lead b)) (le_trans (pow_mono (room e h)) (lit≤ tt)))
  where
    room : (e : ℕ) → e < 141 → 24 + (e + 16 - 125) ≤ 55
    room e h = omega arith

high-digits : (b e : ℕ) → 141 < e → most < (2 ^ 23 + b % 2 ^ 23) * 2 ^ (e + 16 - 125)
high-digits b e h = lt_of_lt_of_le (lit< tt) (le_trans (mul-le-mul_right (2 ^ 33) (le-add_right (2 ^ 23) (b % 2 ^ 23))) (mul-le-mul_left (2 ^ 23 + b % 2 ^ 23) (pow_mono (room e h))))
  where
    room : (e : ℕ) → 141 < e → 33 ≤ e + 16 - 125
    room e h = omega arith

module _ (b : ℕ) where
  abbrev e : ℕ
  e = b / 2 ^ 23

  abbrev digits : ℕ
  digits = (2 ^ 23 + b % 2 ^ 23) * 2 ^ (e + 16 - 125)

  same-field : e ≡ 141 → leb digits most ≡ leb b top
  same-field h = ap (λ (k : ℕ). leb ((2 ^ 23 + b % 2 ^ 23) * 2 ^ (k + 16 - 125)) most) h ∙ by (leb b top) refl
    where
      at : ℕ
      at = (8388608 + b % 8388608) * 4294967296

      by : (t : Bool) → leb b top ≡ t → leb at most ≡ t
      by true g = le-leb at most (omega (arith, leb-true b top g))
      by false g = lt-leb at most (omega (arith, leb-false b top g))

  by_digits : 109 ≤ e → leb digits most ≡ leb b top
  by_digits h = by (ltb e 141) refl (ltb 141 e) refl
    where
      by : (l : Bool) → ltb e 141 ≡ l → (g : Bool) → ltb 141 e ≡ g → leb digits most ≡ leb b top
      by true l g k = le-leb digits most (low-digits b e (ltb-true e 141 l) h) ∙ sym (le-leb b top (omega (arith, ltb-true e 141 l)))
      by false l true k = lt-leb digits most (high-digits b e (ltb-true 141 e k)) ∙ sym (lt-leb b top (omega (arith, ltb-true 141 e k)))
      by false l false k = same-field (omega (arith, ltb-false e 141 l, ltb-false 141 e k))

  pub by-pattern : leb (units 16 b) most ≡ leb b top
  unfolding units
  by-pattern = by (ltb 161 (e + 16)) refl (leb 125 (e + 16)) refl (eqb b 0)
    where
      by : (l : Bool) → ltb 161 (e + 16) ≡ l → (m : Bool) → leb 125 (e + 16) ≡ m → (z : Bool) → leb (cond l (2 ^ 61) (cond m digits (cond z 0 1))) most ≡ leb b top
      by true h m k z = sym (lt-leb b top (omega (arith, ltb-true 161 (e + 16) h)))
      by false h true k z = by_digits (omega (arith, leb-true 125 (e + 16) k))
      by false h false k true = sym (le-leb b top (omega (arith, leb-false 125 (e + 16) k)))
      by false h false k false = sym (le-leb b top (omega (arith, leb-false 125 (e + 16) k)))

-- ---- with either sign

within-zero : (s : Bool) (m : ℕ) → in_units zero_range (signed s m) ≡ leb m most
within-zero s m = by s (leb m most) refl
  where
    by : (s t : Bool) → leb m most ≡ t → in_units zero_range (signed s m) ≡ t
    by false true h = ap₂ ◌&&◌ (yes_le {a = neg_ℤ (pos most)} {b = pos m} (le! (minus (nat most)) (nat m) (omega arith))) (yes_le {a = pos m} {b = pos most} (le! (nat m) (nat most) (omega (arith, leb-true m most h))))
    by false false h = ap₂ ◌&&◌ (yes_le {a = neg_ℤ (pos most)} {b = pos m} (le! (minus (nat most)) (nat m) (omega arith))) (no_le {a = pos m} {b = pos most} (lt! (nat most) (nat m) (omega (arith, leb-false m most h))))
    by true true h = ap₂ ◌&&◌ (yes_le {a = neg_ℤ (pos most)} {b = neg_ℤ (pos m)} (le! (minus (nat most)) (minus (nat m)) (omega (arith, leb-true m most h)))) (yes_le {a = neg_ℤ (pos m)} {b = pos most} (le! (minus (nat m)) (nat most) (omega arith)))
    by true false h = ap (λ (t : Bool). t && le_z (neg_ℤ (pos m)) (pos most)) (no_le {a = neg_ℤ (pos most)} {b = neg_ℤ (pos m)} (lt! (minus (nat m)) (minus (nat most)) (omega (arith, leb-false m most h))))

pub zero-taken : (x : Float) → T (fits binary32 x) → leb (to_bits binary32 x % 2 ^ 31) top ≡ takes zero_range x
unfolding units_of
zero-taken x F =
    let b = to_bits binary32 x in
    sym (takes-is zero_range computable x F ∙ only (in_units zero_range (units_of 16 x)) ∙ within-zero (leb (2 ^ 31) b) (units 16 (b % 2 ^ 31)) ∙ by-pattern (b % 2 ^ 31))
  where
    only : (t : Bool) → (t && true) ≡ t
    only true = refl
    only false = refl

    computable : Computable zero_range
    computable = record { shift_in = lit≤ tt; least_in = record { abs = lit≤ tt }; most_in = record { abs = lit≤ tt } }
