-- One bit of an "and", of a power of 2, and of any number. (`bit_or` and `zero_bit` are with STAT.) Assumes nothing.
use mathlib.Core.Path.{◌≡◌, refl, ap}
use mathlib.Core.Bool.{Bool, true, false}
use mathlib.Core.Logic.{◌⊎◌, inl, inr}
use Prim.Native.Nat.{ℕ, zero, suc, ◌+◌, ◌-◌, ◌/◌, ◌%◌, ◌^◌, ◌<◌, min}
use native.Mathlib.Nat.{mul-mod_left, div-eq_of_lt}
use native.Mathlib.Numerals.{unary_clauses}
use native.Mathlib.Omega.{arith}
use borrow.Author.Tests.{ltb-true, ltb-false}
use lib.Bits.{bit_and, and_shr, and_step}
use lib.Dec.{ltb}
use lib.Pow.{pow-add, pow-lt, shl-shr}
use Rattle.compensation.specs.Stat.{bit_at, Raised}

low_and : (x y : ℕ) → bit_and x y % 2 ≡ min (x % 2) (y % 2)
low_and x y = rw (and_step x y) (omega arith)

pub bit-and : (b m n : ℕ) → bit_at b (bit_and m n) ≡ min (bit_at b m) (bit_at b n)
unfolding bit_at
bit-and b m n = rw (and_shr m n b) (low_and _ _)

pub bit-small : (b n : ℕ) → bit_at b n < 2
unfolding bit_at
bit-small b n = omega arith

-- 2^k has bit k and no other
pub bit-power : (b k : ℕ) → Raised b (2 ^ k) → b ≡ k
unfolding bit_at
bit-power b k h = by (ltb b k) (ltb k b) refl refl
  where
    even : (j : ℕ) → 2 ^ suc j % 2 ≡ 0
    even j = simp unary_clauses (mul-mod_left (2 ^ j) 2)

    below : (j : ℕ) → k ≡ suc j + b → 2 ^ k / 2 ^ b % 2 ≡ 0
    below j e = rw (e, pow-add 2 (suc j) b, shl-shr (2 ^ suc j) b) (even j)

    by : (p q : Bool) → ltb b k ≡ p → ltb k b ≡ q → b ≡ k
    by true q e g = absurd (omega (arith, h, below (k - b - 1) (omega (arith, ltb-true b k e))))
    by false true e g = absurd (omega (arith, h, ap (λ (n : ℕ). n % 2) (div-eq_of_lt (pow-lt (ltb-true k b g)))))
    by false false e g = omega (arith, ltb-false b k e, ltb-false k b g)

pub raised-or-not : (b n : ℕ) → Raised b n ⊎ (Raised b n → ⊥)
raised-or-not b n = by (bit_at b n) refl
  where
    by : (k : ℕ) → bit_at b n ≡ k → Raised b n ⊎ (Raised b n → ⊥)
    by zero e = inr (λ r. omega (arith, e, r))
    by (suc k) e = inl (omega (arith, e, bit-small b n))
