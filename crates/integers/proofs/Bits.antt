-- A function over the bits of two numbers that is associative on single bits is associative. So are or and exclusive or. Assumes nothing.
use mathlib.Core.Path.{◌≡◌, refl, sym, ap, ◌∙◌}
use Prim.Native.Nat.{ℕ, zero, suc, ◌/◌, ◌%◌, ◌<◌}
use native.Mathlib.Omega.{arith}
use lib.Arith.{bin_ind}
use lib.Bits.{bit_or, bit_xor, or_zero_l, or_zero_r, or_shr, or_mod, xor_zero_l, xor_zero_r, xor_shr, xor_mod}

by_digits : (m n : ℕ) → m / 2 ≡ n / 2 → m % 2 ≡ n % 2 → m ≡ n
by_digits m n h k = omega arith

module _ (f : ℕ → ℕ → ℕ) (zero-l : (b : ℕ) → f 0 b ≡ b) (zero-r : (a : ℕ) → f a 0 ≡ a) (ones : f (f 1 1) 1 ≡ f 1 (f 1 1)) (half : (a b : ℕ) → f a b / 2 ≡ f (a / 2) (b / 2)) (digit : (a b : ℕ) → f a b % 2 ≡ f (a % 2) (b % 2)) where
  digits : (x y z : ℕ) → x < 2 → y < 2 → z < 2 → f (f x y) z ≡ f x (f y z)
  digits zero y z a b c = ap (λ (k : ℕ). f k z) (zero-l y) ∙ sym (zero-l (f y z))
  digits (suc zero) zero z a b c = ap (λ (k : ℕ). f k z) (zero-r 1) ∙ sym (ap (f 1) (zero-l z))
  digits (suc zero) (suc zero) zero a b c = zero-r (f 1 1) ∙ sym (ap (f 1) (zero-r 1))
  digits (suc zero) (suc zero) (suc zero) a b c = ones
  digits (suc zero) (suc zero) (suc (suc z)) a b c = absurd (omega arith)
  digits (suc zero) (suc (suc y)) z a b c = absurd (omega arith)
  digits (suc (suc x)) y z a b c = absurd (omega arith)

  associative : (a b c : ℕ) → f (f a b) c ≡ f a (f b c)
  associative =
      bin_ind (λ (n : ℕ). (b c : ℕ) → f (f n b) c ≡ f n (f b c))
      (λ b c. ap (λ (k : ℕ). f k c) (zero-l b) ∙ sym (zero-l (f b c)))
      (λ n ih b c. by_digits (f (f n b) c) (f n (f b c))
      (half (f n b) c ∙ ap (λ (k : ℕ). f k (c / 2)) (half n b) ∙ ih (b / 2) (c / 2) ∙ sym (half n (f b c) ∙ ap (f (n / 2)) (half b c)))
      (digit (f n b) c ∙ ap (λ (k : ℕ). f k (c % 2)) (digit n b) ∙ digits (n % 2) (b % 2) (c % 2) (omega arith) (omega arith) (omega arith) ∙ sym (digit n (f b c) ∙ ap (f (n % 2)) (digit b c))))

pub or_assoc : (a b c : ℕ) → bit_or (bit_or a b) c ≡ bit_or a (bit_or b c)
or_assoc = associative bit_or or_zero_l or_zero_r refl (λ a b. or_shr a b 1) (λ a b. or_mod a b 1)

pub xor_assoc : (a b c : ℕ) → bit_xor (bit_xor a b) c ≡ bit_xor a (bit_xor b c)
xor_assoc = associative bit_xor xor_zero_l xor_zero_r refl (λ a b. xor_shr a b 1) (λ a b. xor_mod a b 1)
