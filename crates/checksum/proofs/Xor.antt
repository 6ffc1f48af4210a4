-- Exclusive ors of four numbers, of multiples of two bits, and that are 0. Assumes nothing.
use mathlib.Core.Path.{◌≡◌, sym, ap, ◌∙◌}
use Prim.Native.Nat.{ℕ, zero, suc, ◌*◌, ◌<◌}
use native.Mathlib.Nat.{zero-mul}
use native.Mathlib.Omega.{arith}
use Rattle.integers.proofs.Bits.{xor_assoc}
use lib.Bits.{bit_xor, xor_zero_l, xor_zero_r, xor_self, xor_comm}

pub xor-swap : (a b c d : ℕ) → bit_xor (bit_xor a b) (bit_xor c d) ≡ bit_xor (bit_xor a c) (bit_xor b d)
xor-swap a b c d = xor_assoc a b (bit_xor c d) ∙ ap (bit_xor a) (sym (xor_assoc b c d) ∙ ap (λ (k : ℕ). bit_xor k d) (xor_comm b c) ∙ xor_assoc c b d) ∙ sym (xor_assoc a c (bit_xor b d))

pub xor-digits : (p q m : ℕ) → p < 2 → q < 2 → bit_xor p q * m ≡ bit_xor (p * m) (q * m)
xor-digits zero q m a b = sym (ap (λ (k : ℕ). bit_xor k (q * m)) (zero-mul m))
xor-digits (suc zero) zero m a b = sym (ap (bit_xor (1 * m)) (zero-mul m) ∙ xor_zero_r (1 * m))
xor-digits (suc zero) (suc zero) m a b = zero-mul m ∙ sym (xor_self (1 * m))
xor-digits (suc zero) (suc (suc q)) m a b = absurd (omega arith)
xor-digits (suc (suc p)) q m a b = absurd (omega arith)

pub xor-zero : (a b : ℕ) → bit_xor a b ≡ 0 → a ≡ b
xor-zero a b e = sym (xor_zero_r a) ∙ ap (bit_xor a) (sym (xor_self b)) ∙ sym (xor_assoc a b b) ∙ ap (λ (k : ℕ). bit_xor k b) e ∙ xor_zero_l b
