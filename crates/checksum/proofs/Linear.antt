-- A function is linear if of an exclusive or it gives the exclusive or of what it gives. Two linear functions that agree on the powers of two
-- below 2^n agree below 2^n. Assumes nothing.
use mathlib.Core.Path.{◌≡◌, refl, sym, ap, ap₂, ◌∙◌}
use mathlib.Core.Bool.{Bool, true, false, ◌&&◌}
use Prim.Native.Nat.{ℕ, zero, suc, ◌+◌, ◌-◌, ◌*◌, ◌/◌, ◌%◌, ◌^◌, ◌<◌}
use native.Mathlib.Nat.{pow-suc, add-zero, one-mul}
use native.Mathlib.Omega.{arith}
use borrow.Author.Tests.{ltb-true, ltb-false}
use lib.Arith.{lt-one}
use lib.Bits.{bit_xor, xor_self, xor_shr, xor_mod, xor_block, xor_shifted, xor_add_and}
use lib.Count.{ones_in, ones, ones_step}
use lib.Dec.{T, eqb, ltb, eqb→eq}
use lib.Pow.{pow_pos}
use Rattle.integers.proofs.Machine.{and_left, and_right}
use Rattle.checksum.proofs.Xor.{xor-swap, xor-digits}

pub record Linear (f : ℕ → ℕ) : Type 0 where
  pub of_xor : (x y : ℕ) → f (bit_xor x y) ≡ bit_xor (f x) (f y)

-- ---- what is linear

pub same : Linear (λ x. x)
same = record { of_xor = λ x y. refl }

pub then : {f g : ℕ → ℕ} → Linear f → Linear g → Linear (λ x. g (f x))
then {f} {g} F G = record { of_xor = λ x y. ap g (F.of_xor x y) ∙ G.of_xor (f x) (f y) }

infixl 30 ◌xor◌
pub ◌xor◌ : {f g : ℕ → ℕ} → Linear f → Linear g → Linear (λ x. bit_xor (f x) (g x))
◌xor◌ {f} {g} F G = record { of_xor = λ x y. ap₂ bit_xor (F.of_xor x y) (G.of_xor x y) ∙ xor-swap (f x) (f y) (g x) (g y) }

pub down : (k : ℕ) → Linear (λ x. x / 2 ^ k)
down k = record { of_xor = λ x y. xor_shr x y k }

pub low : (k : ℕ) → Linear (λ x. x % 2 ^ k)
low k = record { of_xor = λ x y. xor_mod x y k }

pub up : (k : ℕ) → Linear (λ x. x * 2 ^ k)
up k =
    record {
      of_xor = λ x y. sym (add-zero (bit_xor x y * 2 ^ k)) ∙ sym (xor_block k x y 0 0 (pow_pos k) (pow_pos k)) ∙ ap₂ bit_xor (add-zero (x * 2 ^ k)) (add-zero (y * 2 ^ k));
    }

digit : (n o : ℕ) → (n % 2 + o) % 2 ≡ bit_xor (n % 2) (o % 2)
digit n o = omega (arith, xor_add_and n o, xor_mod n o 1)

odd-xor : (k x y : ℕ) → ones_in k (bit_xor x y) % 2 ≡ bit_xor (ones_in k x % 2) (ones_in k y % 2)
unfolding ones_in
odd-xor zero x y = refl
odd-xor (suc k) x y =
    digit (bit_xor x y) (ones_in k (bit_xor x y / 2))
    ∙ ap₂ (λ (p q : ℕ). bit_xor p (ones_in k q % 2)) (xor_mod x y 1) (xor_shr x y 1)
    ∙ ap (bit_xor (bit_xor (x % 2) (y % 2))) (odd-xor k (x / 2) (y / 2))
    ∙ xor-swap (x % 2) (y % 2) (ones_in k (x / 2) % 2) (ones_in k (y / 2) % 2)
    ∙ sym (ap₂ bit_xor (digit x (ones_in k (x / 2))) (digit y (ones_in k (y / 2))))

-- an odd number of ones, of k digits, turns over m
pub odd : (k m : ℕ) → Linear (λ x. ones_in k x % 2 * m)
odd k m = record { of_xor = λ x y. ap (λ (d : ℕ). d * m) (odd-xor k x y) ∙ xor-digits (ones_in k x % 2) (ones_in k y % 2) m (omega arith) (omega arith) }

pub ones-within : (k n : ℕ) → n < 2 ^ k → ones n ≡ ones_in k n
unfolding ones ones_in
ones-within zero n h = ap ones (lt-one h)
ones-within (suc k) n h = ones_step n ∙ ap (λ (m : ℕ). n % 2 + m) (ones-within k (n / 2) (omega (arith, pow-suc 2 k)))

-- ---- the law

-- f and g agree on the powers of two below 2^n
abbrev agree : (ℕ → ℕ) → (ℕ → ℕ) → ℕ → Bool
agree f g zero = true
agree f g (suc n) = eqb (f (2 ^ n)) (g (2 ^ n)) && agree f g n

of_zero : {f : ℕ → ℕ} → Linear f → f 0 ≡ 0
of_zero {f} F = F.of_xor 0 0 ∙ xor_self (f 0)

pub agreed : {f g : ℕ → ℕ} → Linear f → Linear g → (n : ℕ) → T (agree f g n) → (x : ℕ) → x < 2 ^ n → f x ≡ g x
agreed {f} {g} F G zero t x h = ap f (lt-one h) ∙ of_zero F ∙ sym (ap g (lt-one h) ∙ of_zero G)
agreed {f} {g} F G (suc n) t x h = by (agreed F G n (and_right (eqb (f (2 ^ n)) (g (2 ^ n))) (agree f g n) t)) (ltb x (2 ^ n)) refl
  where
    by : ((y : ℕ) → y < 2 ^ n → f y ≡ g y) → (b : Bool) → ltb x (2 ^ n) ≡ b → f x ≡ g x
    by below true e = below x (ltb-true x (2 ^ n) e)
    by below false e =
        let rest = x - 2 ^ n in
        let small : rest < 2 ^ n = omega (arith, ltb-false x (2 ^ n) e, pow-suc 2 n) in
        let apart : bit_xor (2 ^ n) rest ≡ x = omega (arith, ltb-false x (2 ^ n) e, ap (λ (p : ℕ). bit_xor p rest) (one-mul (2 ^ n)), xor_shifted 1 n rest small) in
        ap f (sym apart) ∙ F.of_xor (2 ^ n) rest
        ∙ ap₂ bit_xor (eqb→eq (f (2 ^ n)) (g (2 ^ n)) (and_left (eqb (f (2 ^ n)) (g (2 ^ n))) (agree f g n) t)) (below rest small)
        ∙ sym (G.of_xor (2 ^ n) rest) ∙ ap g apart
