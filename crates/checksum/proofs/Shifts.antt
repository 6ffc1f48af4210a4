-- Shifts of an exclusive or are the exclusive or of the shifts, and what stands above the k lowest bits only moves down by k of them. So what
-- is taken in after a byte may stand above it. Assumes nothing.
use mathlib.Core.Path.{◌≡◌, refl, sym, ap, ap₂, ◌∙◌}
use mathlib.Core.Bool.{cond}
use Prim.Native.Nat.{ℕ, zero, suc, ◌+◌, ◌*◌, ◌/◌, ◌%◌, ◌^◌, ◌<◌}
use native.Mathlib.Nat.{add_comm, zero-add, suc-add, mul-one, div-add-mod', div-eq_of_lt, mod-eq_of_lt, mod-lt}
use native.Mathlib.Omega.{arith}
use lib.Bits.{bit_xor, xor_zero_r, xor_comm, xor_lt, xor_shr, xor_mod, xor_shifted, shifted_half, shifted_even}
use lib.Dec.{eqb}
use lib.Pow.{pow_pos}
use Rattle.checksum.specs.Checksum.{shifted, shifts, with_byte}
use Rattle.integers.proofs.Bits.{xor_assoc}
use Rattle.checksum.proofs.Xor.{xor-swap, xor-digits, xor-zero}

-- the bit that drops out, as a factor
shifted-is : (c : ℕ) → shifted c ≡ bit_xor (c / 2) (c % 2 * 0xA001)
unfolding shifted
shifted-is c = by (c % 2) (omega arith)
  where
    by : (d : ℕ) → d < 2 → cond (eqb d 1) (bit_xor (c / 2) 0xA001) (c / 2) ≡ bit_xor (c / 2) (d * 0xA001)
    by zero h = sym (xor_zero_r (c / 2))
    by (suc zero) h = refl
    by (suc (suc d)) h = absurd (omega arith)

shifted-xor : (x y : ℕ) → shifted (bit_xor x y) ≡ bit_xor (shifted x) (shifted y)
shifted-xor x y =
    shifted-is (bit_xor x y)
    ∙ ap₂ (λ (p q : ℕ). bit_xor p (q * 0xA001)) (xor_shr x y 1) (xor_mod x y 1)
    ∙ ap (bit_xor (bit_xor (x / 2) (y / 2))) (xor-digits (x % 2) (y % 2) 0xA001 (omega arith) (omega arith))
    ∙ xor-swap (x / 2) (y / 2) (x % 2 * 0xA001) (y % 2 * 0xA001)
    ∙ sym (ap₂ bit_xor (shifted-is x) (shifted-is y))

pub shifts-xor : (k x y : ℕ) → shifts k (bit_xor x y) ≡ bit_xor (shifts k x) (shifts k y)
unfolding shifts
shifts-xor zero x y = refl
shifts-xor (suc k) x y = ap (shifts k) (shifted-xor x y) ∙ shifts-xor k (shifted x) (shifted y)

shifts-above : (k h : ℕ) → shifts k (h * 2 ^ k) ≡ h
unfolding shifts
shifts-above zero h = mul-one h
shifts-above (suc k) h =
    ap (shifts k) (shifted-is (h * 2 ^ suc k) ∙ ap₂ (λ (p q : ℕ). bit_xor p (q * 0xA001)) (shifted_half h k) (shifted_even h k) ∙ xor_zero_r (h * 2 ^ k))
    ∙ shifts-above k h

shifts-beside : (k h y : ℕ) → shifts k (bit_xor (h * 2 ^ k) y) ≡ bit_xor h (shifts k y)
shifts-beside k h y = shifts-xor k (h * 2 ^ k) y ∙ ap (λ (i : ℕ). bit_xor i (shifts k y)) (shifts-above k h)

shifts-add : (j k x : ℕ) → shifts (j + k) x ≡ shifts k (shifts j x)
unfolding shifts
shifts-add zero k x = ap (λ (n : ℕ). shifts n x) (zero-add k)
shifts-add (suc j) k x = ap (λ (n : ℕ). shifts n x) (suc-add j k) ∙ shifts-add j k (shifted x)

pub shifts-up : (j k y : ℕ) → shifts (j + k) (y * 2 ^ j) ≡ shifts k y
shifts-up j k y = shifts-add j k (y * 2 ^ j) ∙ ap (shifts k) (shifts-above j y)

-- what is above the k bits of w only moves down, beside what the shifts make of the rest
pub beside : (k c w : ℕ) → w < 2 ^ k → bit_xor (shifts k (bit_xor w (c % 2 ^ k))) (c / 2 ^ k) ≡ shifts k (bit_xor c w)
beside k c w h =
    let x = bit_xor c w in
    let high : x / 2 ^ k ≡ c / 2 ^ k = xor_shr c w k ∙ ap (bit_xor (c / 2 ^ k)) (div-eq_of_lt h) ∙ xor_zero_r (c / 2 ^ k) in
    let low : x % 2 ^ k ≡ bit_xor w (c % 2 ^ k) = xor_mod c w k ∙ ap (bit_xor (c % 2 ^ k)) (mod-eq_of_lt h) ∙ xor_comm (c % 2 ^ k) w in
    let whole : bit_xor (x / 2 ^ k * 2 ^ k) (x % 2 ^ k) ≡ x = xor_shifted (x / 2 ^ k) k (x % 2 ^ k) (mod-lt x (pow_pos k)) ∙ div-add-mod' x (2 ^ k) in
    xor_comm (shifts k (bit_xor w (c % 2 ^ k))) (c / 2 ^ k)
    ∙ ap₂ (λ (p q : ℕ). bit_xor p (shifts k q)) (sym high) (sym low)
    ∙ sym (shifts-beside k (x / 2 ^ k) (x % 2 ^ k)) ∙ ap (shifts k) whole

-- what is taken in after a byte stands above it
above-byte : (c b h : ℕ) → b < 256 → bit_xor (h * 256) (bit_xor c b) ≡ bit_xor c (b + h * 256)
above-byte c b h small =
    sym (xor_assoc (h * 256) c b) ∙ ap (λ (i : ℕ). bit_xor i b) (xor_comm (h * 256) c) ∙ xor_assoc c (h * 256) b ∙ ap (bit_xor c) (xor_shifted h 8 b small ∙ add_comm (h * 256) b)

pub by_one : (c b h k : ℕ) → b < 256 → shifts k (bit_xor (with_byte c b) h) ≡ shifts (8 + k) (bit_xor c (b + h * 256))
unfolding with_byte
by_one c b h k small =
    ap (shifts k) (xor_comm (shifts 8 (bit_xor c b)) h ∙ sym (shifts-beside 8 h (bit_xor c b)) ∙ ap (shifts 8) (above-byte c b h small))
    ∙ sym (shifts-add 8 k (bit_xor c (b + h * 256)))

-- ---- sixteen bits stay sixteen bits, and are lost only where they are 0

shifted_fits : (c : ℕ) → c < 65536 → shifted c < 65536
shifted_fits c h = rw (shifted-is c) (xor_lt 16 (c / 2) (c % 2 * 0xA001) (omega arith) (omega arith))

pub shifts_fit : (k c : ℕ) → c < 65536 → shifts k c < 65536
unfolding shifts
shifts_fit zero c h = h
shifts_fit (suc k) c h = shifts_fit k (shifted c) (shifted_fits c h)

shifted-zero : (c : ℕ) → c < 65536 → shifted c ≡ 0 → c ≡ 0
shifted-zero c h e = omega (arith, xor-zero (c / 2) (c % 2 * 0xA001) (sym (shifted-is c) ∙ e))

pub shifts-zero : (k c : ℕ) → c < 65536 → shifts k c ≡ 0 → c ≡ 0
unfolding shifts
shifts-zero zero c h e = e
shifts-zero (suc k) c h e = shifted-zero c h (shifts-zero k (shifted c) (shifted_fits c h) e)
