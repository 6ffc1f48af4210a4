-- Up to seven bytes, set at the top of a word of 64 bits. Assumes nothing.
use mathlib.Core.Path.{◌≡◌, sym, ap, ap₂, ◌∙◌, subst}
use mathlib.Core.List.{List}
use Prim.Native.Nat.{ℕ, suc, ◌+◌, ◌-◌, ◌*◌, ◌/◌, ◌%◌, ◌^◌, ◌≤◌, ◌<◌}
use native.Mathlib.Nat.{add-zero, add-mul, mul_assoc, mul_comm, mul-mod_left}
use native.Mathlib.Omega.{arith}
use lib.Bits.{bit_xor}
use lib.ListN.{length, get_or, take, drop}
use lib.Pow.{pow-add, shl_lt, shl-shr, mod-pow-add}
use lib.Seq.{drop-cons}
use Rattle.integers.specs.Bytes.{byte_at, word_of}
use Rattle.checksum.specs.Checksum.{shifts, checksum_from}
use Rattle.checksum.proofs.Linear.{up}
use Rattle.checksum.proofs.Shifts.{shifts-up, beside}
use Rattle.checksum.proofs.Bytes.{run-at-once, run-lt}

-- what a shift to the left drops
shl-mod : (x j k : ℕ) → x * 2 ^ k % 2 ^ (j + k) ≡ x % 2 ^ j * 2 ^ k
shl-mod x j k = mod-pow-add (x * 2 ^ k) j k ∙ ap₂ (λ (p q : ℕ). p % 2 ^ j * 2 ^ k + q) (shl-shr x k) (mul-mod_left x (2 ^ k)) ∙ add-zero (x % 2 ^ j * 2 ^ k)

-- the bytes are at the top, and of the sum what goes beside them; the rest of it only moves down
pub few-at-once : (s : List ℕ) (i : ℕ) → ((j : ℕ) → get_or s j 0 < 256) → (n : ℕ) → n ≤ 8 → i + n ≤ length s → (c : ℕ)
    → bit_xor (shifts 64 (bit_xor (word_of (take n (drop i s)) * 2 ^ (64 - 8 * n)) (c * 2 ^ (64 - 8 * n) % 2 ^ 64))) (c / 2 ^ (8 * n)) ≡ checksum_from c (take n (drop i s))
few-at-once s i small n h fits c =
    let w = word_of (take n (drop i s)) in
    let j = 8 * n in
    let k = 64 - 8 * n in
    let across : 64 ≡ j + k = omega arith in
    let along : 64 ≡ k + j = omega arith in
    ap (λ (m : ℕ). bit_xor (shifts 64 (bit_xor (w * 2 ^ k) (c * 2 ^ k % 2 ^ m))) (c / 2 ^ j)) across
    ∙ ap (λ (m : ℕ). bit_xor (shifts 64 (bit_xor (w * 2 ^ k) m)) (c / 2 ^ j)) (shl-mod c j k)
    ∙ ap₂ (λ (m p : ℕ). bit_xor (shifts m p) (c / 2 ^ j)) along (sym ((up k).of_xor w (c % 2 ^ j)))
    ∙ ap (λ (m : ℕ). bit_xor m (c / 2 ^ j)) (shifts-up k j (bit_xor w (c % 2 ^ j)))
    ∙ beside j c w (run-lt s i small n fits)
    ∙ sym (run-at-once s i small n fits c)

-- a byte more, below those that are at the top
below : (s : List ℕ) (p i m : ℕ) → p < length s → word_of (take i (drop (suc p) s)) * 2 ^ (m + 8) + byte_at s p * 2 ^ m ≡ word_of (take (suc i) (drop p s)) * 2 ^ m
below s p i m h =
    let b = byte_at s p in
    let w = word_of (take i (drop (suc p) s)) in
    let all : word_of (take (suc i) (drop p s)) ≡ b + w * 256 = ap (λ (l : List ℕ). word_of (take (suc i) l)) (drop-cons s p 0 h) in
    let high : w * 2 ^ (m + 8) ≡ w * 256 * 2 ^ m = ap (λ (q : ℕ). w * q) (pow-add 2 m 8 ∙ mul_comm (2 ^ m) 256) ∙ sym (mul_assoc w 256 (2 ^ m)) in
    omega (arith, high, add-mul b (w * 256) (2 ^ m), ap (λ (x : ℕ). x * 2 ^ m) all)

-- the i last of so many bytes, at the top
abbrev pub topped : List ℕ → ℕ → ℕ → ℕ
topped s count i = word_of (take i (drop (count - i) s)) * 2 ^ (64 - 8 * i)

pub one_more : (s : List ℕ) (count i : ℕ) → i < 8 → i < count → count ≤ length s → topped s count i + byte_at s (count - 1 - i) * 2 ^ (56 - 8 * i) ≡ topped s count (i + 1)
one_more s count i h g fits =
    ap₂ (λ (p m : ℕ). word_of (take i (drop p s)) * 2 ^ m + byte_at s (count - 1 - i) * 2 ^ (56 - 8 * i)) here (step i h)
    ∙ below s (count - 1 - i) i (56 - 8 * i) inside
    ∙ ap₂ (λ (p m : ℕ). word_of (take (suc i) (drop p s)) * 2 ^ m) next (sym (steps i h))
    ∙ ap (λ (k : ℕ). word_of (take k (drop (count - (i + 1)) s)) * 2 ^ (64 - 8 * (i + 1))) more
  where
    here : count - i ≡ suc (count - 1 - i)
    here = omega (arith, g)

    next : count - 1 - i ≡ count - (i + 1)
    next = omega (arith, g)

    inside : count - 1 - i < length s
    inside = omega (arith, g, fits)

    more : suc i ≡ i + 1
    more = omega arith

    step : (i : ℕ) → i < 8 → 64 - 8 * i ≡ 56 - 8 * i + 8
    step i h = omega arith

    steps : (i : ℕ) → i < 8 → 64 - 8 * (i + 1) ≡ 56 - 8 * i
    steps i h = omega arith

pub topped-lt : (s : List ℕ) (count i : ℕ) → ((j : ℕ) → get_or s j 0 < 256) → i ≤ 8 → i ≤ count → count ≤ length s → topped s count i < 2 ^ 64
topped-lt s count i small h g fits =
    subst (λ (k : ℕ). topped s count i < 2 ^ k) (all i h) (shl_lt (8 * i) (64 - 8 * i) (run-lt s (count - i) small i (omega (arith, g, fits))))
  where
    all : (i : ℕ) → i ≤ 8 → 8 * i + (64 - 8 * i) ≡ 64
    all i h = omega arith
