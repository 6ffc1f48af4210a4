-- `take_few` meets its contract: the bytes passed are at the top of the word. Assumes nothing.
use mathlib.Core.List.{List}
use mathlib.Core.Path.{◌≡◌, ap, ap₂, ◌∙◌}
use Prim.Native.Nat.{ℕ, ◌+◌, ◌-◌, ◌*◌, ◌/◌, ◌%◌, ◌^◌, ◌<◌, ◌≤◌}
use native.Mathlib.Omega.{arith}
use lib.Bits.{bit_xor}
use lib.ListN.{length, take, drop}
use lib.Pow.{shl_exact, shr_le}
use Rattle.integers.specs.Bytes.{byte_at, word_of}
use lib.Seq.{take-length}
use Rattle.checksum.specs.Checksum.{shifts, checksum_from}
use Rattle.checksum.proofs.Few.{topped, topped-lt, one_more, few-at-once}
use Rattle.checksum.proofs.take_few.Goals as goal

-- a byte is not cut by its shift, and with it one byte more is at the top
added : (s : List ℕ) (count i : ℕ) {word : ℕ} → ((j : ℕ) → byte_at s j < 256) → i < count → i < 7 → count ≤ length s → word ≡ topped s count i
    → word + byte_at s (count - 1 - i) * 2 ^ (56 - 8 * i) % 2 ^ 64 ≡ topped s count (i + 1)
added s count i bytes below few inside top =
    let p = count - 1 - i in
    let whole : byte_at s p * 2 ^ (56 - 8 * i) % 2 ^ 64 ≡ byte_at s p * 2 ^ (56 - 8 * i) = shl_exact {a = byte_at s p} 8 (56 - 8 * i) 64 (bytes p) (omega arith) in
    ap₂ (λ (x y : ℕ). x + y) top whole ∙ one_more s count i (omega arith) (omega arith) (omega arith)

pub overflow_add-word : goal.overflow_add-word
overflow_add-word c =
    let s = c.args.bytes.now in
    let n = length s in
    let l = c.loop-i in
    omega (arith, added s n l.i (λ j. omega (arith, c.type_inv.bytes j)) (omega arith) (omega arith) (omega arith) l.invariant, topped-lt s n (l.i + 1) (λ j. omega (arith, c.type_inv.bytes j)) (omega arith) (omega arith) (omega arith))

pub loop-i-preserved : goal.loop-i-preserved
loop-i-preserved c =
    let s = c.args.bytes.now in
    added s (length s) c.loop-i.i (λ j. omega (arith, c.type_inv.bytes j)) (omega arith) (omega arith) (omega arith) c.loop-i.invariant

pub overflow_cast-above-2 : goal.overflow_cast-above-2
overflow_cast-above-2 c = omega (arith, shr_le c.args.sum (8 * length c.args.bytes.now))

pub returns : goal.returns
returns c =
    let a = c.args in
    let l = c.loop-i in
    let s = a.bytes.now in
    let n = length s in
    let k = 64 - 8 * n in
    let all : l.i ≡ n = omega arith in
    let start : n - n ≡ 0 = omega arith in
    let word : l.word ≡ word_of (take n (drop 0 s)) * 2 ^ k = l.invariant ∙ ap (topped s n) all ∙ ap (λ (p : ℕ). word_of (take n (drop p s)) * 2 ^ k) start in
    ap (λ (x : ℕ). bit_xor x (a.sum / 2 ^ (8 * n))) (c.sixty_four_shifts.ensures ∙ ap (λ (w : ℕ). shifts 64 (bit_xor w (a.sum * 2 ^ k % 2 ^ 64))) word)
    ∙ few-at-once s 0 (λ j. omega (arith, c.type_inv.bytes j)) n (omega arith) (omega arith) a.sum
    ∙ ap (checksum_from a.sum) (take-length s)
