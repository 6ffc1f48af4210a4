-- Two's complement: from half of the words on, a word stands for −1 less its complement. Assumes nothing.
use Prim.Native.Nat.{◌-◌, ◌*◌, ◌%◌, ◌<◌, ◌≤◌, ◌^◌, suc, zero, ℕ}
use borrow.Author.Tests.{le-ltb, lt-ltb}
use lib.IntN.{◌-ℤ◌, negsuc, pos}
use lib.Pow.{pow_mono}
use mathlib.Core.Path.{◌≡◌, ap, refl, ◌∙◌}
use mir.Facts.{to_z-of_z, to_z_pos}
use mir.Syntax.{w64}
use mir.Val.{to_z}
use native.Mathlib.Nat.{zero-add, pow-suc}
use native.Mathlib.Omega.{arith}
use Rattle.integers.specs.Bytes.{signed_of}
use Rattle.integers.proofs.bytes.signed.Goals.{Else-word-half, Start}
use Rattle.integers.proofs.bytes.signed.Goals as goal

minus_one : (x : ℕ) → negsuc 0 -ℤ pos x ≡ negsuc x
minus_one zero = refl
minus_one (suc n) = ap (λ (k : ℕ). negsuc (suc k)) (zero-add n)

complement : (x : ℕ) → x < 2 ^ 63 → negsuc 0 -ℤ to_z w64 x ≡ negsuc x
complement x h = rw (to_z_pos w64 h) (minus_one x)

-- ---- half of the words of so many bits, as the code shifts it there
abbrev shifted : ℕ → ℕ
shifted bits = 1 * 2 ^ (bits - 1) % 2 ^ 64

record Half (bits : ℕ) : Type 0 where
  is : shifted bits ≡ 2 ^ (bits - 1)
  twice : 2 ^ bits ≡ 2 ^ (bits - 1) * 2
  most : 2 ^ (bits - 1) ≤ 2 ^ 63

half : (bits : ℕ) → 1 ≤ bits → bits ≤ 64 → Half bits
half bits h l =
    let m : 2 ^ (bits - 1) ≤ 2 ^ 63 = pow_mono {i = bits - 1} {j = 63} (omega arith) in
    let s : bits ≡ suc (bits - 1) = omega arith in
    record { is = omega arith; twice = ap (λ (k : ℕ). 2 ^ k) s ∙ pow-suc 2 (bits - 1); most = m }

of : (c : Start) → Half c.args.bits
of c = half c.args.bits c.requires.0 c.requires.1

-- the complement, and that it has 63 bits
rest : (c : Else-word-half) → (shifted c.args.bits - 1 - (c.args.word - shifted c.args.bits) ≡ 2 ^ c.args.bits - 1 - c.args.word) × (2 ^ c.args.bits - 1 - c.args.word < 2 ^ 63)
rest c = let h = of c.before in (omega (arith, h.is, h.twice, h.most), omega (arith, h.is, h.twice, h.most))

pub overflow_cast-result : goal.overflow_cast-result
overflow_cast-result c = let h = of (goal.at.overflow_cast-result c).Start in record { sfits = omega (arith, h.is, h.most) }

pub returns-then-word-half : goal.returns-then-word-half
unfolding signed_of
returns-then-word-half c =
    let h = of (goal.at.returns-then-word-half c).Start in
    let w : c.args.word < 2 ^ 63 = omega (arith, h.is, h.most) in
    rw (to_z_pos w64 w, lt-ltb _ _ (rw h.is at c.if-word-half.true))

pub overflow_sub-result : goal.overflow_sub-result
overflow_sub-result c = let h = of (goal.at.overflow_sub-result c).Start in omega (arith, h.is, h.twice, h.most)

pub overflow_sub-result-3 : goal.overflow_sub-result-3
overflow_sub-result-3 c = let h = of (goal.at.overflow_sub-result-3 c).Start in omega (arith, h.is, h.twice, h.most)

pub overflow_cast-result-2 : goal.overflow_cast-result-2
overflow_cast-result-2 c = let r = rest c in record { sfits = rw r.0 r.1 }

pub overflow_sub-result-4 : goal.overflow_sub-result-4
overflow_sub-result-4 c = let r = rest c in rw (r.0, complement _ r.1) (record { sfits = r.1 })

pub returns : goal.returns
unfolding signed_of
returns c =
    let r = rest c in
    let x = 2 ^ c.args.bits - 1 - c.args.word in
    rw (r.0, complement x r.1, to_z-of_z {w = w64} {z = negsuc x} (record { sfits = r.1 }), le-ltb _ _ (rw (of (goal.at.returns c).Start).is at c.if-word-half.false))
