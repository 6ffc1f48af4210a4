-- A number of 64 bits and its word: what the word of a negative number is, that words differ as numbers do, modulo 2^64, and
-- that a number, its word and the word's eight bytes give each other back. Assumes nothing.
use mathlib.Core.Path.{◌≡◌, refl, ap, ◌∙◌, subst}
use mathlib.Core.Bool.{Bool, true, false, cond}
use mathlib.Core.List.{List}
use Prim.Native.Nat.{ℕ, suc, ◌+◌, ◌-◌, ◌%◌, ◌*◌, ◌^◌, ◌≤◌, ◌<◌}
use native.Mathlib.Nat.{mod-eq_of_lt}
use native.Mathlib.Omega.{arith}
use lib.Dec.{T, ltb}
use lib.IntN.{ℤ, pos, negsuc, nat_abs, ◌-ℤ◌}
use lib.ListN.{length, get_or}
use lib.Signed.{lt_z, mag, non_neg, ◌≤ℤ◌}
use mir.Syntax.{w64}
use mir.Val.{SFits}
use borrow.Author.Tests.{lt-ltb, le-ltb}
use Rattle.integers.proofs.Parts.{lt-parts, le_parts}
use Rattle.integers.proofs.Difference.{nat, minus, ◌⊝◌, eq! }
use Rattle.integers.proofs.Order.{lt_yes, lt_no}
use Rattle.integers.proofs.Magnitude.{abs-gap}
use Rattle.integers.proofs.Words.{word-bytes, bytes_word, word_lt}
use Rattle.integers.specs.Bytes.{word_of, word_bytes, signed_of, unsigned_of}

pub turned : (v : ℤ) → lt_z v (pos 0) ≡ true → negsuc 0 -ℤ v ≡ pos (mag v)
turned (pos n) e = absurd (omega (arith, lt-parts {a = pos n} {b = pos 0} (lt_yes e)))
turned (negsuc n) e = eq! (minus (nat 1) ⊝ minus (nat (suc n))) (nat n) (omega arith)

pub word-negative : (v : ℤ) → lt_z v (pos 0) ≡ true → 2 ^ 64 - 1 - mag v ≡ unsigned_of v
word-negative (pos n) e = absurd (omega (arith, lt-parts {a = pos n} {b = pos 0} (lt_yes e)))
word-negative (negsuc n) e = refl

pub not_negative : (v : ℤ) → lt_z v (pos 0) ≡ false → T (non_neg v) × (nat_abs v ≡ unsigned_of v)
not_negative (pos n) e = (tt, refl)
not_negative (negsuc n) e = absurd (omega (arith, le_parts {a = pos 0} {b = negsuc n} (lt_no e)))

pub abs_mag : (v : ℤ) → nat_abs v ≤ suc (mag v)
abs_mag (pos n) = omega arith
abs_mag (negsuc n) = omega arith

pub apart : (a b : ℤ) (r : ℕ) → SFits w64 a → SFits w64 b → a ≤ℤ b → r < 2 ^ 64 → (r + unsigned_of a) % 2 ^ 64 ≡ unsigned_of b → r ≡ nat_abs (b -ℤ a)
apart (pos m) (pos n) r f g h l e = omega (arith, f.sfits, g.sfits, le_parts h, abs-gap h)
apart (pos m) (negsuc n) r f g h l e = absurd (omega (arith, le_parts h))
apart (negsuc m) (pos n) r f g h l e = omega (arith, f.sfits, g.sfits, le_parts h, abs-gap h)
apart (negsuc m) (negsuc n) r f g h l e = omega (arith, f.sfits, g.sfits, le_parts h, abs-gap h)

-- ---- there and back

pub signed_back : (u : ℕ) → u < 2 ^ 64 → unsigned_of (signed_of 64 u) ≡ u
unfolding signed_of
signed_back u h = by (ltb u (2 ^ 63)) refl
  where
    by : (t : Bool) → ltb u (2 ^ 63) ≡ t → unsigned_of (cond t (pos u) (negsuc (2 ^ 64 - 1 - u))) ≡ u
    by true e = refl
    by false e = omega arith

pub unsigned-lt : (v : ℤ) → SFits w64 v → unsigned_of v < 2 ^ 64
unsigned-lt (pos n) h = omega (arith, h.sfits)
unsigned-lt (negsuc n) h = omega (arith, h.sfits)

pub unsigned_back : (v : ℤ) → SFits w64 v → signed_of 64 (unsigned_of v) ≡ v
unfolding signed_of
unsigned_back (pos n) h =
    let l : n < 2 ^ 63 = h.sfits in
    simp (lt-ltb _ _ l)
unsigned_back (negsuc n) h =
    let l : 2 ^ 63 ≤ 2 ^ 64 - 1 - n = omega (arith, h.sfits) in
    let e : 2 ^ 64 - 1 - (2 ^ 64 - 1 - n) ≡ n = omega (arith, h.sfits) in
    rw (le-ltb _ _ l, e)

pub bytes_back : (l : List ℕ) → length l ≡ 8 → ((i : ℕ) → get_or l i 0 < 256) → word_bytes 8 (unsigned_of (signed_of 64 (word_of l))) ≡ l
bytes_back l e h =
    let w : word_of l < 2 ^ 64 = subst (λ (k : ℕ). word_of l < 2 ^ (8 * k)) e (word_lt l h) in
    ap (word_bytes 8) (signed_back (word_of l) w) ∙ subst (λ (k : ℕ). word_bytes k (word_of l) ≡ l) e (bytes_word l h)

pub number-back : (v : ℤ) → SFits w64 v → signed_of 64 (word_of (word_bytes 8 (unsigned_of v))) ≡ v
number-back v h = ap (signed_of 64) (word-bytes 8 (unsigned_of v) ∙ mod-eq_of_lt (unsigned-lt v h)) ∙ unsigned_back v h
