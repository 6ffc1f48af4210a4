-- The library's words for eight bytes, low byte first, are those of `integers`. Assumes nothing.
use Rattle.std.proofs.Common.{◌≡◌, ℕ, zero, suc, ◌+◌, ◌-◌, ◌*◌, ◌/◌, ◌^◌, ◌<◌, ◌≤◌, Bool, true, false, List, length, get_or, take, drop, ℤ, pos, negsuc, cond, ltb, refl, sym, ap, ◌∙◌, subst, arith, length-drop, length-take-le, get_or-drop, take_all, w64, SFits, to_z, of_z, ltb-false, ltb-true}
use Rattle.std.proofs.Math.Facts.{to_z_pos, to_z-neg}
use Rattle.std.specs.Int.{from_le_bytes, to_le_bytes}
use Rattle.integers.specs.Bytes.{word_of, word_bytes, signed_of}
use Rattle.integers.proofs.Words.{length-bytes, word-bytes, word_lt, front_bytes, number-at}
use native.Mathlib.Nat.{mod-eq_of_lt}
use Rattle.std.proofs.lemmas.Nat.{le_bytes_8}
use Rattle.sheet.specs.Bytes.{figure_at, figure_bytes, Bytes}
use Rattle.sheet.proofs.EightBytes.{there-is}

word-from : (l : List ℕ) → length l ≡ 8 → from_le_bytes w64 l ≡ word_of l
word-from l n =
    let e : take 8 l ≡ l = take_all 8 l (omega arith) in
    sym (number-at l 0 8) ∙ ap word_of e

signed-from : (u : ℕ) → u < 2 ^ 64 → to_z w64 u ≡ signed_of 64 u
unfolding signed_of
signed-from u h = by (ltb u (2 ^ 63)) refl
  where
    by : (t : Bool) → ltb u (2 ^ 63) ≡ t → to_z w64 u ≡ cond t (pos u) (negsuc (2 ^ 64 - 1 - u))
    by true e = to_z_pos w64 (ltb-true u (2 ^ 63) e)
    by false e =
        let b : 2 ^ 63 ≤ u = ltb-false u (2 ^ 63) e in
        let k : 2 ^ 64 - suc (2 ^ 64 - 1 - u) ≡ u = omega arith in
        subst (λ (n : ℕ). to_z w64 n ≡ negsuc (2 ^ 64 - 1 - u)) k (to_z-neg w64 (2 ^ 64 - 1 - u) (omega arith))

-- what the library reads of the eight bytes from a place on
pub figure_read : (s : List ℕ) (at : ℕ) (l : List ℕ) → Bytes s → at + 8 ≤ length s → l ≡ take 8 (drop at s) → to_z w64 (from_le_bytes w64 l) ≡ figure_at s at
figure_read s at l small h e =
    let n : length (take 8 (drop at s)) ≡ 8 = length-take-le 8 (drop at s) (simp length-drop (omega arith)) in
    let w : word_of (take 8 (drop at s)) < 2 ^ 64 = subst (λ (k : ℕ). word_of (take 8 (drop at s)) < 2 ^ (8 * k)) n (word_lt (take 8 (drop at s)) (front_bytes 8 (drop at s) (λ i. rw get_or-drop (small (at + i))))) in
    rw (e, word-from _ n, there-is s at h) (signed-from _ w)

-- ---- and of a number

small-bytes : (n u i : ℕ) → get_or (word_bytes n u) i 0 < 256
small-bytes zero u i = omega arith
small-bytes (suc n) u zero = omega arith
small-bytes (suc n) u (suc i) = small-bytes n (u / 256) i

bytes-from : (u : ℕ) → u < 2 ^ 64 → to_le_bytes w64 u ≡ word_bytes 8 u
bytes-from u h =
    le_bytes_8 (word_bytes 8 u) u (length-bytes 8 u) (small-bytes 8 u) (sym (word-from (word_bytes 8 u) (length-bytes 8 u) ∙ word-bytes 8 u ∙ mod-eq_of_lt h))

-- what the library writes of a figure
pub figure_written : (v : ℤ) → SFits w64 v → to_le_bytes w64 (of_z w64 v) ≡ figure_bytes v
unfolding figure_bytes
figure_written (pos n) h = bytes-from n (omega (arith, h.sfits))
figure_written (negsuc n) h =
    let e : 2 ^ 64 - suc n ≡ 2 ^ 64 - 1 - n = omega (arith, h.sfits) in
    bytes-from (2 ^ 64 - suc n) (omega (arith, h.sfits)) ∙ ap (word_bytes 8) e
