-- Any number of bytes are taken in at once, as one number. Assumes nothing.
use mathlib.Core.Path.{◌≡◌, refl, sym, ap, ◌∙◌, subst}
use mathlib.Core.List.{List, [], ◌∷◌, ◌++◌}
use Prim.Native.Nat.{ℕ, zero, suc, ◌+◌, ◌-◌, ◌*◌, ◌%◌, ◌^◌, ◌≤◌, ◌<◌}
use native.Mathlib.Nat.{lt_of_lt_of_le}
use native.Mathlib.Omega.{arith}
use lib.Bits.{bit_xor, xor_zero_r, xor_lt}
use lib.ListN.{length, get_or, take, drop, take-append-drop, length-drop}
use lib.Pow.{pow_mono, shl_exact}
use lib.Seq.{length-take-le, take-add, get_or-drop}
use Rattle.integers.specs.Bytes.{word_of}
use Rattle.integers.proofs.Words.{front_bytes, word_lt}
use Rattle.checksum.specs.Checksum.{shifts, with_byte, checksum_from, checksum_of}
use Rattle.checksum.proofs.Shifts.{by_one, shifts_fit, shifts-up}

abbrev pub Bytes : List ℕ → Type 0
Bytes [] = Unit {0}
Bytes (b ∷ rest) = (b < 256) × Bytes rest

pub at_once : (l : List ℕ) → Bytes l → (c : ℕ) → checksum_from c l ≡ shifts (8 * length l) (bit_xor c (word_of l))
unfolding shifts
at_once [] bs c = sym (xor_zero_r c)
at_once (b ∷ rest) bs c =
    let more : 8 + 8 * length rest ≡ 8 * suc (length rest) = omega arith in
    at_once rest bs.1 (with_byte c b) ∙ by_one c b (word_of rest) (8 * length rest) bs.0 ∙ ap (λ (k : ℕ). shifts k (bit_xor c (b + word_of rest * 256))) more

pub checksum-fits : (l : List ℕ) → Bytes l → (c : ℕ) → c < 65536 → checksum_from c l < 65536
unfolding with_byte
checksum-fits [] bs c h = h
checksum-fits (b ∷ rest) bs c h = checksum-fits rest bs.1 (with_byte c b) (shifts_fit 8 (bit_xor c b) (xor_lt 16 c b h (omega (arith, bs.0))))

from-append : (l m : List ℕ) (c : ℕ) → checksum_from c (l ++ m) ≡ checksum_from (checksum_from c l) m
from-append [] m c = refl
from-append (b ∷ rest) m c = from-append rest m (with_byte c b)

-- ---- of a slice

-- the first k bytes, and then the others
pub in_parts : (k : ℕ) (l : List ℕ) (c : ℕ) → checksum_from (checksum_from c (take k l)) (drop k l) ≡ checksum_from c l
in_parts k l c = sym (from-append (take k l) (drop k l) c) ∙ ap (checksum_from c) (take-append-drop k l)

pub bytes-taken : (k : ℕ) (l : List ℕ) → ((j : ℕ) → get_or l j 0 < 256) → Bytes (take k l)
bytes-taken zero l h = tt
bytes-taken (suc k) [] h = tt
bytes-taken (suc k) (b ∷ rest) h = (h 0, bytes-taken k rest (λ j. h (suc j)))

module _ (s : List ℕ) (i : ℕ) where
  pub run-at-once : ((j : ℕ) → get_or s j 0 < 256) → (k : ℕ) → i + k ≤ length s → (c : ℕ) → checksum_from c (take k (drop i s)) ≡ shifts (8 * k) (bit_xor c (word_of (take k (drop i s))))
  run-at-once small k h c =
      at_once (take k (drop i s)) (bytes-taken k (drop i s) (λ j. rw get_or-drop (small (i + j)))) c
      ∙ ap (λ (n : ℕ). shifts (8 * n) (bit_xor c (word_of (take k (drop i s))))) (length-take-le k (drop i s) (simp length-drop (omega arith)))

  pub run-lt : ((j : ℕ) → get_or s j 0 < 256) → (k : ℕ) → i + k ≤ length s → word_of (take k (drop i s)) < 2 ^ (8 * k)
  run-lt small k h =
      let l = take k (drop i s) in
      subst (λ (n : ℕ). word_of l < 2 ^ (8 * n)) (length-take-le k (drop i s) (simp length-drop (omega arith)))
      (word_lt l (front_bytes k (drop i s) (λ j. rw get_or-drop (small (i + j)))))

  -- two to eight bytes as one number: their shifts are sixty-four of it as many places higher as they are fewer
  pub number-at-once : ((j : ℕ) → get_or s j 0 < 256) → (k : ℕ) → 2 ≤ k → k ≤ 8 → i + k ≤ length s → (c : ℕ) → c < 65536
      → shifts 64 (bit_xor c (word_of (take k (drop i s))) * 2 ^ (64 - 8 * k) % 2 ^ 64) ≡ checksum_from c (take k (drop i s))
  number-at-once small k h g fits c low =
      let w = word_of (take k (drop i s)) in
      let up = 64 - 8 * k in
      let all : up + 8 * k ≡ 64 = omega arith in
      let wide : c < 2 ^ (8 * k) = lt_of_lt_of_le low (pow_mono {i = 16} (omega arith)) in
      ap (shifts 64) (shl_exact (8 * k) up 64 (xor_lt (8 * k) c w wide (run-lt small k fits)) (omega arith))
      ∙ ap (λ (n : ℕ). shifts n (bit_xor c w * 2 ^ up)) (sym all)
      ∙ shifts-up up (8 * k) (bit_xor c w)
      ∙ sym (run-at-once small k fits c)

  -- k bytes more, taken in on top of the first i
  pub further : (k : ℕ) {c r : ℕ} → c ≡ checksum_of (take i s) → r ≡ checksum_from c (take k (drop i s)) → r ≡ checksum_of (take (i + k) s)
  further k e h =
      h ∙ ap (λ (x : ℕ). checksum_from x (take k (drop i s))) e
      ∙ sym (ap checksum_of (take-add i k s) ∙ from-append (take i s) (take k (drop i s)) 0xFFFF)
