-- What is closed by its checksum passes the check of a received frame; and a frame passes it where the checksum of all its bytes is 0.
-- Assumes nothing.
use mathlib.Core.Path.{◌≡◌, refl, sym, ap, ap₂, ◌∙◌}
use mathlib.Core.Bool.{Bool, true, false}
use mathlib.Core.List.{List, [], ◌∷◌}
use Prim.Native.Nat.{ℕ, ◌+◌, ◌-◌, ◌*◌, ◌/◌, ◌%◌, ◌≤◌, ◌<◌}
use native.Mathlib.Nat.{div-add-mod'}
use native.Mathlib.Omega.{arith}
use borrow.Author.Tests.{eq-eqb, ne_eqb, eqb-true, eqb-false}
use lib.Bits.{bit_xor, xor_self, xor_lt}
use lib.Dec.{eqb}
use lib.ListN.{length, take, drop}
use lib.Seq.{take-length, take_at, get_or-append-add}
use Rattle.integers.specs.Bytes.{byte_at, word_of}
use Rattle.integers.proofs.Words.{number-at}
use Rattle.checksum.specs.Checksum.{shifts, checksum_of, framed}
use Rattle.modbus.specs.Frame.{checked}
use Rattle.checksum.proofs.Xor.{xor-zero}
use Rattle.checksum.proofs.Shifts.{shifts-up, shifts-zero}
use Rattle.checksum.proofs.Bytes.{checksum-fits, bytes-taken, run-at-once, further}
use Rattle.modbus.proofs.Replies.{length-framed}

pub framed-checked : (l : List ℕ) → checked (framed l) ≡ true
unfolding checked framed
framed-checked l =
    let c = checksum_of l in
    let f = framed l in
    let size : length f ≡ length l + 2 = length-framed l in
    let front : take (length f - 2) f ≡ l = take_at l (c % 256 ∷ c / 256 ∷ []) (length f - 2) (omega (arith, size)) in
    let low-place : length f - 2 ≡ length l + 0 = omega (arith, size) in
    let high-place : length f - 1 ≡ length l + 1 = omega (arith, size) in
    let low : byte_at f (length f - 2) ≡ c % 256 = ap (byte_at f) low-place ∙ get_or-append-add l (c % 256 ∷ c / 256 ∷ []) 0 0 in
    let high : byte_at f (length f - 1) ≡ c / 256 = ap (byte_at f) high-place ∙ get_or-append-add l (c % 256 ∷ c / 256 ∷ []) 1 0 in
    eq-eqb _ _ (ap checksum_of front ∙ sym (ap₂ (λ (p q : ℕ). p * 256 + q) high low ∙ div-add-mod' c 256))

-- ---- all bytes taken in, the last two too

lost : (c w : ℕ) → c < 65536 → w < 65536 → eqb (shifts 16 (bit_xor c w)) 0 ≡ eqb c w
unfolding shifts
lost c w hc hw = by (eqb c w) refl
  where
    by : (t : Bool) → eqb c w ≡ t → eqb (shifts 16 (bit_xor c w)) 0 ≡ t
    by true e = eq-eqb _ _ (ap (λ (k : ℕ). shifts 16 (bit_xor k w)) (eqb-true c w e) ∙ ap (shifts 16) (xor_self w) ∙ shifts-up 16 0 0)
    by false e = ne_eqb _ _ (λ z. eqb-false c w e (xor-zero c w (shifts-zero 16 (bit_xor c w) (xor_lt 16 c w hc hw) z)))

module _ (s : List ℕ) (small : (j : ℕ) → byte_at s j < 256) (h : 2 ≤ length s) where
  abbrev m : ℕ
  m = length s - 2

  abbrev last : ℕ
  last = byte_at s (length s - 1) * 256 + byte_at s m

  last-number : word_of (take 2 (drop m s)) ≡ last
  last-number = let place : m + 1 ≡ length s - 1 = omega arith in omega (arith, number-at s m 2, ap (byte_at s) place)

  whole : checksum_of s ≡ shifts 16 (bit_xor (checksum_of (take m s)) last)
  whole =
      let size : m + 2 ≡ length s = omega arith in
      sym (further s m 2 refl refl ∙ ap (λ (k : ℕ). checksum_of (take k s)) size ∙ ap checksum_of (take-length s))
      ∙ run-at-once s m small 2 (omega arith) (checksum_of (take m s))
      ∙ ap (λ (k : ℕ). shifts 16 (bit_xor (checksum_of (take m s)) k)) last-number

  pub all-taken : eqb (checksum_of s) 0 ≡ checked s
  unfolding checked
  all-taken =
      ap (λ (k : ℕ). eqb k 0) whole
      ∙ lost (checksum_of (take m s)) last (checksum-fits (take m s) (bytes-taken m s small) 0xFFFF (omega arith)) (omega (arith, small m, small (length s - 1)))
