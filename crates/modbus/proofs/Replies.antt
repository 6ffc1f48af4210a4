-- What the three replies have in common: bytes that are put and ended are the reply. Assumes nothing.
use mathlib.Core.Path.{◌≡◌, refl, sym, ap, ap₂, ◌∙◌, subst}
use mathlib.Core.Bool.{Bool, true, false, cond, ◌||◌, true≢false}
use mathlib.Core.List.{List, [], ◌∷◌, ◌++◌}
use Prim.Native.Nat.{ℕ, ◌+◌, ◌/◌, ◌%◌, ◌≤◌}
use native.Mathlib.Nat.{zero-add}
use borrow.Author.Tests.{ltb-false}
use native.Mathlib.Omega.{arith}
use lib.Bits.{bit_or}
use lib.Dec.{eqb, ltb, lit≤}
use lib.Ieee.{Float}
use lib.ListN.{length, take, drop, length-append, length-take}
use lib.Seq.{sets-eq, take_at, drop-append-add, drop-drop}
use Rattle.checksum.specs.Checksum.{checksum_of, framed}
use Rattle.integers.specs.Bytes.{Put}
use Rattle.binary32.specs.Wire.{wire_bytes, sent}
use Rattle.modbus.specs.Frame.{station_of, function_of}
use Rattle.integers.proofs.Puts.{size}
use Rattle.modbus.specs.Reply.{silent, unless_silent, value_reply, write_reply, exception_code, exception_reply, Replied}

-- What the replies compute with: to unfold this is to unfold all that its line names.
unfoldable pub replies : Unit {0}
unfolding silent unless_silent write_reply exception_reply
replies = tt

-- ---- what a test of silence tells

or_no : (a b : Bool) → (a || b) ≡ false → (a ≡ false) × (b ≡ false)
or_no true b h = absurd (true≢false h)
or_no false b h = (refl, h)

module _ (s : List ℕ) (room : ℕ) (h : silent s room ≡ false) where
  unsilenced : (ltb room 9 ≡ false) × (ltb (length s) 4 ≡ false)
  unfolding silent
  unsilenced = or_no (ltb room 9) (ltb (length s) 4) (or_no (ltb room 9 || ltb (length s) 4) (eqb (station_of s) 0) h).0

  pub enough : 9 ≤ room
  enough = ltb-false room 9 unsilenced.0

-- ---- the checksum's two bytes

pub length-framed : (l : List ℕ) → length (framed l) ≡ length l + 2
unfolding framed
length-framed l = length-append l (checksum_of l % 256 ∷ checksum_of l / 256 ∷ [])

-- ---- the reply, or none

module _ (s b l : List ℕ) where
  -- of n bytes that are put, and ended
  pub replied : {ready after : List ℕ} {n r : ℕ} → silent s (length b) ≡ false → Put l b 0 ready n
      → (r ≡ n + 2) × (after ≡ framed (take n ready) ++ drop (n + 2) ready) → Replied (unless_silent s (length b) l) b after r
  unfolding unless_silent
  replied {ready} {after} {n} {r} h put ended =
      let len : n ≡ length l = put.next ∙ zero-add (length l) in
      let total : n + 2 ≡ length (framed l) = omega (arith, len, length-framed l) in
      let all : ready ≡ l ++ drop n b = put.is ∙ sets-eq l b 0 (omega (arith, put.next, put.fits, size put)) ∙ ap (λ (k : ℕ). l ++ drop k b) (sym put.next) in
      let text : take n ready ≡ l = ap (take n) all ∙ take_at l (drop n b) n (sym len) in
      let rest : drop (n + 2) ready ≡ drop (n + 2) b =
      ap₂ (λ (k : ℕ) (m : List ℕ). drop (k + 2) m) len all ∙ drop-append-add l (drop n b) 2 ∙ drop-drop 2 n b in
      subst (λ (t : Bool). Replied (cond t [] (framed l)) b after r) (sym h)
      (record { count = ended.0 ∙ total; buffer = ended.1 ∙ ap₂ (λ (m k : List ℕ). framed m ++ k) text (rest ∙ ap (λ (k : ℕ). drop k b) total) })

-- ---- a reply fits the buffer: it has at most 9 bytes, and there is none with less room

module _ (s : List ℕ) (room : ℕ) where
  answer-fits : (l : List ℕ) → length l ≤ 7 → length (unless_silent s room l) ≤ room
  unfolding unless_silent
  answer-fits l h = by (silent s room) refl
    where
      by : (t : Bool) → silent s room ≡ t → length (cond t [] (framed l)) ≤ room
      by true e = omega arith
      by false e = omega (arith, length-framed l, enough s room e)

  pub value-fits : (x : Float) → length (value_reply s room x) ≤ room
  unfolding wire_bytes
  value-fits x = answer-fits (station_of s ∷ 3 ∷ 4 ∷ sent x) (lit≤ tt)

  pub write-fits : length (write_reply s room) ≤ room
  unfolding write_reply
  write-fits = by (eqb (length s) 13)
    where
      by : (t : Bool) → length (cond t (unless_silent s room (take 6 s)) []) ≤ room
      by true = answer-fits (take 6 s) (omega (arith, length-take 6 s))
      by false = omega arith

  pub exception-fits : (number : ℕ) → length (exception_reply s room number) ≤ room
  unfolding exception_reply
  exception-fits number = by (eqb (exception_code number (function_of s)) 0)
    where
      by : (t : Bool) → length (cond t [] (unless_silent s room (station_of s ∷ bit_or (function_of s) 128 ∷ exception_code number (function_of s) ∷ []))) ≤ room
      by true = omega arith
      by false = answer-fits _ (lit≤ tt)
