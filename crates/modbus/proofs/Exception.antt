-- The exceptions' second statement holds. Assumes nothing.
use mathlib.Core.Path.{◌≡◌, refl}
use mathlib.Core.Bool.{Bool, true, false, ◌&&◌}
use mathlib.Core.List.{List, [], ◌∷◌}
use mathlib.Core.Logic.{◌⊎◌, inl, inr}
use Prim.Native.Nat.{ℕ, ◌<◌}
use native.Mathlib.Omega.{arith}
use borrow.Author.Tests.{ne_eqb, le-ltb}
use lib.Bits.{bit_or}
use lib.Dec.{T, eqb, ltb, eqb→eq, ltb→lt}
use lib.Ieee.Fits.{and_l, and_r}
use Rattle.integers.proofs.Order.{is_true, pick}
use Rattle.checksum.specs.Checksum.{framed}
use Rattle.modbus.specs.Frame.{station_of, function_of}
use Rattle.modbus.specs.Reply.{silent, unless_silent, exception_code, exception_reply}
use Rattle.modbus.specs.Exception.{Row, exceptions, code_in, code_said, with_top_set, Heard, ExceptionsHold}
use Rattle.register.proofs.Run.{at_every}

top_set : (f : ℕ) → f < 256 → bit_or f 128 ≡ with_top_set f
top_set f h = eqb→eq _ _ (at_every (λ i. eqb (bit_or i 128) (with_top_set i)) 256 0 tt f (omega arith) h)

-- a code that is not 0 is replied
module _ (s : List ℕ) (room : ℕ) (h : Heard s room) where
  pub heard : silent s room ≡ false
  unfolding silent
  heard = rw (le-ltb room 9 h.room_enough, le-ltb _ 4 h.long_enough, ne_eqb (station_of s) 0 h.to_one)

  replies : (n code f : ℕ) → function_of s ≡ f → exception_code n f ≡ code → (code ≡ 0 → ⊥) → f < 256
      → exception_reply s room n ≡ framed (station_of s ∷ with_top_set f ∷ code ∷ [])
  unfolding exception_reply unless_silent
  replies n code f e c some byte = rw (e, c, ne_eqb code 0 some, heard, top_set f byte)

-- ---- the rows, by one computed test

abbrev right : Row → Bool
right e = eqb (exception_code e.number e.function) e.code && ltb e.function 256

row : (e : Row) (n f : ℕ) → T (right e) → n ≡ e.number → f ≡ e.function → (exception_code n f ≡ e.code) × (f < 256)
row e n f t p q =
    let a = eqb (exception_code e.number e.function) e.code in
    let b = ltb e.function 256 in
    rw (p, q) (eqb→eq _ _ (and_l a b t), ltb→lt e.function 256 (and_r a b t))

abbrev all : List Row → Bool
all [] = true
all (e ∷ rest) = right e && all rest

found : (l : List Row) (n f : ℕ) → T (all l) → (code_in l n f ≡ 0 → ⊥) → (exception_code n f ≡ code_in l n f) × (f < 256)
found [] n f t = λ some. absurd (some refl)
found (e ∷ rest) n f t =
    pick (eqb n e.number && eqb f e.function) e.code (code_in rest n f) (λ (c : ℕ). (c ≡ 0 → ⊥) → (exception_code n f ≡ c) × (f < 256))
    (λ m some. row e n f (and_l (right e) (all rest) t) (eqb→eq n _ (and_l (eqb n e.number) (eqb f e.function) (is_true m))) (eqb→eq f _ (and_r (eqb n e.number) (eqb f e.function) (is_true m))))
    (λ m. found rest n f (and_r (right e) (all rest) t))

none : (s : List ℕ) (room n : ℕ) → (n ≡ 12) ⊎ (n ≡ 13) → exception_reply s room n ≡ []
unfolding exception_reply exception_code
none s room n (inl e) = rw e
none s room n (inr e) = rw e

pub exceptions-hold : ExceptionsHold
unfolding exception_code
exceptions-hold = record {
  hold = λ n f some s room h e. let r = found exceptions n f tt some in replies s room h n (code_said n f) f e r.0 some r.1;
  function = λ s room h byte. replies s room h 14 1 (function_of s) refl refl (λ z. omega arith) byte;
  silence = none;
}
