-- `judged` goes by the verdict of specs/Order.antt, both ways. Assumes nothing.
use mathlib.Core.Path.{◌≡◌, refl, sym, ap, ap₂, ◌∙◌, subst}
use mathlib.Core.Logic.{inl, inr}
use mathlib.Core.Bool.{Bool, true, false, cond, ◌&&◌, false≢true}
use mathlib.Core.List.{List}
use Prim.Native.Nat.{ℕ}
use native.Mathlib.Omega.{arith}
use borrow.Author.Tests.{ltb-true, ltb-false, eqb-true, eqb-false, lt-ltb, le-ltb, eq-eqb, ne_eqb}
use lib.Dec.{eqb, ltb}
use lib.ListN.{length}
use Rattle.binary32.specs.Received.{takes}
use Rattle.register.specs.declared.Access.{Access}
use Rattle.register.specs.declared.Access.TheVariants.{Unlisted, ReadOnly, Takes, Action}
use Rattle.modbus.specs.Judgement.{Frame, Refused, Read}
use Rattle.register.specs.Register.{access_of}
use Rattle.modbus.specs.Frame.{function_of, register_of, quantity_of, byte_count_of, value_of, for_us, access_asked, read_of, read_asked, write_of, write_asked, judged}
use Rattle.modbus.specs.Order.{Heard, Formed, Addresses, Verdict, no_room, not_for_us, no_function, not_formed, no_address, only_read, unfit, reads, writes, acts, OrderHolds}
use Rattle.modbus.proofs.ForUs.{is_to_us, is_for_us}
use Rattle.modbus.proofs.Asked.{asked, addressed, none, no_access, read-test, write-test, read-formed, write-formed}

is-not : {b : Bool} → (b ≡ true → ⊥) → b ≡ false
is-not {b = true} h = absurd (h refl)
is-not {b = false} h = refl

-- ---- a verdict is what is given

module _ (s : List ℕ) (room station : ℕ) where
  heard : Heard s room station → judged s room station ≡ cond (eqb (function_of s) 3) (read_asked s) (cond (eqb (function_of s) 16) (write_asked s) (Refused 14))
  unfolding judged
  heard h = rw (le-ltb room 9 h.room_least, (is_for_us s station).1 h.is_for_us) refl

  read : Heard s room station → function_of s ≡ 3 → judged s room station ≡ read_asked s
  read h f = heard h ∙ rw (eq-eqb (function_of s) 3 f) refl

  write : Heard s room station → function_of s ≡ 16 → judged s room station ≡ write_asked s
  write h f = heard h ∙ rw (ne_eqb (function_of s) 3 (λ k. omega (arith, f, k)), eq-eqb (function_of s) 16 f) refl

  good-read : Heard s room station → function_of s ≡ 3 → Formed s → judged s room station ≡ read_of (access_asked s) (register_of s)
  unfolding read_asked
  good-read h f k = read h f ∙ rw (read-test s f k) refl

  good-write : Heard s room station → function_of s ≡ 16 → Formed s → judged s room station ≡ write_of (access_asked s) (register_of s) (value_of s)
  unfolding write_asked
  good-write h f k = write h f ∙ rw (write-test s f k) refl

  write-to : (n : ℕ) {a : Access} → Heard s room station → function_of s ≡ 16 → Formed s → Addresses s n → access_of n ≡ a → judged s room station ≡ write_of a n (value_of s)
  write-to n h f k a i = good-write h f k ∙ ap₂ (λ (x : Access) (m : ℕ). write_of x m (value_of s)) ((asked s n a.twice).1 ∙ i) (asked s n a.twice).0

  listed-read : (a : Access) (n : ℕ) → (a ≡ Unlisted → ⊥) → read_of a n ≡ Read n
  listed-read Unlisted n h = absurd (h refl)
  listed-read ReadOnly n h = refl
  listed-read (Takes r) n h = refl
  listed-read Action n h = refl

  given : {f : Frame} → Verdict s room station f → judged s room station ≡ f
  unfolding judged read_asked write_asked write_of
  given (no_room h) = rw (lt-ltb room 9 h) refl
  given (not_for_us h k) = rw (le-ltb room 9 h, is-not (λ e. k ((is_for_us s station).0 e))) refl
  given (no_function h a b) = heard h ∙ rw (ne_eqb (function_of s) 3 a, ne_eqb (function_of s) 16 b) refl
  given (not_formed h (inl f) k) = read h f ∙ rw (is-not (λ e. k (read-formed s f e))) refl
  given (not_formed h (inr f) k) = write h f ∙ rw (is-not (λ e. k (write-formed s f e))) refl
  given (no_address h (inl f) k n) = good-read h f k ∙ ap (λ (a : Access). read_of a (register_of s)) (no_access s n)
  given (no_address h (inr f) k n) = good-write h f k ∙ ap (λ (a : Access). write_of a (register_of s) (value_of s)) (no_access s n)
  given (only_read n h f k a i) = write-to n h f k a i
  given (unfit n r h f k a i t) = write-to n h f k a i ∙ rw t refl
  given (reads n h f k a) = good-read h f k ∙ ap₂ read_of (asked s n a.twice).1 (asked s n a.twice).0 ∙ listed-read (access_of n) n a.listed
  given (writes n r h f k a i t) = write-to n h f k a i ∙ rw t refl
  given (acts n h f k a i) = write-to n h f k a i

  -- ---- there is one for every frame

  record Some : Type 0 where
    frame : Frame
    is : Verdict s room station frame

  of-read : Heard s room station → function_of s ≡ 3 → Formed s → (a : Access) → access_asked s ≡ a → Some
  of-read h f k Unlisted e = record { frame = _; is = no_address h (inl f) k (none s e) }
  of-read h f k ReadOnly e = record { frame = _; is = reads _ h f k (addressed s _ e (λ k. omega (arith, k))).0 }
  of-read h f k (Takes r) e = record { frame = _; is = reads _ h f k (addressed s _ e (λ k. omega (arith, k))).0 }
  of-read h f k Action e = record { frame = _; is = reads _ h f k (addressed s _ e (λ k. omega (arith, k))).0 }

  of-write : Heard s room station → function_of s ≡ 16 → Formed s → (a : Access) → access_asked s ≡ a → Some
  of-write h f k Unlisted e = record { frame = _; is = no_address h (inr f) k (none s e) }
  of-write h f k ReadOnly e = let i = addressed s _ e (λ k. omega (arith, k)) in record { frame = _; is = only_read _ h f k i.0 i.1 }
  of-write h f k Action e = let i = addressed s _ e (λ k. omega (arith, k)) in record { frame = _; is = acts _ h f k i.0 i.1 }
  of-write h f k (Takes r) e = by (takes r (value_of s)) refl
    where
      i : Addresses s (register_of s) × (access_of (register_of s) ≡ Takes r)
      i = addressed s _ e (λ k. omega (arith, k))

      by : (b : Bool) → takes r (value_of s) ≡ b → Some
      by true t = record { frame = _; is = writes _ r h f k i.0 i.1 t }
      by false t = record { frame = _; is = unfit _ r h f k i.0 i.1 t }

  some : Some
  some = by (ltb room 9) (for_us s station) (eqb (function_of s) 3) (eqb (function_of s) 16) refl refl refl refl
    where
      no : {b : Bool} → b ≡ true → b ≡ false → ⊥
      no t f = false≢true (sym f ∙ t)

      formed-read : Heard s room station → function_of s ≡ 3 → (b : Bool) → (eqb (length s) 8 && eqb (quantity_of s) 2) ≡ b → Some
      formed-read h f true t = of-read h f (read-formed s f t) (access_asked s) refl
      formed-read h f false t = record { frame = _; is = not_formed h (inl f) (λ k. no (read-test s f k) t) }

      formed-write : Heard s room station → function_of s ≡ 16 → (b : Bool) → (eqb (length s) 13 && eqb (quantity_of s) 2 && eqb (byte_count_of s) 4) ≡ b → Some
      formed-write h f true t = of-write h f (write-formed s f t) (access_asked s) refl
      formed-write h f false t = record { frame = _; is = not_formed h (inr f) (λ k. no (write-test s f k) t) }

      by : (a b c d : Bool) → ltb room 9 ≡ a → for_us s station ≡ b → eqb (function_of s) 3 ≡ c → eqb (function_of s) 16 ≡ d → Some
      by true b c d p q r t = record { frame = _; is = no_room (ltb-true room 9 p) }
      by false false c d p q r t = record { frame = _; is = not_for_us (ltb-false room 9 p) (λ k. no ((is_for_us s station).1 k) q) }
      by false true true d p q r t = formed-read (record { room_least = ltb-false room 9 p; is_for_us = (is_for_us s station).0 q }) (eqb-true _ 3 r) _ refl
      by false true false true p q r t = formed-write (record { room_least = ltb-false room 9 p; is_for_us = (is_for_us s station).0 q }) (eqb-true _ 16 t) _ refl
      by false true false false p q r t = record { frame = _; is = no_function (record { room_least = ltb-false room 9 p; is_for_us = (is_for_us s station).0 q }) (eqb-false _ 3 r) (eqb-false _ 16 t) }

pub order-holds : OrderHolds
order-holds = record {
  is_to_us = is_to_us;
  is_for_us = is_for_us;
  judges = λ s room station f. ((λ e. subst (Verdict s room station) (sym (given s room station (some s room station).is) ∙ e) (some s room station).is), given s room station);
}
