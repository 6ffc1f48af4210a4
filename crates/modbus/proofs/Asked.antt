-- The register that a frame addresses, and its length, quantity and byte count: the tests of `judged`, and what specs/Order.antt says of
-- them. Assumes nothing.
use mathlib.Core.Path.{◌≡◌, refl, sym, ap, ap₂, ◌∙◌}
use mathlib.Core.Bool.{Bool, true, false, cond, ◌&&◌, false≢true}
use mathlib.Core.List.{List}
use Prim.Native.Nat.{ℕ, ◌*◌, ◌%◌}
use native.Mathlib.Nat.{div-add-mod}
use native.Mathlib.Omega.{arith}
use borrow.Author.Tests.{eqb-true, eq-eqb}
use lib.Dec.{eqb}
use lib.ListN.{length}
use Rattle.register.specs.declared.Access.{Access}
use Rattle.register.specs.declared.Access.TheVariants.{Unlisted, ReadOnly, Takes, Action}
use Rattle.register.specs.Register.{access_of}
use Rattle.modbus.specs.Frame.{word_at, function_of, register_of, quantity_of, byte_count_of, access_asked}
use Rattle.modbus.specs.Order.{Formed, Addresses}
use Rattle.register.proofs.Registers.{kind_of}

-- ---- the register that is addressed

module _ (s : List ℕ) where
  pub asked : (n : ℕ) → word_at s 2 ≡ 2 * n → (register_of s ≡ n) × (access_asked s ≡ access_of n)
  unfolding access_asked
  asked n e =
      let even : word_at s 2 % 2 ≡ 0 = omega (arith, e, div-add-mod (word_at s 2) 2) in
      let half : register_of s ≡ n = omega (arith, e, div-add-mod (word_at s 2) 2) in
      (half, rw (eq-eqb _ 0 even) (ap access_of half))

  -- a register that is not listed is of another kind
  pub addressed : (a : Access) → access_asked s ≡ a → (kind_of a ≡ 0 → ⊥) → Addresses s (register_of s) × (access_of (register_of s) ≡ a)
  unfolding access_asked
  addressed a e ne = by (eqb (word_at s 2 % 2) 0) refl e
    where
      by : (b : Bool) → eqb (word_at s 2 % 2) 0 ≡ b → cond b (access_of (register_of s)) Unlisted ≡ a → Addresses s (register_of s) × (access_of (register_of s) ≡ a)
      by true t i = (record { twice = omega (arith, div-add-mod (word_at s 2) 2, eqb-true (word_at s 2 % 2) 0 t); listed = λ u. ne (ap kind_of (sym i ∙ u)) }, i)
      by false t i = absurd (ne (sym (ap kind_of i)))

  pub none : access_asked s ≡ Unlisted → (n : ℕ) → Addresses s n → ⊥
  none e n a = a.listed (sym (asked n a.twice).1 ∙ e)

  pub no_access : ((n : ℕ) → Addresses s n → ⊥) → access_asked s ≡ Unlisted
  no_access h = by (access_asked s) refl
    where
      by : (a : Access) → access_asked s ≡ a → access_asked s ≡ Unlisted
      by Unlisted e = e
      by ReadOnly e = absurd (h _ (addressed _ e (λ k. omega (arith, k))).0)
      by (Takes r) e = absurd (h _ (addressed _ e (λ k. omega (arith, k))).0)
      by Action e = absurd (h _ (addressed _ e (λ k. omega (arith, k))).0)

  -- ---- length, quantity and byte count

  pub read-test : function_of s ≡ 3 → Formed s → (eqb (length s) 8 && eqb (quantity_of s) 2) ≡ true
  read-test f k = ap₂ ◌&&◌ (eq-eqb _ 8 (k.read_length f)) (eq-eqb _ 2 k.quantity)

  pub write-test : function_of s ≡ 16 → Formed s → (eqb (length s) 13 && eqb (quantity_of s) 2 && eqb (byte_count_of s) 4) ≡ true
  write-test f k = ap₂ ◌&&◌ (ap₂ ◌&&◌ (eq-eqb _ 13 (k.write_length f)) (eq-eqb _ 2 k.quantity)) (eq-eqb _ 4 (k.byte_count f))

  both : (a b : Bool) → a && b ≡ true → (a ≡ true) × (b ≡ true)
  both true true e = (refl, refl)
  both true false e = absurd (false≢true e)
  both false b e = absurd (false≢true e)

  pub read-formed : function_of s ≡ 3 → (eqb (length s) 8 && eqb (quantity_of s) 2) ≡ true → Formed s
  read-formed f e =
      let t = both (eqb (length s) 8) (eqb (quantity_of s) 2) e in
      record { read_length = λ _. eqb-true _ 8 t.0; write_length = λ k. absurd (omega (arith, f, k)); quantity = eqb-true _ 2 t.1; byte_count = λ k. absurd (omega (arith, f, k)) }

  pub write-formed : function_of s ≡ 16 → (eqb (length s) 13 && eqb (quantity_of s) 2 && eqb (byte_count_of s) 4) ≡ true → Formed s
  write-formed f e =
      let t = both (eqb (length s) 13 && eqb (quantity_of s) 2) (eqb (byte_count_of s) 4) e in
      let u = both (eqb (length s) 13) (eqb (quantity_of s) 2) t.0 in
      record { read_length = λ k. absurd (omega (arith, f, k)); write_length = λ _. eqb-true _ 13 u.0; quantity = eqb-true _ 2 u.1; byte_count = λ _. eqb-true _ 4 t.1 }
