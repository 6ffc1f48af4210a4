-- Whole numbers in proofs: ℤ of `lib.IntN` with its order of `lib.Signed`, and what i64 code leaves to be shown. Three tools;
-- Examples.antt has each worked example whole, checked.
--
-- 1. Orders and equations (Parts, Difference, Order). `omega` reads naturals alone. `le!`, `lt!`, `eq!` turn a goal about
--    integers into one about naturals, given how its two sides are written: `⟨ a ⟩` for a term that is not looked into, `nat 3`
--    for a literal, `⊕ ⊝ ⊗ minus` for + − · and negation. `omega ints` reads a hypothesis whose sides are such terms by
--    itself; one with a compound side is opened by `le?` or `lt?`. From h : (a +ℤ pos 3) ≤ℤ (b -ℤ c) and pos 1 <ℤ c,
--        le! (⟨ a ⟩ ⊕ nat 5) ⟨ b ⟩ (omega (ints, le? (⟨ a ⟩ ⊕ nat 3) (⟨ b ⟩ ⊝ ⟨ c ⟩) h))     : (a +ℤ pos 5) ≤ℤ b
--    `omega` multiplies no hypotheses: hand it the product of two by `product`. A test and the fact that it tells are turned
--    into each other by `lt_yes`, `le-no`, `yes_le`, .., and `pick` splits a `cond`.
--
-- 2. Magnitudes (Magnitude, Ring). To bound an error, write it as a sum by `ring`, which proves an identity of polynomials of
--    any degree over the variables that are listed; take `abs-sum2` or `abs-sum3` of it; `simp abs-mul` makes products of
--    magnitudes, in which `omega` is linear once each bound is multiplied by its cofactor. The sum, for a product's error:
--        ring (x ∷ y ∷ a ∷ b ∷ []) (search polynomials depth 20 fits 9000) refl
--            : x *ℤ y -ℤ a *ℤ b ≡ x *ℤ (y -ℤ b) +ℤ b *ℤ (x -ℤ a)
--    `within-add`, `within-mul`, .. bound a value step by step.
--
-- 3. i64 code (Machine, Division). In a need every operand is toZ w64 (ofZ w64 x). `search i64s` finds the plain value behind
--    it, and its bound, from facts `x within n` in scope or in the fields of a record in scope; then
--        fits (search i64s depth 9) tt       shows that an operation does not overflow
--        plain (search i64s depth 9) tt      gives the plain value
--        small (search i64s depth 9) tt      shows `within` of what is handed to a callee
--    (depth: two for each nested operation, and two more). Where a value is no sum or product, `simp (to_z-of_z, f, g)` strips the
--    bits by proofs f, g that the plain values fit: arithmetic's `round_div` goes that way.
--
-- Beside these, Bits: or and exclusive or are associative; Words: bytes and the number that they write; TwosComplement: a
-- number of 64 bits, its word and its eight bytes; and Puts: texts that are put into a buffer.
--
-- `≤ℤ`, `<ℤ` and `within` bind tighter than + and ·: write (a +ℤ b) ≤ℤ c.
pub mod Parts
pub mod Difference
pub mod Order
pub mod Magnitude
pub mod Ring
pub mod Machine
pub mod Division
pub mod Bits
pub mod Words
pub mod TwosComplement
pub mod Puts
mod Examples
