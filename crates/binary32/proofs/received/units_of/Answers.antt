-- `binary32::received::units_of` meets its contract: the units of the pattern, with the sign. Assumes nothing.
use borrow.Author.Tests.{lt-leb, le-leb}
use mathlib.Core.Path.{◌≡◌, sym, ap, ◌∙◌}
use Prim.Native.Nat.{ℕ, ◌^◌, ◌≤◌}
use native.Mathlib.Omega.{arith}
use lib.IntN.{pos, neg_ℤ}
use mir.Syntax.{w64}
use mir.Val.{to_z}
use mir.ValLaws.{to_z_pos, to_z-of_z}
use Rattle.integers.proofs.Difference.{nat, ◌⊝◌, minus, eq! }
use Rattle.integers.proofs.Machine.{fits! }
use Rattle.binary32.specs.Units.{units, units_of}
use Rattle.binary32.proofs.Counted.{units-top}
use Rattle.binary32.proofs.received.units_of.Goals as goal

top : {m : ℕ} (shift p : ℕ) → m ≡ units shift p → m ≤ 2 ^ 61
top shift p e = rw e (units-top shift p)

plain : {m : ℕ} → m ≤ 2 ^ 61 → to_z w64 m ≡ pos m
plain {m} h = to_z_pos w64 m (omega arith)

pub overflow_cast-size : goal.overflow_cast-size
overflow_cast-size c = fits! (nat c.magnitude-size.result) (omega (arith, top _ _ c.magnitude-size.ensures))

pub returns-then-bits-lt2147483648 : goal.returns-then-bits-lt2147483648
unfolding units_of
returns-then-bits-lt2147483648 c =
    let b = c.bits_of_float-bits in
    plain (top _ _ c.magnitude-size.ensures) ∙ simp (sym b.ensures, lt-leb _ _ c.if-bits-lt2147483648.true) (ap pos c.magnitude-size.ensures)

pub overflow_sub-result : goal.overflow_sub-result
overflow_sub-result c = rw (plain (top _ _ c.magnitude-size.ensures)) (fits! (nat 0 ⊝ nat c.magnitude-size.result) (omega (arith, top _ _ c.magnitude-size.ensures)))

pub returns : goal.returns
unfolding units_of
returns c =
    let b = c.bits_of_float-bits in
    rw (plain (top _ _ c.magnitude-size.ensures))
    (to_z-of_z w64 _ (fits! (nat 0 ⊝ nat c.magnitude-size.result) (omega (arith, top _ _ c.magnitude-size.ensures)))
    ∙ eq! (nat 0 ⊝ nat c.magnitude-size.result) (minus (nat c.magnitude-size.result)) (omega arith)
    ∙ simp (sym b.ensures, le-leb _ _ c.if-bits-lt2147483648.false) (ap (λ (n : ℕ). neg_ℤ (pos n)) c.magnitude-size.ensures))
