-- `binary32::received::takes` meets its contract: `Counted` says what its tests of the units tell. Assumes nothing.
use borrow.Author.Tests.{lt-ltb}
use mathlib.Core.Path.{◌≡◌, refl, sym, ap, ap₂, ◌∙◌, subst}
use mathlib.Core.Bool.{Bool, true, false, ◌&&◌, ◌||◌}
use Prim.Native.Nat.{ℕ, ◌%◌, ◌^◌, ◌<◌}
use native.Mathlib.Omega.{arith}
use lib.Dec.{T, eqb, leb, ltb}
use lib.Bits.{bit_and}
use lib.IntN.{ℤ, pos, ◌*ℤ◌}
use lib.Signed.{le_z, lt_z, mag}
use lib.Ieee.{Float, binary32, fits, to_bits}
use mir.Syntax.{w64}
use mir.Val.{SFits, of_z, hbits}
use mir.Facts.{to_z-of_z}
use Rattle.integers.proofs.Order.{lt_yes, lt_no, yes_le, no_le}
use Rattle.binary32.specs.Received.{takes}
use Rattle.binary32.specs.ForCode.{Computable}
use Rattle.binary32.specs.Units.{units, units_of}
use Rattle.binary32.specs.declared.received.Range.{Range}
use Rattle.binary32.proofs.Counted.{takes-is, in_units, whole_units, units-top, low_bits, least_fits, most-fits, least-units-fit, most-units-fit}
use Rattle.binary32.proofs.received.takes.Goals.{Start}
use Rattle.binary32.proofs.received.takes.Goals as goal

module _ (r : Range) (k : Computable r) (x : Float) (F : T (fits binary32 x)) {u : ℤ} (e : u ≡ units_of r.shift x) where
  abbrev whole : Bool
  whole = whole_units r.shift (units r.shift (to_bits binary32 x % 2 ^ 31))

  by_units : takes r x ≡ (in_units r u && whole)
  by_units = takes-is r k x F ∙ ap (λ (z : ℤ). in_units r z && whole) (sym e)

  too-low : lt_z u (r.least *ℤ pos (2 ^ 25)) ≡ true → false ≡ takes r x
  too-low h = sym (by_units ∙ ap (λ (t : Bool). t && le_z u (r.most *ℤ pos (2 ^ 25)) && whole) (no_le {a = r.least *ℤ pos (2 ^ 25)} {b = u} (lt_yes h)))

  too-high : lt_z (r.most *ℤ pos (2 ^ 25)) u ≡ true → false ≡ takes r x
  too-high h = sym (by_units ∙ ap (λ (t : Bool). le_z (r.least *ℤ pos (2 ^ 25)) u && t && whole) (no_le {a = u} {b = r.most *ℤ pos (2 ^ 25)} (lt_yes h)) ∙ none (le_z (r.least *ℤ pos (2 ^ 25)) u))
    where
      none : (t : Bool) → (t && false && whole) ≡ false
      none true = refl
      none false = refl

  in-range : lt_z u (r.least *ℤ pos (2 ^ 25)) ≡ false → lt_z (r.most *ℤ pos (2 ^ 25)) u ≡ false → whole ≡ takes r x
  in-range l h = sym (by_units ∙ ap₂ (λ (s t : Bool). s && t && whole) (yes_le {a = r.least *ℤ pos (2 ^ 25)} {b = u} (lt_no l)) (yes_le {a = u} {b = r.most *ℤ pos (2 ^ 25)} (lt_no h)))

  whole_is : r.shift ≡ 0 → eqb (bit_and (of_z w64 u) 33554431) 0 ≡ whole
  unfolding units_of
  whole_is z =
      ap (λ (v : ℤ). eqb (bit_and (of_z w64 v) 33554431) 0) e
      ∙ low_bits (leb (2 ^ 31) (to_bits binary32 x)) (units r.shift (to_bits binary32 x % 2 ^ 31)) (units-top r.shift (to_bits binary32 x % 2 ^ 31))
      ∙ ap (λ (n : ℕ). ltb 0 n || eqb (units r.shift (to_bits binary32 x % 2 ^ 31) % 2 ^ 25) 0) (sym z)

sfits : {z : ℤ} → mag z < 2 ^ hbits w64 → SFits w64 z
sfits h = record { sfits = h }

-- what owning an `f32` tells: the format holds it
held : (c : Start) → T (fits binary32 c.args.x)
held c = subst T (sym c.well_formed.1.0.1) tt

pub overflow_mul-range : goal.overflow_mul-range
overflow_mul-range c =
    let s = c in
    simp (to_z-of_z, least_fits s.args.range s.requires) (least-units-fit s.args.range s.requires)

pub overflow_mul-range-2 : goal.overflow_mul-range-2
overflow_mul-range-2 c =
    let s = c in
    simp (to_z-of_z, most-fits s.args.range s.requires) (most-units-fit s.args.range s.requires)

pub returns-then-size-range : goal.returns-then-size-range
returns-then-size-range c =
    let s = (goal.at.returns-then-size-range c).Start in
    let u = c.units_of-size in
    too-low s.args.range s.requires s.args.x (held s) u.ensures (simp (to_z-of_z, sfits {z = u.result} u.type_inv, least_fits s.args.range s.requires, least-units-fit s.args.range s.requires) at c.if-size-range.true)

pub returns-then-range-size : goal.returns-then-range-size
returns-then-range-size c =
    let s = (goal.at.returns-then-range-size c).Start in
    let u = c.units_of-size in
    too-high s.args.range s.requires s.args.x (held s) u.ensures (simp (to_z-of_z, sfits {z = u.result} u.type_inv, most-fits s.args.range s.requires, most-units-fit s.args.range s.requires) at c.if-range-size.true)

pub returns-then-range-eq0 : goal.returns-then-range-eq0
returns-then-range-eq0 c =
    let s = (goal.at.returns-then-range-eq0 c).Start in
    let u = c.units_of-size in
    whole_is s.args.range s.requires s.args.x (held s) u.ensures c.if-range-eq0.true
    ∙ in-range s.args.range s.requires s.args.x (held s) u.ensures
    (simp (to_z-of_z, sfits {z = u.result} u.type_inv, least_fits s.args.range s.requires, least-units-fit s.args.range s.requires) at c.if-size-range.false)
    (simp (to_z-of_z, sfits {z = u.result} u.type_inv, most-fits s.args.range s.requires, most-units-fit s.args.range s.requires) at c.if-range-size.false)

pub returns : goal.returns
returns c =
    let s = (goal.at.returns c).Start in
    let u = c.units_of-size in
    ap (λ (t : Bool). t || eqb (units s.args.range.shift (to_bits binary32 s.args.x % 2 ^ 31) % 2 ^ 25) 0) (sym (lt-ltb 0 s.args.range.shift (omega (arith, c.if-range-eq0.false))))
    ∙ in-range s.args.range s.requires s.args.x (held s) u.ensures
    (simp (to_z-of_z, sfits {z = u.result} u.type_inv, least_fits s.args.range s.requires, least-units-fit s.args.range s.requires) at c.if-size-range.false)
    (simp (to_z-of_z, sfits {z = u.result} u.type_inv, most-fits s.args.range s.requires, most-units-fit s.args.range s.requires) at c.if-range-size.false)
