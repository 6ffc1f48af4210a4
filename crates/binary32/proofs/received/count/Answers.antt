-- `binary32::received::count` meets its contract: what is taken is rounded from its units, by a shift. Assumes nothing.
use mathlib.Core.Path.{◌≡◌, sym, ap, ◌∙◌, subst}
use mathlib.Core.Bool.{Bool, true, false, cond}
use Prim.Native.Nat.{ℕ, ◌^◌}
use native.Mathlib.Omega.{arith}
use lib.Dec.{T}
use lib.IntN.{ℤ, pos, ◌+ℤ◌}
use lib.Signed.{shr_z, lt_z_yes}
use lib.Ieee.{Float, binary32, fits}
use mir.Syntax.{w64}
use mir.Val.{SFits}
use mir.ValLaws.{to_z-of_z}
use Rattle.integers.specs.Within.{◌within◌}
use Rattle.integers.proofs.Machine.{fits as fits-i64, known, literal, sum}
use Rattle.arithmetic.specs.Round.{round_div}
use Rattle.arithmetic.proofs.Round.{round-shift, round-fits, sign-within}
use Rattle.binary32.specs.Received.{takes, nearest, counted}
use Rattle.binary32.specs.Units.{units_of}
use Rattle.binary32.specs.declared.received.Range.{Range}
use Rattle.binary32.proofs.Counted.{taken-nearest, units-within}
use Rattle.binary32.proofs.received.count.Goals.{Start}
use Rattle.binary32.proofs.received.count.Goals as goal

-- units, raised by half a count and lowered by the sign, and shifted
module _ {u : ℤ} (w : u within (2 ^ 61)) where
  plain-fit : SFits w64 u
  plain-fit = fits-i64 (known w) tt

  sign-in : (shr_z u (2 ^ 63)) within 1
  sign-in = sign-within u plain-fit

  sign-fit : SFits w64 (shr_z u (2 ^ 63))
  sign-fit = fits-i64 (known sign-in) tt

  raised-fit : SFits w64 (u +ℤ pos (2 ^ 24))
  raised-fit = fits-i64 (sum (known w) (literal (2 ^ 24))) tt

  sum-fit : SFits w64 (u +ℤ pos (2 ^ 24) +ℤ shr_z u (2 ^ 63))
  sum-fit = fits-i64 (sum (sum (known w) (literal (2 ^ 24))) (known sign-in)) tt

fits-x : (c : Start) → T (fits binary32 c.args.x)
fits-x c = subst T (sym c.well_formed.1.0.1) tt

counted-at : (r : Range) (x : Float) (b : Bool) → b ≡ takes r x → cond b (nearest r.shift x) (pos 0) ≡ counted r x
unfolding counted
counted-at r x b h = ap (λ (t : Bool). cond t (nearest r.shift x) (pos 0)) h

within-units : {u : ℤ} (shift : ℕ) (x : Float) → u ≡ units_of shift x → u within (2 ^ 61)
within-units shift x e = rw e (units-within shift x)

pub overflow_add-result : goal.overflow_add-result
overflow_add-result c = let w = within-units _ _ c.units_of-size.ensures in simp (to_z-of_z, plain-fit w) (raised-fit w)

pub overflow_add-result-then-takes : goal.overflow_add-result-then-takes
overflow_add-result-then-takes c = let w = within-units _ _ c.units_of-size.ensures in simp (to_z-of_z, plain-fit w, raised-fit w, sign-fit w) (sum-fit w)

pub returns-then-takes : goal.returns-then-takes
returns-then-takes c =
    let s = (goal.at.returns-then-takes c).Start in
    let h : true ≡ takes s.args.range s.args.x = sym c.if-takes.true ∙ c.takes.ensures in
    let w = within-units _ _ c.units_of-size.ensures in
    simp (to_z-of_z, plain-fit w, raised-fit w, sign-fit w, sum-fit w) (rw (round-shift c.units_of-size.result (2 ^ 24) (omega arith) (plain-fit w)) (to_z-of_z w64 _ (round-fits c.units_of-size.result (pos (2 ^ 25)) (lt_z_yes tt) (plain-fit w))))
    ∙ ap (λ (u : ℤ). round_div u (pos 33554432)) c.units_of-size.ensures
    ∙ sym (taken-nearest s.args.range s.requires s.args.x (fits-x s) (sym h))
    ∙ counted-at s.args.range s.args.x true h

pub returns : goal.returns
returns c = let s = c in counted-at s.args.range s.args.x false (sym c.if-takes.false ∙ c.takes.ensures)
