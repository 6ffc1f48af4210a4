-- `scale` meets its contract: product and sums fit, and the shift is the rounded quotient. Assumes nothing.
use Prim.Native.Nat.{◌^◌}
use native.Mathlib.Omega.{arith}
use lib.IntN.{ℤ, pos, ◌+ℤ◌, ◌*ℤ◌}
use lib.Signed.{shr_z, lt_z_yes}
use mir.Syntax.{w64}
use mir.Val.{SFits}
use mir.ValLaws.{to_z-of_z}
use Rattle.integers.specs.Within.{◌within◌}
use Rattle.integers.proofs.Machine.{fits, known, literal, sum}
use Rattle.arithmetic.proofs.Round.{round-shift, round-fits, sign-within}
use Rattle.compensation.specs.Reading.{one, scaled}
use Rattle.compensation.proofs.steps.scale.Goals.{Start}
use Rattle.compensation.proofs.steps.scale.Goals as goal

module _ (s : Start) where
  abbrev product : ℤ
  product = s.args.x *ℤ s.args.gain

  product-fits : SFits w64 product
  product-fits = fits (known s.requires) tt

  sign-in : (shr_z product (2 ^ 63)) within 1
  sign-in = sign-within product product-fits

  sign_fits : SFits w64 (shr_z product (2 ^ 63))
  sign_fits = fits (known sign-in) tt

  raised-fits : SFits w64 (product +ℤ pos (2 ^ 27))
  raised-fits = fits (sum (known s.requires) (literal (2 ^ 27))) tt

  sum_fits : SFits w64 (product +ℤ pos (2 ^ 27) +ℤ shr_z product (2 ^ 63))
  sum_fits = fits (sum (sum (known s.requires) (literal (2 ^ 27))) (known sign-in)) tt

pub returns : goal.returns
unfolding scaled
returns c =
    let s = (goal.at.returns c).Start in
    simp (to_z-of_z, s.ranges.x, s.ranges.gain, product-fits s, raised-fits s, sign_fits s, sum_fits s)
    (rw (round-shift (product s) (2 ^ 27) (omega arith) (product-fits s)) (to_z-of_z w64 _ (round-fits (product s) one (lt_z_yes tt) (product-fits s))))
