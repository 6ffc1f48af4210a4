-- `round_div` meets its contract: what is divided fits, and the machine's quotient is the rounded one. Assumes nothing.
use Prim.Native.Nat.{◌^◌}
use lib.IntN.{◌+ℤ◌, ◌-ℤ◌}
use lib.Signed.{shr_z}
use mir.Syntax.{w64}
use mir.Val.{SFits}
use mir.ValLaws.{to_z-of_z}
use Rattle.integers.specs.Within.{◌within◌}
use Rattle.integers.proofs.Order.{lt_yes, lt_no}
use Rattle.integers.proofs.Machine.{bits_pos, fits, known, sum, negation}
use Rattle.integers.proofs.Division.{quot_fits}
use Rattle.arithmetic.proofs.Round.{half-within, quotient-above, quotient-below}
use Rattle.arithmetic.proofs.rounding.round_div.Goals.{Start}
use Rattle.arithmetic.proofs.rounding.round_div.Goals as goal

-- the plain values: what fits on the way
module _ (s : Start) where
  half_in : (shr_z s.args.d 2) within (2 ^ 61)
  half_in = half-within s.args.d s.requires.pos_bound s.requires.d

  half-fits : SFits w64 (shr_z s.args.d 2)
  half-fits = fits (known half_in) tt

  sum_fits : SFits w64 (s.args.a +ℤ shr_z s.args.d 2)
  sum_fits = fits (sum (known s.requires.a) (known half_in)) tt

  difference-fits : SFits w64 (s.args.a -ℤ shr_z s.args.d 2)
  difference-fits = fits (sum (known s.requires.a) (negation (known half_in))) tt

pub overflow_sub-result : goal.overflow_sub-result
overflow_sub-result c = let s = (goal.at.overflow_sub-result c).Start in simp (to_z-of_z, s.ranges.a, s.ranges.d, half-fits s) (difference-fits s)

pub nonzero_div-result : goal.nonzero_div-result
nonzero_div-result c = let s = (goal.at.nonzero_div-result c).Start in simp (to_z-of_z, s.ranges.a, s.ranges.d, half-fits s, difference-fits s) (bits_pos w64 s.requires.pos_bound, quot_fits (difference-fits s) s.requires.pos_bound)

pub returns-then-a-lt0 : goal.returns-then-a-lt0
returns-then-a-lt0 c = let s = (goal.at.returns-then-a-lt0 c).Start in simp (to_z-of_z, s.ranges.a, s.ranges.d, half-fits s, difference-fits s, quot_fits (difference-fits s) s.requires.pos_bound)
    (quotient-below s.args.a s.args.d s.requires.pos_bound (lt_yes (simp (to_z-of_z, s.ranges.a) at c.if-a-lt0.true)))

pub overflow_add-result : goal.overflow_add-result
overflow_add-result c = let s = (goal.at.overflow_add-result c).Start in simp (to_z-of_z, s.ranges.a, s.ranges.d, half-fits s) (sum_fits s)

pub nonzero_div-result-2 : goal.nonzero_div-result-2
nonzero_div-result-2 c = let s = (goal.at.nonzero_div-result-2 c).Start in simp (to_z-of_z, s.ranges.a, s.ranges.d, half-fits s, sum_fits s) (bits_pos w64 s.requires.pos_bound, quot_fits (sum_fits s) s.requires.pos_bound)

pub returns : goal.returns
returns c = let s = (goal.at.returns c).Start in simp (to_z-of_z, s.ranges.a, s.ranges.d, half-fits s, sum_fits s, quot_fits (sum_fits s) s.requires.pos_bound)
    (quotient-above s.args.a s.args.d s.requires.pos_bound (lt_no (simp (to_z-of_z, s.ranges.a) at c.if-a-lt0.false)))
