-- `sixty_four_shifts` meets its contract: the closed form is what sixty-four shifts give. Assumes nothing.
use mathlib.Core.Path.{ap, ◌∙◌}
use Prim.Native.Nat.{ℕ, ◌*◌, ◌%◌, ◌^◌, ◌<◌}
use native.Mathlib.Omega.{arith}
use lib.Bits.{bit_xor, xor_lt}
use Rattle.checksum.proofs.Linear.{ones-within}
use Rattle.checksum.proofs.AtOnce.{remainder_of, sixty_four, upper_fits, remainder-fits, sixty-four-is}
use Rattle.checksum.proofs.sixty_four_shifts.Goals as goal

pub overflow_mul-multiple : goal.overflow_mul-multiple
overflow_mul-multiple c = omega (arith, upper_fits c.args.x (omega arith))

pub overflow_mul-result : goal.overflow_mul-result
overflow_mul-result c = omega (arith, remainder-fits c.args.x (omega arith))

pub overflow_cast-result : goal.overflow_cast-result
overflow_cast-result c = omega (arith, remainder-fits c.args.x (omega arith))

pub returns : goal.returns
unfolding sixty_four
returns c =
    let x = c.args.x in
    let r = remainder_of x in
    let fits : x < 2 ^ 64 = omega arith in
    ap (λ (n : ℕ). bit_xor (r * 2) (n % 2 * 0xC001)) (ones-within 64 (bit_xor x r) (xor_lt 64 x r fits (omega (arith, remainder-fits x fits)))) ∙ sixty-four-is x fits
