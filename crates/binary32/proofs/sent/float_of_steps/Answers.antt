-- `binary32::sent::float_of_steps` meets its contract: `Split` says that both parts can be cast, and that their sum is the step
-- count ÷ 65,536, rounded once. Assumes nothing.
use native.Mathlib.Omega.{arith}
use lib.Dec.{lit≤}
use Rattle.integers.proofs.Magnitude.{within_more}
use lib.Ieee.{binary32, of_int, of_bits}
use Rattle.binary32.proofs.Split.{high-in, low-in, summed, steps_high}
use Rattle.binary32.proofs.sent.float_of_steps.Goals as goal

pub int_to_float-result : goal.int_to_float-result
int_to_float-result c = high-in c.args.z c.ranges.z (within_more c.requires (lit≤ tt))

pub int_to_float-result-2 : goal.int_to_float-result-2
int_to_float-result-2 c = low-in c.args.z c.ranges.z (within_more c.requires (lit≤ tt))

pub returns : goal.returns
unfolding of_bits
returns c = let s = c in summed s.args.z s.ranges.z (within_more s.requires (lit≤ tt)) 16 (of_int binary32) steps_high (omega arith)
