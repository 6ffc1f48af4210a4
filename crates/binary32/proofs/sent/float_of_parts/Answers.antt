-- `binary32::sent::float_of_parts` meets its contract: `Split` says that both parts can be cast, and that their sum is the
-- count ÷ 2^28, rounded once. Assumes nothing.
use native.Mathlib.Omega.{arith}
use lib.Ieee.{binary32, of_int, of_bits, div}
use Rattle.binary32.proofs.Split.{high-in, low-in, power, summed, parts-high}
use Rattle.binary32.proofs.sent.float_of_parts.Goals as goal

pub int_to_float-result : goal.int_to_float-result
int_to_float-result c = high-in c.args.z c.ranges.z c.requires

pub int_to_float-result-2 : goal.int_to_float-result-2
int_to_float-result-2 c = low-in c.args.z c.ranges.z c.requires

pub returns : goal.returns
unfolding of_bits
returns c = let s = c in summed s.args.z s.ranges.z s.requires 28 (λ z. div binary32 (of_int binary32 z) (power 12)) parts-high (omega arith)
