-- `checksum_of_all` meets its contract: the sum, taken on over the bytes that are left, is that of all. Assumes nothing.
use mathlib.Core.Path.{◌≡◌}
use lib.ListN.{length}
use Rattle.checksum.specs.Checksum.{checksum_from, checksum_of}
use Rattle.checksum.proofs.checksum_of_all.Given as goal

abbrev pub invariant-loop-eight : goal.invariant-loop-eight
invariant-loop-eight l = checksum_from l.sum l.rest ≡ checksum_of l.bytes

abbrev pub decreases-loop-eight : goal.decreases-loop-eight
decreases-loop-eight l = length l.rest
