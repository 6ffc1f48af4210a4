-- `take_few` meets its contract: the bytes passed are at the top of the word. Assumes nothing.
use mathlib.Core.Path.{◌≡◌}
use lib.ListN.{length}
use Rattle.checksum.proofs.Few.{topped}
use Rattle.checksum.proofs.take_few.Given as goal

abbrev pub invariant-loop-i : goal.invariant-loop-i
invariant-loop-i l = l.word ≡ topped l.bytes (length l.bytes) l.i
