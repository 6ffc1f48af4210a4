-- Invariant: what is left of the word, on top of what is stored, makes up its bytes. Assumes nothing.
use Prim.Native.Nat.{◌+◌, ◌-◌, ◌≤◌}
use lib.ListN.{length}
use lib.Seq.{sets}
use mathlib.Core.Path.{◌≡◌}
use Rattle.integers.specs.Bytes.{word_bytes}
use Rattle.integers.proofs.bytes.put_word.Given as goal

abbrev pub invariant-loop-i : goal.invariant-loop-i
invariant-loop-i l = (sets l.out (l.at + l.i) (word_bytes (l.count - l.i) l.rest) ≡ sets l.initial.out l.at (word_bytes l.count l.word)) × (length l.out ≡ length l.initial.out) × (l.i ≤ l.count)

abbrev pub decreases-loop-i : goal.decreases-loop-i
decreases-loop-i l = l.count - l.i
