-- Invariant: what is left of the bytes, on top of what is stored, makes up the copy. Assumes nothing.
use Rattle.std.proofs.Common.{◌≡◌, ◌+◌, length, drop}
use Rattle.std.proofs.lemmas.List.Edits.{sets}
use Rattle.laboratory.proofs.moves.copy.Given as goal

abbrev pub invariant-loop-i : goal.invariant-loop-i
invariant-loop-i l = (sets l.to (l.at + l.i) (drop l.i l.from) ≡ sets l.fn.to l.at l.from) × (length l.to ≡ length l.fn.to)
