-- The rest of the sheet, put at the front. Assumes nothing.
use native.Mathlib.Omega.{arith}
use lib.ListN.{length-drop}
use lib.Seq.{take_all}
use Rattle.integers.proofs.Puts.{reads, at_front}
use Rattle.sheet.specs.Places.{identity_size}
use Rattle.laboratory.proofs.moves.put_old.Goals as goal

pub returns : goal.returns
returns c =
    let s = c.args.sheet.now in
    at_front (reads (take_all _ _ (omega (arith, length-drop identity_size s))) c.copy.ensures)
