-- A new sheet without fault is longer than its identity. Assumes nothing.
use Rattle.std.proofs.Common.{sym}
use Rattle.laboratory.proofs.Fits.{new-long}
use Rattle.laboratory.proofs.moves.judge_to_old.Goals as goal

pub overflow_sub-sheet : goal.overflow_sub-sheet
overflow_sub-sheet c = new-long _ (sym c.in_ok-judge_new.ensures)
