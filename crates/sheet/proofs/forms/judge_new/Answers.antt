-- The identity, then the old sheet behind it. Assumes nothing.
use Rattle.std.proofs.Common.{sym}
use Rattle.sheet.proofs.EitherForm.{section-none}
use Rattle.sheet.proofs.forms.judge_new.Goals as goal

pub slice_bounds-judge_old-count : goal.slice_bounds-judge_old-count
slice_bounds-judge_old-count c = (section-none _ (sym c.in_ok-judge_own_identity.ensures)).long

pub slice_bounds-judge_old-start : goal.slice_bounds-judge_old-start
slice_bounds-judge_old-start c = (section-none _ (sym c.in_ok-judge_own_identity.ensures)).long
