-- Judged, then both buffers. Assumes nothing.
use Rattle.std.proofs.Common.{length, sym, arith}
use Rattle.laboratory.proofs.Fits.{fits-new}
use Rattle.laboratory.proofs.Answers.{new-refused, new-done}
use Rattle.laboratory.proofs.moves.to_new.Goals as goal

pub returns-in_err-judge_to_new : goal.returns-in_err-judge_to_new
returns-in_err-judge_to_new c = let a = c.args in new-refused a.sheet.now a.identity a.out.now a.scratch.now c.from_residual.result c.in_err-judge_to_new.field-0.0 c.from_residual.ensures.1 c.in_err-judge_to_new.ensures

pub put_new-requires : goal.put_new-requires
put_new-requires c = (fits-new c.args.sheet.now c.args.identity _ _ (sym c.in_ok-judge_to_new.ensures)).in-out

pub keep_copy-requires : goal.keep_copy-requires
keep_copy-requires c =
    let f = fits-new c.args.sheet.now c.args.identity (length c.args.out.now) (length c.args.scratch.now) (sym c.in_ok-judge_to_new.ensures) in
    (omega (arith, f.in-out, c.put_new.auto.to), f.in-scratch)

pub returns : goal.returns
returns c = let a = c.args in new-done a.sheet.now a.identity a.out.now a.scratch.now (sym c.in_ok-judge_to_new.ensures) c.put_new.ensures c.keep_copy.ensures
