-- Judged, then both buffers, and the identity. Assumes nothing.
use Rattle.std.proofs.Common.{length, sym, arith}
use Rattle.laboratory.proofs.Fits.{fits-old}
use Rattle.laboratory.proofs.Answers.{old-refused, old-done}
use Rattle.laboratory.proofs.moves.to_old.Goals as goal

pub returns-in_err-judge_to_old : goal.returns-in_err-judge_to_old
returns-in_err-judge_to_old c = let a = c.args in old-refused a.sheet.now a.out.now a.scratch.now c.from_residual.result c.in_err-judge_to_old.field-0.0 c.from_residual.ensures.1 c.in_err-judge_to_old.ensures

pub overflow_sub-length : goal.overflow_sub-length
overflow_sub-length c = (fits-old c.args.sheet.now _ _ (sym c.in_ok-judge_to_old.ensures)).long

pub put_old-requires : goal.put_old-requires
put_old-requires c = let f = fits-old c.args.sheet.now _ _ (sym c.in_ok-judge_to_old.ensures) in (f.long, f.in-out)

pub keep_copy-requires : goal.keep_copy-requires
keep_copy-requires c =
    let f = fits-old c.args.sheet.now (length c.args.out.now) (length c.args.scratch.now) (sym c.in_ok-judge_to_old.ensures) in
    (omega (arith, f.in-out, c.put_old.auto.to), omega (arith, f.in-scratch))

pub returns : goal.returns
returns c =
    let a = c.args in
    rw c.identity_at.ensures (old-done a.sheet.now a.out.now a.scratch.now (sym c.in_ok-judge_to_old.ensures) c.put_old.ensures c.keep_copy.ensures)
