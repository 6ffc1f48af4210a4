-- Judged, then 12, then written. Assumes nothing.
use Rattle.std.proofs.Common.{sym}
use Rattle.sheet.proofs.Sections.{counts-in}
use Rattle.sheet_writer.proofs.Pieces.{done}
use Rattle.sheet_writer.proofs.write.Goals as goal

pub put_sheet-requires : goal.put_sheet-requires
put_sheet-requires c =
    let k = counts-in c.args.figures (sym c.in_ok-judge.ensures) in
    (k.0, k.1, rw c.sheet_length-length.ensures.0 at c.if-out-length.false)

pub returns-clause-out : goal.returns-clause-out
returns-clause-out c = done c.args.figures c.args.out.now _ c.in_ok-judge.ensures (rw c.sheet_length-length.ensures.0 at c.if-out-length.false) c.put_sheet.ensures
