-- What was written, as C is told it. Assumes nothing.
use Rattle.std.proofs.Common.{◌∙◌}
use Rattle.laboratory.proofs.Answers.{written-told}
use Rattle.laboratory.proofs.converter_write_sheet.Goals as goal

pub returns : goal.returns
returns c = (c.from.ensures ∙ written-told c.args.figures c.args.out.now c.write.result c.write.ensures.number c.write.ensures.length, c.write.ensures.out)
