-- With room for a whole section nothing is missing. Assumes nothing.
use Rattle.std.proofs.Common.{◌∙◌, arith}
use Rattle.sheet.specs.Judge.{short_of}
use Rattle.sheet.proofs.Numbers.{in-short}
use Rattle.sheet.proofs.EitherForm.{whole-identity}
use Rattle.sheet.proofs.forms.judge_identity.Goals as goal

pub returns : goal.returns
returns c = c.judge_section.ensures ∙ whole-identity (short_of 17) c.args.identity (in-short (omega arith)) (in-short (omega arith)) (in-short (omega arith))
