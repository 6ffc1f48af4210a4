-- In a sheet with room for all figures nothing is missing (Whole.antt). Assumes nothing.
use Rattle.sheet.proofs.Numbers.{in-short}
use Rattle.sheet.proofs.Whole.{sections-whole}
use Rattle.sheet.specs.Places.{sheet_length}
use Rattle.sheet.specs.Judge.{figures_number, short_of}
use Rattle.std.proofs.Common.{◌∙◌}
use Rattle.sheet.proofs.judgement.judge.Goals as goal

pub returns : goal.returns
unfolding figures_number
returns c =
    let f = c.args.figures in
    (rw c.sheet_length.ensures.0 at c.judge_sections.ensures) ∙ sections-whole (short_of (sheet_length f)) 4 5 2 f (λ e h. in-short h)
