-- The default figures are the ones that specs/Default.antt gives. Assumes nothing.
use borrow.Author.Rules.{rules}
use Rattle.figures.specs.Default.{default_sheet}
use Rattle.figures.proofs.Calibration.new.Goals as goal

pub returns : goal.returns
unfolding default_sheet
returns c = search rules
