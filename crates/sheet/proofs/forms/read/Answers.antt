-- What stands in front, then the old sheet. Assumes nothing.
use Rattle.std.proofs.Common.{◌≡◌, IfOk, ap, ◌∙◌, subst}
use Rattle.sheet.specs.Read.{read_old}
use Rattle.sheet.specs.Sheet.{Sheet}
use Rattle.sheet.proofs.EitherForm.{front-faulty, front-clear, rest}
use Rattle.refusal.proofs.Numbers.{number_above, refused}
use Rattle.sheet.proofs.forms.read.Goals as goal

pub returns-in_err-start-clause-number : goal.returns-in_err-start-clause-number
returns-in_err-start-clause-number c = refused c.from_residual.result c.in_err-start.field-0.0 c.from_residual.ensures.1 ∙ front-faulty c.args.sheet.now c.in_err-start.ensures.number (number_above c.in_err-start.field-0.0)

pub slice_bounds-read_old-count : goal.slice_bounds-read_old-count
slice_bounds-read_old-count c = (front-clear c.args.sheet.now c.in_ok-start.ensures.number c.in_ok-start.ensures.start).0

pub slice_bounds-read_old-start : goal.slice_bounds-read_old-start
slice_bounds-read_old-start c = (front-clear c.args.sheet.now c.in_ok-start.ensures.number c.in_ok-start.ensures.start).0

pub returns-clause-number : goal.returns-clause-number
returns-clause-number c =
    let k = front-clear c.args.sheet.now c.in_ok-start.ensures.number c.in_ok-start.ensures.start in
    c.read_old.ensures.number ∙ ap (λ (r : Sheet). r.number) (ap read_old (rest c.args.sheet.now c.in_ok-start.start) ∙ k.1)

pub returns-clause-figures : goal.returns-clause-figures
returns-clause-figures c =
    let k = front-clear c.args.sheet.now c.in_ok-start.ensures.number c.in_ok-start.ensures.start in
    subst (λ (r : Sheet). IfOk c.read_old.result (λ figures. figures ≡ r.figures)) (ap read_old (rest c.args.sheet.now c.in_ok-start.start) ∙ k.1) c.read_old.ensures.figures
