-- The first fault counts. Assumes nothing.
use Rattle.std.proofs.Common.{ℕ, sym, refl, ap, ◌∙◌}
use Rattle.sheet.proofs.Chain.{pass}
use Rattle.laboratory.specs.Moves.{buffers_number, to_new_number}
use Rattle.laboratory.proofs.Fits.{new-length}
use Rattle.laboratory.proofs.moves.judge_to_new.Goals as goal

pub returns : goal.returns
unfolding to_new_number
returns c =
    let a = c.args in
    let fits = c.judge_buffers.ensures ∙ ap (λ (n : ℕ). buffers_number n a.out a.scratch) (sym (new-length a.identity a.sheet.now)) in
    pass c.in_ok-judge_old.ensures refl (pass c.in_ok-judge_identity.ensures refl fits)
