-- A sheet is written as specs/Refusals.antt says. Assumes nothing.
use mathlib.Core.Path.{◌≡◌, refl, sym, ap, ◌∙◌, subst}
use mathlib.Core.Logic.{⊎_elim}
use mathlib.Core.Bool.{cond}
use mathlib.Core.List.{List, ◌++◌}
use Prim.Native.Nat.{ℕ, zero, suc, ◌≤◌}
use native.Mathlib.Omega.{arith}
use borrow.Author.Tests.{lt-ltb, le-ltb, ne_eqb}
use lib.Dec.{ltb}
use lib.ListN.{length, take, drop}
use lib.Seq.{take_at, drop_at}
use Rattle.figures.specs.Acceptable.{Acceptable}
use Rattle.figures.specs.Representable.{Representable}
use Rattle.figures.specs.declared.Calibration.{Calibration}
use Rattle.sheet.specs.Places.{sheet_length}
use Rattle.sheet.specs.Judge.{◌then◌, figures_number}
use Rattle.sheet.specs.Write.{sheet_bytes}
use Rattle.sheet.proofs.Accepted.{figures-acceptable, acceptable-figures, acceptable-fits}
use Rattle.sheet.proofs.Range.{figures-numbers}
use Rattle.sheet.proofs.Theorems.{written-judged, written-length}
use Rattle.sheet_writer.specs.Write.{write_number, written_of, out_after}
use Rattle.sheet_writer.specs.Refusals.{AlwaysWriting}

module _ (c : Calibration) (out : List ℕ) (r : Representable c) where
  long : Acceptable c → length (sheet_bytes c) ≡ sheet_length c
  long h = written-length c r (acceptable-fits c r h)

  -- 2 to 6 come first
  unfit : (Acceptable c → ⊥) → (write_number c out ≡ figures_number c) × ((2 ≤ figures_number c) × (figures_number c ≤ 6))
  unfolding write_number
  unfit h = ⊎_elim (λ z. absurd (h (figures-acceptable c r z))) (λ b. (by (figures_number c) _ b.0, b)) (figures-numbers c)
    where
      by : (n m : ℕ) → 2 ≤ n → n then m ≡ n
      by zero m k = absurd (omega (arith, k))
      by (suc n) m k = refl

  fit : Acceptable c → write_number c out ≡ cond (ltb (length out) (sheet_length c)) 12 0
  unfolding write_number
  fit h = rw (acceptable-figures c r h) refl

  -- 0 is given to acceptable figures with room alone
  none_first : (n m : ℕ) → n then m ≡ 0 → (n ≡ 0) × (m ≡ 0)
  none_first zero m e = (refl, e)
  none_first (suc n) m e = absurd (omega (arith, e))

  written : write_number c out ≡ 0 → Acceptable c
  unfolding write_number
  written e = figures-acceptable c r (none_first (figures_number c) _ e).0

  after-written : write_number c out ≡ 0 → out_after c out ≡ sheet_bytes c ++ drop (sheet_length c) out
  unfolding out_after
  after-written e = rw e refl

pub always-writing : AlwaysWriting
unfolding written_of out_after
always-writing c out r f = record {
  unfit_least = λ h. subst (λ (n : ℕ). 2 ≤ n) (sym (unfit c out r h).0) (unfit c out r h).1.0;
  unfit_most = λ h. subst (λ (n : ℕ). n ≤ 6) (sym (unfit c out r h).0) (unfit c out r h).1.1;
  unfit_order = λ h. (unfit c out r h).0 ∙ sym (written-judged c r f);
  short = λ h l. fit c out r h ∙ rw (lt-ltb (length out) (sheet_length c) (omega (arith, l, long c out r h))) refl;
  accepted = λ h l. fit c out r h ∙ rw (le-ltb (length out) (sheet_length c) (omega (arith, l, long c out r h))) refl;
  bytes_written = λ e. rw e (sym (long c out r (written c out r e)));
  sheet_there = λ e. ap (take (length (sheet_bytes c))) (after-written c out r e) ∙ take_at (sheet_bytes c) (drop (sheet_length c) out) (length (sheet_bytes c)) refl;
  past_kept = λ e. ap (drop (length (sheet_bytes c))) (after-written c out r e) ∙ drop_at (sheet_bytes c) (drop (sheet_length c) out) (length (sheet_bytes c)) refl ∙ ap (λ (n : ℕ). drop n out) (sym (long c out r (written c out r e)));
  no_length = λ h. rw (ne_eqb (write_number c out) 0 h) refl;
  all_kept = λ h. rw (ne_eqb (write_number c out) 0 h) refl;
}
