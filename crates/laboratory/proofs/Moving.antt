-- Whatever keeps the contracts moves as specs/Moving.antt says. Assumes nothing.
use mathlib.Core.Path.{◌≡◌, refl, sym, ◌∙◌, ap, ap₂, subst}
use mathlib.Core.Bool.{cond}
use mathlib.Core.Logic.{inl, inr, ⊎_elim}
use mathlib.Core.List.{List}
use Prim.Native.Nat.{ℕ, zero, suc}
use native.Mathlib.Omega.{arith}
use lib.Dec.{eqb}
use lib.ListN.{length, take, drop, length-drop}
use lib.Seq.{take_at, drop_at}
use borrow.Author.Tests.{ne_eqb}
use Rattle.sheet.specs.Places.{identity_size}
use Rattle.sheet.specs.Judge.{◌then◌}
use Rattle.sheet.specs.Read.{old_number}
use Rattle.sheet.specs.Forms.{identity_at, new_number, sheet_number, no_identity, contents_of}
use Rattle.sheet.specs.BothForms.{InRange}
use Rattle.sheet.specs.declared.Identity.{Identity}
use Rattle.sheet.specs.Sheet.{Sheet}
use Rattle.sheet.proofs.Chain.{then-stop}
use Rattle.sheet.proofs.BothForms.{old-other, old-empty, both-forms}
use Rattle.sheet.proofs.EitherForm.{in-given}
use Rattle.sheet.proofs.NewForm.{old-back, old-within, same_read}
use Rattle.sheet_writer.specs.declared.Written.{Written}
use Rattle.laboratory.specs.Moves.{to_new, to_old, put_at_front, after, buffers_number, to_new_number, to_old_number, moved_of, moved_back_of, Buffers, MovedToNew, MovedToOld}
use Rattle.laboratory.specs.Moving.{Lent, ToNew, ToOld, Moving}
use Rattle.laboratory.specs.declared.moves.MovedBack.{MovedBack}
use Rattle.laboratory.proofs.Fits.{new-length, fits-new, FitsOld, fits-old}
use Rattle.laboratory.proofs.Told.{given_out, short-buffers, roomy-buffers, new-other, new-first, new-empty, old-told, new_told, new-identity}

-- ---- the lent buffers

module _ {written out out' scratch scratch' : List ℕ} where
  lent : (n : ℕ) {l : ℕ} → l ≡ cond (eqb n 0) (length written) 0 → Buffers n written out out' scratch scratch' → Lent n l out out' scratch scratch'
  unfolding after
  lent zero e b =
      let past : (before : List ℕ) → drop (length written) (put_at_front written before) ≡ drop (length written) before = λ before. drop_at written (drop (length written) before) (length written) refl in
      let put : (before : List ℕ) → take (length written) (put_at_front written before) ≡ written = λ before. take_at written (drop (length written) before) (length written) refl in
      record {
        past_kept = ap₂ drop e b.out_is ∙ past out ∙ ap (λ (k : ℕ). drop k out) (sym e);
        copied = ap₂ take e b.scratch_is ∙ put scratch ∙ sym (ap₂ take e b.out_is ∙ put out);
        rest_kept = ap₂ drop e b.scratch_is ∙ past scratch ∙ ap (λ (k : ℕ). drop k scratch) (sym e);
        none_written = λ h. absurd (h refl);
        out_kept = λ h. absurd (h refl);
        scratch_kept = λ h. absurd (h refl);
      }
  lent (suc n) {l} e b =
      let no = ne_eqb (suc n) 0 (λ z. omega (arith, z)) in
      let k : l ≡ 0 = e ∙ rw no refl in
      let o : out' ≡ out = b.out_is ∙ rw no refl in
      let c : scratch' ≡ scratch = b.scratch_is ∙ rw no refl in
      record {
        past_kept = ap (drop l) o;
        copied = ap (λ (x : ℕ). take x scratch') k ∙ sym (ap (λ (x : ℕ). take x out') k);
        rest_kept = ap (drop l) c;
        none_written = λ h. k;
        out_kept = λ h. o;
        scratch_kept = λ h. c;
      }

  -- the bytes written stand at the front
  written-there : {n l : ℕ} → n ≡ 0 → l ≡ cond (eqb n 0) (length written) 0 → Buffers n written out out' scratch scratch' → (l ≡ length written) × (take l out' ≡ written)
  unfolding after
  written-there {l = l} z e b =
      let k : l ≡ length written = e ∙ rw z refl in
      let f : out' ≡ put_at_front written out = b.out_is ∙ rw z refl in
      (k, ap₂ take k f ∙ take_at written (drop (length written) out) (length written) refl)

-- ---- to the new form

module _ (s : List ℕ) (i : Identity) (out out' scratch scratch' : List ℕ) (r : Written) (m : MovedToNew s i out out' scratch scratch' r) where
  abbrev pub new-number : ℕ
  new-number = to_new_number s i (length out) (length scratch)

  pub number_is : r.number ≡ new-number
  unfolding moved_of
  number_is = ap (λ (w : Written). w.number) m.answer_is

  length-is : r.length ≡ cond (eqb new-number 0) (length (to_new i s)) 0
  unfolding moved_of
  length-is = ap (λ (w : Written). w.length) m.answer_is

  judged : (old_number s ≡ 0 → ⊥) → r.number ≡ old_number s
  unfolding to_new_number
  judged h = number_is ∙ then-stop (old_number s) _ h

  judged-by : {n : ℕ} → old_number s ≡ suc n → r.number ≡ suc n
  judged-by e = judged (λ z. omega (arith, z, e)) ∙ e

  given : old_number s ≡ 0 → (InRange i → ⊥) → r.number ≡ 3
  unfolding to_new_number
  given h k = number_is ∙ ap₂ ◌then◌ h (ap₂ ◌then◌ (given_out i k) refl)

  by-buffers : old_number s ≡ 0 → InRange i → r.number ≡ buffers_number (length (to_new i s)) (length out) (length scratch)
  unfolding to_new_number
  by-buffers h k = number_is ∙ ap₂ ◌then◌ h (ap₂ ◌then◌ (in-given i k) refl)

  pub there : r.number ≡ 0 → (r.length ≡ length (to_new i s)) × (take r.length out' ≡ to_new i s)
  there z = written-there (sym number_is ∙ z) length-is m.buffers

  moves-to-new : ToNew s i out out' scratch scratch' r
  moves-to-new = record {
    no_sheet = λ e. judged-by (ap old_number e ∙ old-empty);
    other_form = λ count rest k e. judged-by (ap old_number e ∙ old-other count rest k);
    judged_as = λ h rest e. let same : sheet_number s ≡ old_number s = ap sheet_number e ∙ both-forms.old rest ∙ ap old_number (sym e) in judged (λ z. h (same ∙ z)) ∙ sym same;
    judged = judged;
    given = given;
    short = λ h k l. by-buffers h k ∙ short-buffers _ _ _ (⊎_elim (λ a. inl (omega (arith, a, new-length i s))) inr l);
    accepted = λ h k a b. by-buffers h k ∙ roomy-buffers (omega (arith, a, new-length i s)) b;
    lent = subst (λ (n : ℕ). Lent n r.length out out' scratch scratch') (sym number_is) (lent new-number length-is m.buffers);
    longer = λ z. (there z).0 ∙ new-length i s;
    behind = λ z. ap (drop identity_size) (there z).1 ∙ old-back i s (fits-new s i _ _ (sym number_is ∙ z)).given-none;
    told = λ z. let f = fits-new s i _ _ (sym number_is ∙ z) in ap contents_of (there z).1 ∙ new_told s i f.sheet-none f.given-none;
  }

-- ---- and back

module _ (s out out' scratch scratch' : List ℕ) (r : MovedBack) (m : MovedToOld s out out' scratch scratch' r) where
  abbrev pub old-number : ℕ
  old-number = to_old_number s (length out) (length scratch)

  pub back-number : r.number ≡ old-number
  unfolding moved_back_of
  back-number = ap (λ (w : MovedBack). w.number) m.answer_is

  back-length : r.length ≡ cond (eqb old-number 0) (length (to_old s)) 0
  unfolding moved_back_of
  back-length = ap (λ (w : MovedBack). w.length) m.answer_is

  back-identity : r.identity ≡ cond (eqb old-number 0) (identity_at s) no_identity
  unfolding moved_back_of
  back-identity = ap (λ (w : MovedBack). w.identity) m.answer_is

  back-judged : (new_number s ≡ 0 → ⊥) → r.number ≡ new_number s
  unfolding to_old_number
  back-judged h = back-number ∙ then-stop (new_number s) _ h

  back-judged-by : {n : ℕ} → new_number s ≡ suc n → r.number ≡ suc n
  back-judged-by e = back-judged (λ z. omega (arith, z, e)) ∙ e

  back-buffers : new_number s ≡ 0 → r.number ≡ buffers_number (length (to_old s)) (length out) (length scratch)
  unfolding to_old_number
  back-buffers h = back-number ∙ ap₂ ◌then◌ h refl

  pub back-there : r.number ≡ 0 → (r.length ≡ length (to_old s)) × (take r.length out' ≡ to_old s)
  back-there z = written-there (sym back-number ∙ z) back-length m.buffers

  moves-to-old : ToOld s out out' scratch scratch' r
  moves-to-old =
      let d = length-drop identity_size s in
      let fits : r.number ≡ 0 → FitsOld s (length out) (length scratch) = λ z. fits-old s _ _ (sym back-number ∙ z) in
      record {
        no_sheet = λ e. back-judged-by (ap new_number e ∙ new-empty);
        other_form = λ count rest k e. back-judged-by (ap new_number e ∙ new-other count rest k);
        judged_as = λ h rest e. let same : sheet_number s ≡ new_number s = ap sheet_number e ∙ new-first rest ∙ ap new_number (sym e) in back-judged (λ z. h (same ∙ z)) ∙ sym same;
        judged = back-judged;
        short = λ h l. back-buffers h ∙ short-buffers _ _ _ (⊎_elim (λ a. inl (omega (arith, a, d))) inr l);
        accepted = λ h a b. back-buffers h ∙ roomy-buffers (omega (arith, a, d)) b;
        lent = subst (λ (n : ℕ). Lent n r.length out out' scratch scratch') (sym back-number) (lent old-number back-length m.buffers);
        shorter = λ z. omega (arith, (back-there z).0, d, (fits z).long);
        old_bytes = λ z. (back-there z).1;
        identity_is = λ z. back-identity ∙ rw (sym back-number ∙ z) (sym (new-identity s (fits z).sheet-none));
        told = λ z. let h = old-within s (fits z).sheet-none in ap contents_of (back-there z).1 ∙ old-told (to_old s) h ∙ ap (λ (f : Sheet). record { number = 0; form = 4; identity = no_identity; figures = f.figures }) (same_read s (fits z).sheet-none);
        identity_of_none = λ h. back-identity ∙ rw (ne_eqb old-number 0 (λ z. h (back-number ∙ z)));
      }

pub moving : Moving
moving = record { moves_to_new = moves-to-new; moves_to_old = moves-to-old }
