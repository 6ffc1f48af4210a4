-- A move refused, and a move done, as specs/Moves.antt says. Assumes nothing.
use mathlib.Core.Path.{◌≡◌, ◌∙◌, ap}
use native.Mathlib.Omega.{arith}
use Rattle.std.proofs.Common.{Result, Ok, Err, IfOk}
use Rattle.std.specs.Result.{IsErrAnd}
use Rattle.refusal.specs.Refusal.{number, number_of}
use Rattle.refusal.specs.declared.Refusal.{Refusal}
use Rattle.figures.specs.declared.Calibration.{Calibration}
use Rattle.refusal.proofs.Numbers.{number_above}
use Rattle.sheet_writer.specs.Write.{written, written_of}
use mathlib.Core.List.{List}
use Prim.Native.Nat.{ℕ, ◌+◌, ◌-◌}
use lib.ListN.{length, take, drop, length-drop}
use lib.Seq.{take_at}
use borrow.Author.Tests.{ne_eqb}
use Rattle.sheet.specs.Places.{identity_size}
use Rattle.sheet.specs.Forms.{identity_at}
use Rattle.sheet.specs.declared.Identity.{Identity}
use Rattle.laboratory.specs.Moves.{to_new, to_old, put_at_front, copy_of, after, to_new_number, to_old_number, moved_of, moved_back_of, told_back, Buffers, MovedToNew, MovedToOld}
use Rattle.laboratory.proofs.Fits.{new-length}

-- what was put at the front is there
put-there : (text before : List ℕ) {after : List ℕ} {n : ℕ} → after ≡ put_at_front text before → length text ≡ n → take n after ≡ text
put-there text before {n = n} e k = ap (take n) e ∙ take_at text (drop (length text) before) n k

module _ {number : ℕ} {written out scratch : List ℕ} where
  untouched : (number ≡ 0 → ⊥) → Buffers number written out out scratch scratch
  unfolding after
  untouched h = record { out_is = rw (ne_eqb number 0 h); scratch_is = rw (ne_eqb number 0 h) }

  filled : {out' scratch' : List ℕ} → number ≡ 0 → out' ≡ put_at_front written out → scratch' ≡ put_at_front (copy_of written) scratch → Buffers number written out out' scratch scratch'
  unfolding after
  filled e a b = record { out_is = rw e a; scratch_is = rw e b }

module _ (s : List ℕ) (i : Identity) (out scratch : List ℕ) where
  abbrev new-number : ℕ
  new-number = to_new_number s i (length out) (length scratch)

  pub new-refused : (r : Result ℕ Refusal) (e : Refusal) → IsErrAnd r (λ f. f ≡ e) → number e ≡ new-number → MovedToNew s i out out scratch scratch (written r)
  unfolding moved_of
  new-refused (Ok _) e h k = absurd h
  new-refused (Err f) e h k =
      let n : new-number ≡ 0 → ⊥ = λ z. absurd (omega (arith, number_above e)) in
      record { answer_is = rw (ne_eqb new-number 0 n, h, k); buffers = untouched n }

  pub new-done : {out' scratch' : List ℕ} → new-number ≡ 0 → out' ≡ put_at_front (to_new i s) out → scratch' ≡ put_at_front (copy_of (take (identity_size + length s) out')) scratch
      → MovedToNew s i out out' scratch scratch' (record { number = 0; length = identity_size + length s })
  unfolding moved_of
  new-done e a b = record { answer_is = rw (e, new-length i s); buffers = filled e a (b ∙ ap (λ (w : List ℕ). put_at_front (copy_of w) scratch) (put-there (to_new i s) out a (new-length i s))) }

module _ (s out scratch : List ℕ) where
  abbrev old-number : ℕ
  old-number = to_old_number s (length out) (length scratch)

  pub old-refused : (r : Result (ℕ × Identity) Refusal) (e : Refusal) → IsErrAnd r (λ f. f ≡ e) → number e ≡ old-number → MovedToOld s out out scratch scratch (told_back r)
  unfolding moved_back_of
  old-refused (Ok _) e h k = absurd h
  old-refused (Err f) e h k =
      let n : old-number ≡ 0 → ⊥ = λ z. absurd (omega (arith, number_above e)) in
      record { answer_is = rw (ne_eqb old-number 0 n, h, k); buffers = untouched n }

  pub old-done : {out' scratch' : List ℕ} → old-number ≡ 0 → out' ≡ put_at_front (to_old s) out → scratch' ≡ put_at_front (copy_of (take (length s - identity_size) out')) scratch
      → MovedToOld s out out' scratch scratch' (record { number = 0; length = length s - identity_size; identity = identity_at s })
  unfolding moved_back_of
  old-done e a b =
      let d = length-drop identity_size s in
      record { answer_is = rw (e, d); buffers = filled e a (b ∙ ap (λ (w : List ℕ). put_at_front (copy_of w) scratch) (put-there (to_old s) out a d)) }

-- what was written, as C is told it
pub written-told : (c : Calibration) (out : List ℕ) (r : Result ℕ Refusal) → number_of r ≡ (written_of c out).number → IfOk r (λ n. n ≡ (written_of c out).length) → written r ≡ written_of c out
unfolding written_of
written-told c out (Ok n) e l = rw (l, ← e)
written-told c out (Err f) e l = rw (← e, ne_eqb (number f) 0 (λ z. absurd (omega (arith, number_above f))))
