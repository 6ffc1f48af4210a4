-- Each move undoes the other. Assumes nothing.
use mathlib.Core.Path.{◌≡◌, sym, ◌∙◌, ap, ap₂}
use mathlib.Core.List.{List}
use Prim.Native.Nat.{ℕ, ◌+◌}
use native.Mathlib.Omega.{arith}
use lib.ListN.{length, take, drop, length-drop}
use Rattle.sheet.specs.Bytes.{Bytes}
use Rattle.sheet.specs.Places.{identity_size}
use Rattle.sheet.specs.Read.{old_number}
use Rattle.sheet.specs.Forms.{identity_at, own_identity_number, new_number}
use Rattle.sheet.specs.declared.Identity.{Identity}
use Rattle.sheet.proofs.Chain.{then-none}
use Rattle.sheet.proofs.EitherForm.{given-in, in-given, section-none}
use Rattle.sheet.proofs.NewForm.{old-back, identity-back, new-judged, behind-judged, new_is, old-within}
use Rattle.sheet_writer.specs.declared.Written.{Written}
use Rattle.laboratory.specs.Moves.{to_new, MovedToNew, MovedToOld}
use Rattle.laboratory.specs.RoundTrip.{ThereAndBack, BackAndThere, RoundTrip}
use Rattle.laboratory.specs.declared.moves.MovedBack.{MovedBack}
use Rattle.laboratory.proofs.Fits.{new-length, fits-new, fits-old}
use Rattle.laboratory.proofs.Told.{new-identity}
use Rattle.laboratory.proofs.Moving.{number_is, there, back-number, moving}

module _ (s : List ℕ) (i : Identity) (a a' b b' c c' d d' : List ℕ) (went : Written) (back : MovedBack)
    (m : MovedToNew s i a a' b b' went) (z : went.number ≡ 0) (n : MovedToOld (take went.length a') c c' d d' back) where
  goes_back : ThereAndBack s i c c' d back
  goes_back =
      let f = fits-new s i _ _ (sym (number_is s i a a' b b' went m) ∙ z) in
      let t = (there s i a a' b b' went m z).1 in
      let q = moving.moves_to_old (take went.length a') c c' d d' back n in
      let none : new_number (take went.length a') ≡ 0 = ap new_number t ∙ new-judged i s f.given-none ∙ f.sheet-none in
      let long : length (take went.length a') ≡ identity_size + length s = ap length t ∙ new-length i s in
      record {
        accepted = λ h k. q.accepted none (omega (arith, long, h)) k;
        same_bytes = λ e. q.old_bytes e ∙ ap (drop identity_size) t ∙ old-back i s f.given-none;
        same_identity = λ e. q.identity_is e ∙ new-identity (take went.length a') none ∙ ap identity_at t ∙ identity-back i s f.given-none;
      }

module _ (s : List ℕ) (bytes : Bytes s) (a a' b b' c c' d d' : List ℕ) (back : MovedBack) (went : Written)
    (m : MovedToOld s a a' b b' back) (z : back.number ≡ 0) (n : MovedToNew (take back.length a') back.identity c c' d d' went) where
  goes-there : BackAndThere s c c' d went
  unfolding new_number
  goes-there =
      let f = fits-old s _ _ (sym (back-number s a a' b b' back m) ∙ z) in
      let p = moving.moves_to_old s a a' b b' back m in
      let section = (then-none {a = own_identity_number s} f.sheet-none).0 in
      let t = p.old_bytes z in
      let i : back.identity ≡ identity_at s = p.identity_is z ∙ new-identity s f.sheet-none in
      let q = moving.moves_to_new (take back.length a') back.identity c c' d d' went n in
      let none : old_number (take back.length a') ≡ 0 = ap old_number t ∙ old-within s f.sheet-none in
      let range = rw (sym i) at (given-in (identity_at s) (section-none s section).given) in
      let long : identity_size + length (take back.length a') ≡ length s = omega (arith, ap length t, length-drop identity_size s, f.long) in
      record {
        accepted = λ h k. q.accepted none range (omega (arith, long, h)) k;
        same_bytes = λ e. (there (take back.length a') back.identity c c' d d' went n e).1 ∙ ap₂ to_new i t ∙ new_is s bytes section;
      }

pub round_trip : RoundTrip
round_trip = record {
  there_and_back = goes_back;
  back_and_there = goes-there;
  moved_accepted = λ s i r. behind-judged i s (in-given i r);
}
