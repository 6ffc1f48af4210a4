-- There and back (02, Change 6): "another moves back and gives the old bytes again and the identity beside them". Of any two calls, the
-- second over what the first wrote, each with its own lent buffers.
use Rattle.std.specs.Prelude.{◌≡◌, List, ◌++◌, ℕ, ◌≤◌, length, take}
use Rattle.sheet.specs.Bytes.{Bytes}
use Rattle.sheet.specs.Read.{old_number}
use Rattle.sheet.specs.Forms.{identity_bytes, sheet_number}
use Rattle.sheet.specs.BothForms.{InRange}
use Rattle.sheet.specs.declared.Identity.{Identity}
use Rattle.sheet_writer.specs.declared.Written.{Written}
use Rattle.laboratory.specs.Moves.{MovedToNew, MovedToOld}
use Rattle.laboratory.specs.declared.moves.MovedBack.{MovedBack}

-- the move back of what a move to the new form wrote of s and i, from output c to c' and with scratch d
pub record ThereAndBack (s : List ℕ) (i : Identity) (c c' d : List ℕ) (back : MovedBack) : Type 0 where
  pub accepted : length s ≤ length c → 342 ≤ length d → back.number ≡ 0
  pub same_bytes : back.number ≡ 0 → take back.length c' ≡ s
  pub same_identity : back.number ≡ 0 → back.identity ≡ i

-- the move to the new form of what a move back wrote of s, with the identity that it gave
pub record BackAndThere (s c c' d : List ℕ) (there : Written) : Type 0 where
  pub accepted : length s ≤ length c → 342 ≤ length d → there.number ≡ 0
  pub same_bytes : there.number ≡ 0 → take there.length c' ≡ s

pub record RoundTrip : Type 0 where
  pub there_and_back : (s : List ℕ) (i : Identity) (a a' b b' c c' d d' : List ℕ) (there : Written) (back : MovedBack)
      → MovedToNew s i a a' b b' there → there.number ≡ 0 → MovedToOld (take there.length a') c c' d d' back → ThereAndBack s i c c' d back
  pub back_and_there : (s : List ℕ) → Bytes s → (a a' b b' c c' d d' : List ℕ) (back : MovedBack) (there : Written)
      → MovedToOld s a a' b b' back → back.number ≡ 0 → MovedToNew (take back.length a') back.identity c c' d d' there → BackAndThere s c c' d there
  -- a sheet behind an identity in range is accepted exactly when it is an accepted old sheet, and refused with its number
  pub moved_accepted : (s : List ℕ) (i : Identity) → InRange i → sheet_number (identity_bytes i ++ s) ≡ old_number s
