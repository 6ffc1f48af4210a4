-- The moves once more, as properties (02, Change 6): a call that lends an output and a scratch is answered, and `out'` and `scratch'` are
-- what these hold then. Whatever keeps the contracts of `Moves.antt` has them (proofs/Moving.antt).
use Rattle.std.specs.Prelude.{◌≡◌, ◌⊎◌, List, [], ◌∷◌, ℕ, ◌+◌, ◌<◌, ◌≤◌, pos, length, take, drop}
use Rattle.sheet.specs.Read.{old_number}
use Rattle.sheet.specs.Forms.{new_number, sheet_number, read_sheet, contents_of}
use Rattle.sheet.specs.BothForms.{InRange}
use Rattle.sheet.specs.declared.Identity.{Identity}
use Rattle.sheet_writer.specs.declared.Written.{Written}
use Rattle.laboratory.specs.Moves.{MovedToNew, MovedToOld}
use Rattle.laboratory.specs.declared.moves.MovedBack.{MovedBack}

-- what each says of the lent buffers, by the answered number and length
pub record Lent (number written : ℕ) (out out' scratch scratch' : List ℕ) : Type 0 where
  -- "Bytes past a .. written sheet are untouched."
  pub past_kept : drop written out' ≡ drop written out
  -- "After an accepted move its first bytes hold a copy of the bytes written, and the rest is untouched."
  pub copied : take written scratch' ≡ take written out'
  pub rest_kept : drop written scratch' ≡ drop written scratch
  -- "Beside a refusal each value .. is 0"; "No refusal changes a .. buffer"
  pub none_written : (number ≡ 0 → ⊥) → written ≡ 0
  pub out_kept : (number ≡ 0 → ⊥) → out' ≡ out
  pub scratch_kept : (number ≡ 0 → ⊥) → scratch' ≡ scratch

-- "One call moves an old sheet to the new form with a given identity"
module _ (s : List ℕ) (i : Identity) (out out' scratch scratch' : List ℕ) (r : Written) where
  pub record ToNew : Type 0 where
    -- "Each judges its sheet first, a sheet of the other form being 2 at its first count"
    pub no_sheet : s ≡ [] → r.number ≡ 1
    pub other_form : (count : ℕ) (rest : List ℕ) → (count ≡ 4 → ⊥) → s ≡ count ∷ rest → r.number ≡ 2
    pub judged_as : (sheet_number s ≡ 0 → ⊥) → (rest : List ℕ) → s ≡ 4 ∷ rest → r.number ≡ sheet_number s
    pub judged : (old_number s ≡ 0 → ⊥) → r.number ≡ old_number s
    -- "then a given identity, out of range being 3"
    pub given : old_number s ≡ 0 → (InRange i → ⊥) → r.number ≡ 3
    -- "Number 19, buffers, after all these, when the output or scratch is too short"
    pub short : old_number s ≡ 0 → InRange i → (length out < 17 + length s) ⊎ (length scratch < 342) → r.number ≡ 19
    pub accepted : old_number s ≡ 0 → InRange i → 17 + length s ≤ length out → 342 ≤ length scratch → r.number ≡ 0
    pub lent : Lent r.number r.length out out' scratch scratch'
    -- the old sheet behind 17 bytes, read with its figures and the given identity
    pub longer : r.number ≡ 0 → r.length ≡ 17 + length s
    pub behind : r.number ≡ 0 → drop 17 (take r.length out') ≡ s
    pub told : r.number ≡ 0 → contents_of (take r.length out') ≡ record { number = 0; form = 2; identity = i; figures = (read_sheet s).figures }

-- "another moves back and gives the old bytes again and the identity beside them"
module _ (s out out' scratch scratch' : List ℕ) (r : MovedBack) where
  pub record ToOld : Type 0 where
    pub no_sheet : s ≡ [] → r.number ≡ 1
    pub other_form : (count : ℕ) (rest : List ℕ) → (count ≡ 2 → ⊥) → s ≡ count ∷ rest → r.number ≡ 2
    pub judged_as : (sheet_number s ≡ 0 → ⊥) → (rest : List ℕ) → s ≡ 2 ∷ rest → r.number ≡ sheet_number s
    pub judged : (new_number s ≡ 0 → ⊥) → r.number ≡ new_number s
    pub short : new_number s ≡ 0 → (17 + length out < length s) ⊎ (length scratch < 342) → r.number ≡ 19
    pub accepted : new_number s ≡ 0 → length s ≤ 17 + length out → 342 ≤ length scratch → r.number ≡ 0
    pub lent : Lent r.number r.length out out' scratch scratch'
    pub shorter : r.number ≡ 0 → 17 + r.length ≡ length s
    pub old_bytes : r.number ≡ 0 → take r.length out' ≡ drop 17 s
    pub identity_is : r.number ≡ 0 → r.identity ≡ (contents_of s).identity
    pub told : r.number ≡ 0 → contents_of (take r.length out') ≡ record { number = 0; form = 4; identity = record { serial = pos 0; day = pos 0 }; figures = (read_sheet s).figures }
    pub identity_of_none : (r.number ≡ 0 → ⊥) → r.identity ≡ record { serial = pos 0; day = pos 0 }

pub record Moving : Type 0 where
  pub moves_to_new : (s : List ℕ) (i : Identity) (out out' scratch scratch' : List ℕ) (r : Written) → MovedToNew s i out out' scratch scratch' r → ToNew s i out out' scratch scratch' r
  pub moves_to_old : (s out out' scratch scratch' : List ℕ) (r : MovedBack) → MovedToOld s out out' scratch scratch' r → ToOld s out out' scratch scratch' r
