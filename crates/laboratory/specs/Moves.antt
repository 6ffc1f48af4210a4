-- The moves between the two forms of a sheet (02, Change 6): "One call moves an old sheet to the new form with a given identity, another
-- moves back and gives the old bytes again and the identity beside them."
use Rattle.std.specs.Prelude.{Result, Ok, Err, cond, ◌≡◌, List, ◌++◌, ℕ, ltb, eqb, length, drop}
use Rattle.refusal.specs.declared.Refusal.{Refusal}
use Rattle.refusal.specs.Refusal.{number}
use Rattle.sheet.specs.Places.{identity_size}
use Rattle.sheet.specs.Judge.{◌then◌}
use Rattle.sheet.specs.Read.{old_number}
use Rattle.sheet.specs.Forms.{identity_at, identity_bytes, given_number, new_number, no_identity}
use Rattle.sheet.specs.declared.Identity.{Identity}
use Rattle.sheet_writer.specs.declared.Written.{Written}
use Rattle.laboratory.specs.declared.moves.MovedBack.{MovedBack}

-- ---- the bytes written

abbrev pub to_new : Identity → List ℕ → List ℕ
to_new i s = identity_bytes i ++ s

abbrev pub to_old : List ℕ → List ℕ
to_old s = drop identity_size s

-- ---- the number

-- "Each uses a lent scratch buffer of at least 342 bytes."
abbrev pub scratch_least : ℕ
scratch_least = 342

-- "Number 19, buffers, after all these, when the output or scratch is too short": so many bytes to write, and the lengths of the two
unfoldable pub buffers_number : ℕ → ℕ → ℕ → ℕ
buffers_number written out scratch = cond (ltb out written) 19 (cond (ltb scratch scratch_least) 19 0)

-- "Each judges its sheet first, a sheet of the other form being 2 at its first count; then a given identity, out of range being 3."
unfoldable pub to_new_number : List ℕ → Identity → ℕ → ℕ → ℕ
to_new_number s i out scratch = old_number s then given_number i then buffers_number (length (to_new i s)) out scratch

unfoldable pub to_old_number : List ℕ → ℕ → ℕ → ℕ
to_old_number s out scratch = new_number s then buffers_number (length (to_old s)) out scratch

-- ---- the buffers afterwards

-- bytes at the front of a buffer, and past them what was there
abbrev pub put_at_front : List ℕ → List ℕ → List ℕ
put_at_front bytes before = bytes ++ drop (length bytes) before

-- a refused move leaves a buffer as it was
unfoldable pub after : ℕ → List ℕ → List ℕ → List ℕ
after number bytes before = cond (eqb number 0) (put_at_front bytes before) before

-- "After an accepted move its first bytes hold a copy of the bytes written, and the rest is untouched."
abbrev pub copy_of : List ℕ → List ℕ
copy_of written = written

-- ---- each move whole: the answer, and every byte of both buffers. "Beside a refusal each value .. is 0".

unfoldable pub moved_of : ℕ → List ℕ → Written
moved_of number written = record { number = number; length = cond (eqb number 0) (length written) 0 }

unfoldable pub moved_back_of : ℕ → List ℕ → MovedBack
moved_back_of number s = record { number = number; length = cond (eqb number 0) (length (to_old s)) 0; identity = cond (eqb number 0) (identity_at s) no_identity }

-- what C is told of a move back
abbrev pub told_back : Result (ℕ × Identity) Refusal → MovedBack
told_back (Ok (n, i)) = record { number = 0; length = n; identity = i }
told_back (Err refusal) = record { number = number refusal; length = 0; identity = no_identity }

pub record Buffers (number : ℕ) (written out out' scratch scratch' : List ℕ) : Type 0 where
  pub out_is : out' ≡ after number written out
  pub scratch_is : scratch' ≡ after number (copy_of written) scratch

pub record MovedToNew (s : List ℕ) (i : Identity) (out out' scratch scratch' : List ℕ) (r : Written) : Type 0 where
  pub answer_is : r ≡ moved_of (to_new_number s i (length out) (length scratch)) (to_new i s)
  pub buffers : Buffers (to_new_number s i (length out) (length scratch)) (to_new i s) out out' scratch scratch'

pub record MovedToOld (s out out' scratch scratch' : List ℕ) (r : MovedBack) : Type 0 where
  pub answer_is : r ≡ moved_back_of (to_old_number s (length out) (length scratch)) s
  pub buffers : Buffers (to_old_number s (length out) (length scratch)) (to_old s) out out' scratch scratch'
