-- The two forms of a sheet (02, Change 6): "The new sheet has one more section in front, count 2: serial 0 to 4,294,967,295 and day 0 to
-- 65,535 (days after 1 January 2000), both 8-byte figures. A first count of 4 marks the old sheet. Both are read and give the same
-- device; any other first count is 2, and a figure outside these ranges is 3." Behind the section stands a whole old sheet, its count 4
-- included, which `Read.antt` judges and reads.
use Rattle.std.specs.Prelude.{ℕ, Bool, Option, Some, None, Result, Ok, Err, cond, ◌&&◌, List, ◌∷◌, ◌++◌, length, drop, pos, ◌==◌, nat_eq}
use Rattle.refusal.specs.declared.Refusal.{Refusal}
use Rattle.refusal.specs.Refusal.{number}
use Rattle.figures.specs.declared.Calibration.{Calibration}
use Rattle.sheet.specs.Bytes.{count_at, figure_at, figure_bytes}
use Rattle.sheet.specs.Places.{identity_size}
use Rattle.sheet.specs.Judge.{◌then◌, never, short_of, count_number, range_number}
use Rattle.sheet.specs.Read.{figures_of, old_number, no_figures}
use Rattle.sheet.specs.declared.Identity.{Identity}
use Rattle.sheet.specs.Sheet.{Sheet}
use Rattle.sheet.specs.declared.Contents.{Contents}

-- ---- the identity

abbrev pub serial_most : ℕ
serial_most = 4294967295

abbrev pub day_most : ℕ
day_most = 65535

unfoldable pub identity_at : List ℕ → Identity
identity_at s = record { serial = figure_at s 1; day = figure_at s 9 }

unfoldable pub identity_bytes : Identity → List ℕ
identity_bytes i = 2 ∷ figure_bytes i.serial ++ figure_bytes i.day

-- its figures, after a count
unfoldable pub identity_number : (ℕ → ℕ) → ℕ → Identity → ℕ
identity_number short count i =
    count_number short 0 2 2 count
    then range_number short 1 (pos 0) (pos serial_most) i.serial
    then range_number short 9 (pos 0) (pos day_most) i.day

-- an identity by itself, which is all there: "a given identity, out of range being 3"
abbrev pub given_number : Identity → ℕ
given_number i = identity_number never 2 i

-- ---- the forms, known by their first count

-- the section in front
unfoldable pub own_identity_number : List ℕ → ℕ
own_identity_number s = identity_number (short_of (length s)) (count_at s 0) (identity_at s)

unfoldable pub new_number : List ℕ → ℕ
new_number s = own_identity_number s then old_number (drop identity_size s)

abbrev pub is_new : List ℕ → Bool
is_new s = count_at s 0 == 2

-- without a first count, or with another, as the old form is
unfoldable pub sheet_number : List ℕ → ℕ
sheet_number s = cond (is_new s) (new_number s) (old_number s)

-- the old sheet in it
unfoldable pub old_of : List ℕ → List ℕ
old_of s = cond (is_new s) (drop identity_size s) s

-- number 0 and the figures; or the number of the first fault and zeros
unfoldable pub read_sheet : List ℕ → Sheet
read_sheet s = record { number = sheet_number s; figures = cond (sheet_number s == 0) (figures_of (old_of s)) no_figures }

-- ---- and the identity beside them

abbrev pub no_identity : Identity
no_identity = record { serial = pos 0; day = pos 0 }

-- the form is its first count. An old sheet has no identity; "Beside a refusal each value .. is 0"
unfoldable pub contents_of : List ℕ → Contents
contents_of s =
    let accepted = nat_eq (sheet_number s) 0 in
    record {
      number = sheet_number s;
      form = cond accepted (count_at s 0) 0;
      identity = cond (accepted && is_new s) (identity_at s) no_identity;
      figures = (read_sheet s).figures;
    }

-- what C is told of what was read: an identity, if there is one, and figures
abbrev pub told : Result (Option Identity × Calibration) Refusal → Contents
told (Ok (None, c)) = record { number = 0; form = 4; identity = no_identity; figures = c }
told (Ok (Some i, c)) = record { number = 0; form = 2; identity = i; figures = c }
told (Err refusal) = record { number = number refusal; form = 0; identity = no_identity; figures = no_figures }
