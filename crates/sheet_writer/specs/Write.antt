-- Writing a sheet: the number, and what a lent buffer holds afterwards.
use Rattle.std.specs.Prelude.{Result, Ok, Err, cond, List, ◌++◌, ℕ, ltb, eqb, length, drop}
use Rattle.refusal.specs.declared.Refusal.{Refusal}
use Rattle.refusal.specs.Refusal.{number}
use Rattle.figures.specs.declared.Calibration.{Calibration}
use Rattle.sheet.specs.Places.{sheet_length}
use Rattle.sheet.specs.Judge.{◌then◌, figures_number}
use Rattle.sheet.specs.Write.{sheet_bytes}
use Rattle.sheet_writer.specs.declared.Written.{Written}

-- ---- "Writing a sheet takes figures and may refuse with 3 to 6, judged in sheet order, with 2 for a wrong point count, and
-- after those 12."

unfoldable pub write_number : Calibration → List ℕ → ℕ
write_number c out = figures_number c then cond (ltb (length out) (sheet_length c)) 12 0

-- the number, and the bytes written
unfoldable pub written_of : Calibration → List ℕ → Written
written_of c out = record { number = write_number c out; length = cond (eqb (write_number c out) 0) (sheet_length c) 0 }

-- the buffer: the sheet, and past it what was there; "No refusal changes a .. buffer"
unfoldable pub out_after : Calibration → List ℕ → List ℕ
out_after c out = cond (eqb (write_number c out) 0) (sheet_bytes c ++ drop (sheet_length c) out) out

-- what C is told of it
abbrev pub written : Result ℕ Refusal → Written
written (Ok n) = record { number = 0; length = n }
written (Err refusal) = record { number = number refusal; length = 0 }
