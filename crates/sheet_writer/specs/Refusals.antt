-- Writing a sheet once more, as properties (01, "Turned-down calls"): w is what is answered, and `after` what the buffer holds then.
-- `written_of` and `out_after` of `Write.antt` have them for all figures and buffers (proofs/Refusals.antt).
use Rattle.std.specs.Prelude.{◌≡◌, List, ℕ, ◌≤◌, ◌<◌, length, take, drop}
use Rattle.figures.specs.Acceptable.{Acceptable}
use Rattle.figures.specs.Representable.{Representable, Fitting}
use Rattle.figures.specs.declared.Calibration.{Calibration}
use Rattle.sheet.specs.Forms.{sheet_number}
use Rattle.sheet.specs.Write.{sheet_bytes}
use Rattle.sheet_writer.specs.Write.{written_of, out_after}
use Rattle.sheet_writer.specs.declared.Written.{Written}

pub record Writing (c : Calibration) (out : List ℕ) (w : Written) (after : List ℕ) : Type 0 where
  -- "may refuse with 3 to 6, judged in sheet order, with 2 for a wrong point count": however long the buffer is, and with the number
  -- that a sheet of these figures is refused with
  pub unfit_least : (Acceptable c → ⊥) → 2 ≤ w.number
  pub unfit_most : (Acceptable c → ⊥) → w.number ≤ 6
  pub unfit_order : (Acceptable c → ⊥) → w.number ≡ sheet_number (sheet_bytes c)
  -- "and after those 12": "sheet output too short"
  pub short : Acceptable c → length out < length (sheet_bytes c) → w.number ≡ 12
  -- "An accepted call gives 0; one that writes a sheet also gives the bytes written"
  pub accepted : Acceptable c → length (sheet_bytes c) ≤ length out → w.number ≡ 0
  pub bytes_written : w.number ≡ 0 → w.length ≡ length (sheet_bytes c)
  pub sheet_there : w.number ≡ 0 → take (length (sheet_bytes c)) after ≡ sheet_bytes c
  -- "Bytes past a .. written sheet are untouched."
  pub past_kept : w.number ≡ 0 → drop (length (sheet_bytes c)) after ≡ drop (length (sheet_bytes c)) out
  -- "Beside a refusal each value .. is 0"; "No refusal changes a .. buffer"
  pub no_length : (w.number ≡ 0 → ⊥) → w.length ≡ 0
  pub all_kept : (w.number ≡ 0 → ⊥) → after ≡ out

abbrev pub AlwaysWriting : Type 0
AlwaysWriting = (c : Calibration) (out : List ℕ) → Representable c → Fitting c → Writing c out (written_of c out) (out_after c out)
