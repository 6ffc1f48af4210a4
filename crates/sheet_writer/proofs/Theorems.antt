-- What a plant may rely on that writes a sheet into a lent buffer, over all figures and buffers. Assumes nothing.
use mathlib.Core.Path.{◌≡◌, ◌∙◌, ap}
use mathlib.Core.List.{List, ◌++◌}
use Prim.Native.Nat.{ℕ, ◌≤◌}
use lib.ListN.{length, take, drop}
use lib.Seq.{take_at}
use borrow.Author.Tests.{le-ltb}
use Rattle.figures.specs.Acceptable.{Acceptable}
use Rattle.figures.specs.Representable.{Representable}
use Rattle.figures.specs.Unused.{unused_zero}
use Rattle.figures.specs.declared.Calibration.{Calibration}
use Rattle.sheet.specs.Places.{sheet_length}
use Rattle.sheet.specs.Forms.{read_sheet}
use Rattle.sheet.specs.Write.{sheet_bytes}
use Rattle.sheet.proofs.Accepted.{acceptable-figures, acceptable-fits}
use Rattle.sheet.proofs.Theorems.{written-length, written_read}
use Rattle.sheet_writer.specs.Write.{write_number, out_after}

-- figures written into a buffer and read come back, unused points 0
pub buffer-read : (c : Calibration) (out : List ℕ) → Representable c → Acceptable c → sheet_length c ≤ length out → read_sheet (take (sheet_length c) (out_after c out)) ≡ record { number = 0; figures = unused_zero c }
unfolding out_after write_number
buffer-read c out r h l =
    let long = written-length c r (acceptable-fits c r h) in
    let b : out_after c out ≡ sheet_bytes c ++ drop (sheet_length c) out = simp (acceptable-figures c r h, le-ltb _ _ l) in
    ap (λ (x : List ℕ). read_sheet (take (sheet_length c) x)) b ∙ ap read_sheet (take_at (sheet_bytes c) (drop (sheet_length c) out) (sheet_length c) long) ∙ written_read c r h
