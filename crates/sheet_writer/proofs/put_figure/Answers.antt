-- The eight bytes of a figure. Assumes nothing.
use Rattle.std.proofs.Common.{◌≡◌, ◌+◌, ◌-◌, length, ◌∙◌, arith, rules, w64, to_z, of_z}
use Rattle.sheet.proofs.EightBytes.{figure-length}
use Rattle.sheet.proofs.LowFirst.{figure_written}
use Rattle.sheet.specs.Bytes.{figure_bytes}
use Rattle.sheet_writer.proofs.Pieces.{part}
use Rattle.sheet_writer.proofs.put_figure.Goals as goal

pub returns : goal.returns
returns c =
    let a = c.args in
    let v : to_z w64 (of_z w64 a.v) ≡ a.v = search rules in
    let written : c.copy_from_slice.new.self ≡ figure_bytes a.v = c.copy_from_slice.ensures.after ∙ (rw v at c.to_le_bytes.ensures) ∙ figure_written a.v c.ranges.v in
    let eight = figure-length a.v in
    rw (written, ← eight) (part (figure_bytes a.v) a.out.now a.at (a.at + length (figure_bytes a.v) - a.at) (omega arith) (omega arith))
