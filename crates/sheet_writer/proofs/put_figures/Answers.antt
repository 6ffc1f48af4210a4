-- One figure behind the other. Assumes nothing.
use Rattle.std.proofs.Common.{◌≡◌, get_or, pos, arith, rules, w64, to_z, of_z}
use Rattle.integers.proofs.Puts.{◌then◌, reads}
use Rattle.sheet.specs.Bytes.{figure_bytes}
use Rattle.sheet_writer.proofs.Pieces.{figures-next}
use Rattle.sheet_writer.proofs.put_figures.Goals as goal

pub loop-figure-preserved : goal.loop-figure-preserved
loop-figure-preserved c =
    let figure = get_or c.args.figures.now c.loop-figure.figure-index (pos 0) in
    let v : to_z w64 (of_z w64 figure) ≡ figure = search rules in
    record {
      put = reads (figures-next figure_bytes c.args.figures.now c.loop-figure.figure-index (pos 0) (omega arith)) (c.loop-figure.invariant.put then (rw v at c.put_figure.ensures));
      next = omega arith;
    }
