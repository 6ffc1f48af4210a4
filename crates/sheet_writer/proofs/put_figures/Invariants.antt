-- Invariant: the figures before are written. Assumes nothing.
use Rattle.std.proofs.Common.{◌≡◌, ◌+◌, ◌*◌, take}
use Rattle.std.specs.List.{flat_map}
use Rattle.integers.specs.Bytes.{Put}
use Rattle.sheet.specs.Bytes.{figure_bytes}
use Rattle.sheet_writer.proofs.put_figures.Given as goal

abbrev pub invariant-loop-figure : goal.invariant-loop-figure
invariant-loop-figure l = record {
  put : Put (flat_map figure_bytes (take l.figure-index l.figures)) l.fn.out l.at l.out l.next;
  next : l.next ≡ l.at + 8 * l.figure-index;
}
