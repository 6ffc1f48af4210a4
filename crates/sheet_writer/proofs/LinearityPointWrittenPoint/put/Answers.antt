-- The figures of the point. Assumes nothing.
use Rattle.std.proofs.Common.{◌≡◌, append_assoc, append-nil, rules, w64, to_z, of_z}
use Rattle.integers.proofs.Puts.{reads}
use Rattle.sheet.specs.Write.{linearity_point_bytes}
use Rattle.sheet_writer.proofs.LinearityPointWrittenPoint.put.Goals as goal

pub returns : goal.returns
unfolding linearity_point_bytes
returns c =
    let clx : to_z w64 (of_z w64 c.args.self.clx) ≡ c.args.self.clx = search rules in
    let clk : to_z w64 (of_z w64 c.args.self.clk) ≡ c.args.self.clk = search rules in
    reads (simp (clx, clk, append_assoc, append-nil)) c.put_figures.ensures
