-- The figures of the point. Assumes nothing.
use Rattle.std.proofs.Common.{◌≡◌, append_assoc, append-nil, rules, w64, to_z, of_z}
use Rattle.integers.proofs.Puts.{reads}
use Rattle.sheet.specs.Write.{temperature_point_bytes}
use Rattle.sheet_writer.proofs.TemperaturePointWrittenPoint.put.Goals as goal

pub returns : goal.returns
unfolding temperature_point_bytes
returns c =
    let ct : to_z w64 (of_z w64 c.args.self.ct) ≡ c.args.self.ct = search rules in
    let cto : to_z w64 (of_z w64 c.args.self.cto) ≡ c.args.self.cto = search rules in
    let ctg : to_z w64 (of_z w64 c.args.self.ctg) ≡ c.args.self.ctg = search rules in
    reads (simp (ct, cto, ctg, append_assoc, append-nil)) c.put_figures.ensures
