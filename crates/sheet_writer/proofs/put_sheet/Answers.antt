-- One section behind the other. Assumes nothing.
use Rattle.std.proofs.Common.{◌≡◌, append_assoc, append-nil, arith, rules, w64, to_z, of_z}
use Rattle.integers.proofs.Puts.{◌then◌, joined, reads, upto}
use Rattle.sheet.specs.Write.{cell_bytes, system_bytes, filter_bytes, sheet_bytes}
use Rattle.sheet_writer.proofs.put_sheet.Goals as goal

pub returns : goal.returns
unfolding sheet_bytes cell_bytes system_bytes filter_bytes
returns c =
    let c1 = c.args.figures.cell in
    let s1 = c.args.figures.system in
    let f1 = c.args.figures.filter in
    let cofs : to_z w64 (of_z w64 c1.cofs) ≡ c1.cofs = search rules in
    let cgai : to_z w64 (of_z w64 c1.cgai) ≡ c1.cgai = search rules in
    let cmin : to_z w64 (of_z w64 c1.cmin) ≡ c1.cmin = search rules in
    let cmax : to_z w64 (of_z w64 c1.cmax) ≡ c1.cmax = search rules in
    let sofs : to_z w64 (of_z w64 s1.sofs) ≡ s1.sofs = search rules in
    let sgai : to_z w64 (of_z w64 s1.sgai) ≡ s1.sgai = search rules in
    let smin : to_z w64 (of_z w64 s1.smin) ≡ s1.smin = search rules in
    let smax : to_z w64 (of_z w64 s1.smax) ≡ s1.smax = search rules in
    let sz : to_z w64 (of_z w64 s1.sz) ≡ s1.sz = search rules in
    let fflv : to_z w64 (of_z w64 f1.fflv) ≡ f1.fflv = search rules in
    let ffst : to_z w64 (of_z w64 f1.ffst) ≡ f1.ffst = search rules in
    let cell = reads {u = cell_bytes c1} (simp (cofs, cgai, cmin, cmax, append_assoc, append-nil)) c.put_section.ensures in
    let system = reads {u = system_bytes s1} (simp (sofs, sgai, smin, smax, sz, append_assoc, append-nil)) c.put_section-2.ensures in
    let filter = reads {u = filter_bytes f1} (simp (fflv, ffst, append_assoc, append-nil)) c.put_section-3.ensures in
    let l = c.linearity_start.ensures.0 in
    let y = c.system_start-system_at.ensures.0 in
    upto (omega (arith, y)) (joined (joined (joined (cell then c.put_temperature.ensures) (omega (arith, l)) c.put_linearity.ensures) (omega (arith, l, y)) system) (omega (arith, y)) filter)
