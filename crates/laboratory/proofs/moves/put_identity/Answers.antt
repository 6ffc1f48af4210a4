-- A section of two figures. Assumes nothing.
use Rattle.std.proofs.Common.{◌≡◌, append_assoc, append-nil, rules, w64, to_z, of_z}
use Rattle.integers.proofs.Puts.{reads}
use Rattle.sheet.specs.Forms.{identity_bytes}
use Rattle.laboratory.proofs.moves.put_identity.Goals as goal

pub returns : goal.returns
unfolding identity_bytes
returns c =
    let serial : to_z w64 (of_z w64 c.args.identity.serial) ≡ c.args.identity.serial = search rules in
    let day : to_z w64 (of_z w64 c.args.identity.day) ≡ c.args.identity.day = search rules in
    reads (simp (serial, day, append_assoc, append-nil)) c.put_section.ensures
