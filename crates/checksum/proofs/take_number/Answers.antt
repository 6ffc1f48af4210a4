-- `take_number` meets its contract. Assumes nothing.
use mathlib.Core.Path.{ap, ◌∙◌}
use Prim.Native.Nat.{ℕ, ◌-◌, ◌*◌, ◌%◌, ◌^◌}
use native.Mathlib.Omega.{arith}
use lib.Bits.{bit_xor}
use lib.ListN.{length}
use lib.Seq.{take-length}
use Rattle.checksum.specs.Checksum.{shifts, checksum_from}
use Rattle.checksum.proofs.Bytes.{number-at-once}
use Rattle.checksum.proofs.take_number.Goals as goal

pub returns : goal.returns
returns c =
    let a = c.args in
    let s = a.bytes.now in
    c.sixty_four_shifts.ensures
    ∙ ap (λ (n : ℕ). shifts 64 (bit_xor a.sum n * 2 ^ (64 - 8 * length s) % 2 ^ 64)) c.four_to_eight_at.ensures
    ∙ number-at-once s 0 (λ j. omega (arith, c.type_inv.bytes j)) (length s) (omega arith) (omega arith) (omega arith) a.sum (omega arith)
    ∙ ap (checksum_from a.sum) (take-length s)
