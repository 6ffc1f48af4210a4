-- `modbus::frame::checksum_right` meets its contract: with its own checksum taken in, a right frame leaves 0. Assumes nothing.
use mathlib.Core.Path.{ap, ◌∙◌}
use Prim.Native.Nat.{ℕ}
use native.Mathlib.Omega.{arith}
use lib.Dec.{eqb}
use lib.Seq.{take-length}
use Rattle.checksum.specs.Checksum.{checksum_of}
use Rattle.modbus.proofs.Checked.{all-taken}
use Rattle.modbus.proofs.frame.checksum_right.Goals as goal

pub returns : goal.returns
returns c =
    let s = c.args.frame.now in
    ap (λ (k : ℕ). eqb k 0) (c.checksum.ensures ∙ ap checksum_of (take-length s)) ∙ all-taken s (λ j. omega (arith, c.type_inv.frame j)) (omega arith)
