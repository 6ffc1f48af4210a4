-- `binary32::wire::put_float` meets its contract: a store for each byte. Assumes nothing.
use mathlib.Core.Path.{refl, ap}
use Prim.Native.Nat.{◌+◌, ◌/◌, ◌%◌}
use native.Mathlib.Omega.{arith}
use lib.ListN.{length-set}
use Rattle.integers.proofs.Puts.{nothing, stored, reads, upto}
use Rattle.binary32.specs.Wire.{wire_bytes}
use Rattle.binary32.proofs.wire.put_float.Goals as goal

pub bounds-out-at-2 : goal.bounds-out-at-2
bounds-out-at-2 c = simp length-set (omega arith)

pub bounds-out-at-3 : goal.bounds-out-at-3
bounds-out-at-3 c = simp length-set (omega arith)

pub bounds-out-at-4 : goal.bounds-out-at-4
bounds-out-at-4 c = simp length-set (omega arith)

pub returns : goal.returns
unfolding wire_bytes
returns c =
    let a = c.args in
    let at = a.at in
    let n = c.bits_of_float-bits.result in
    let four =
    stored (at + 3) (n / 65536 % 256) (omega arith) (omega arith)
    (stored (at + 2) (n / 16777216) (omega arith) (omega arith)
    (stored (at + 1) (n % 256) refl (omega arith)
    (stored at (n / 256 % 256) refl (omega arith) (nothing a.out.now refl (omega arith))))) in
    reads (ap wire_bytes c.bits_of_float-bits.ensures) (upto (omega arith) four)
