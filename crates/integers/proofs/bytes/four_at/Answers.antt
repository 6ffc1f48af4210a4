-- `four_at` meets its contract: four bytes are below 256 each. Assumes nothing.
use Prim.Native.Nat.{◌+◌}
use native.Mathlib.Omega.{arith}
use Rattle.integers.proofs.Words.{number-at}
use Rattle.integers.proofs.bytes.four_at.Goals as goal

pub overflow_cast-low : goal.overflow_cast-low
overflow_cast-low c = omega (arith, c.type_inv.bytes c.args.at)

pub overflow_cast-low-2 : goal.overflow_cast-low-2
overflow_cast-low-2 c = omega (arith, c.type_inv.bytes (c.args.at + 1))

pub overflow_mul-low : goal.overflow_mul-low
overflow_mul-low c = omega (arith, c.type_inv.bytes (c.args.at + 1))

pub overflow_add-low-2 : goal.overflow_add-low-2
overflow_add-low-2 c =
    let at = c.args.at in
    let byte = c.type_inv.bytes in
    omega (arith, byte at, byte (at + 1))

pub overflow_cast-result : goal.overflow_cast-result
overflow_cast-result c = omega (arith, c.type_inv.bytes (c.args.at + 2))

pub overflow_mul-result : goal.overflow_mul-result
overflow_mul-result c = omega (arith, c.type_inv.bytes (c.args.at + 2))

pub overflow_add-result-2 : goal.overflow_add-result-2
overflow_add-result-2 c =
    let at = c.args.at in
    let byte = c.type_inv.bytes in
    omega (arith, byte at, byte (at + 1), byte (at + 2))

pub overflow_cast-result-2 : goal.overflow_cast-result-2
overflow_cast-result-2 c = omega (arith, c.type_inv.bytes (c.args.at + 3))

pub overflow_mul-result-2 : goal.overflow_mul-result-2
overflow_mul-result-2 c = omega (arith, c.type_inv.bytes (c.args.at + 3))

pub overflow_add-result-4 : goal.overflow_add-result-4
overflow_add-result-4 c =
    let at = c.args.at in
    let byte = c.type_inv.bytes in
    omega (arith, byte at, byte (at + 1), byte (at + 2), byte (at + 3))

pub returns : goal.returns
returns c = let a = c.args in omega (arith, number-at a.bytes.now a.at 4)
