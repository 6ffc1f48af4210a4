-- `four_to_eight_at` meets its contract: a shift leaves what the last four have more. Assumes nothing.
use mathlib.Core.Path.{ap₂, ◌∙◌}
use Prim.Native.Nat.{ℕ, ◌+◌, ◌-◌, ◌*◌, ◌/◌, ◌^◌}
use native.Mathlib.Omega.{arith}
use lib.Pow.{shr_le}
use Rattle.integers.proofs.Words.{first-and-last}
use Rattle.integers.proofs.bytes.four_to_eight_at.Goals as goal

pub overflow_mul-result-2 : goal.overflow_mul-result-2
overflow_mul-result-2 c = omega (arith, shr_le c.four_at-last.result (64 - 8 * c.args.count))

pub overflow_add-result : goal.overflow_add-result
overflow_add-result c = omega (arith, shr_le c.four_at-last.result (64 - 8 * c.args.count))

pub returns : goal.returns
returns c =
    let a = c.args in
    let k = 64 - 8 * a.count in
    ap₂ (λ (first last : ℕ). first + last / 2 ^ k * 2 ^ 32) c.four_at-first.ensures c.four_at-last.ensures
    ∙ first-and-last a.bytes.now a.at a.count (λ j. omega (arith, c.type_inv.bytes j)) (omega arith) (omega arith) (omega arith)
