-- What a register shows in steps is within the floats that are sent. Assumes nothing.
use Prim.Native.Nat.{ℕ}
use native.Mathlib.Omega.{arith}
use lib.Dec.{eqb}
use lib.IntN.{ℤ}
use Rattle.integers.specs.Within.{◌within◌}
use Rattle.integers.proofs.Order.{pick}
use Rattle.register.specs.Number.{SOUT, SYS, TEMP, SRAW, CELL, CRAW, ELEC, PEAK, TROF}
use Rattle.state.specs.Within.{value_most, ReadingsWithin}
use Rattle.state.specs.declared.Readings.{Readings}
use Rattle.answers.specs.Register.{steps_at}

abbrev Small : ℤ → Type 0
Small z = z within value_most

pub steps_within : (r : Readings) (n : ℕ) → ReadingsWithin r → (steps_at r n) within value_most
unfolding steps_at
steps_within r n h =
    pick (eqb n SOUT) _ _ Small (λ e. h.sys_in)
    (λ e. pick (eqb n SYS) _ _ Small (λ e. h.sys_in)
    (λ e. pick (eqb n TEMP) _ _ Small (λ e. h.temp_in)
    (λ e. pick (eqb n SRAW) _ _ Small (λ e. h.sraw_in)
    (λ e. pick (eqb n CELL) _ _ Small (λ e. h.cell_in)
    (λ e. pick (eqb n CRAW) _ _ Small (λ e. h.craw_in)
    (λ e. pick (eqb n ELEC) _ _ Small (λ e. h.elec_in)
    (λ e. pick (eqb n PEAK) _ _ Small (λ e. h.peak_in)
    (λ e. pick (eqb n TROF) _ _ Small (λ e. h.trof_in)
    (λ e. omega arith)))))))))
