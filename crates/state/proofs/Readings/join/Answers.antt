-- `Readings::join` meets its contract: each field is its argument, or what a call gives. Assumes nothing.
use mathlib.Core.Path.{◌≡◌}
use mathlib.Core.Bool.{true}
use lib.IntN.{ℤ}
use mir.Facts.{to_z-of_z}
use Rattle.integers.proofs.Machine.{held}
use Rattle.compensation.specs.declared.steps.Values.{Values}
use Rattle.state.specs.declared.Readings.{Readings}
use Rattle.state.specs.Reading.{peak_after, trof_after, readings_after}
use Rattle.state.proofs.Readings.join.Goals as goal

built : (r : Readings) (elec temp : ℤ) (v : Values) {e t p q : ℤ} → e ≡ elec → t ≡ temp → p ≡ peak_after r v → q ≡ trof_after r v
    → record { any = true; input = r.input; elec = e; temp = t; values = v; peak = p; trof = q } ≡ readings_after r (record { input = r.input; held = elec }) temp v
unfolding readings_after
built r elec temp v e t p q = rw (e, t, p, q)

pub returns : goal.returns
unfolding trof_after
returns c =
    let s = c in
    built s.args.self.now s.args.elec s.args.temp s.args.values (to_z-of_z s.ranges.elec) (to_z-of_z s.ranges.temp)
    (held c.peak_after-self.type_inv c.peak_after-self.ensures) (held c.trof_after-self.type_inv c.trof_after-self.ensures)
