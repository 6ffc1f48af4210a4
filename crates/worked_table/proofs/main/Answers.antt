-- The table is acceptable, by its figures. Assumes nothing.
use native.Mathlib.Omega.{arith}
use lib.Signed.{lt_z_yes}
use Rattle.figures.specs.Rows.{temperatures}
use Rattle.worked_table.proofs.main.Goals as goal

pub input_at-input-requires : goal.input_at-input-requires
unfolding temperatures
input_at-input-requires c = record {
  least = omega arith;
  most = omega arith;
  ct_in = (record { abs = omega arith }, (record { abs = omega arith }, (record { abs = omega arith }, (record { abs = omega arith }, tt))));
  cto_in = (record { abs = omega arith }, (record { abs = omega arith }, (record { abs = omega arith }, (record { abs = omega arith }, tt))));
  ctg_in = (record { abs = omega arith }, (record { abs = omega arith }, (record { abs = omega arith }, (record { abs = omega arith }, tt))));
  rising = (lt_z_yes tt, (lt_z_yes tt, (lt_z_yes tt, tt)));
}
