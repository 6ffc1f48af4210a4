-- Number 9 once more, as properties, by 01's own numbers: "ELEC beyond ±19,660,800, TEMP beyond ±13,107,200, or integrity byte above 1".
-- `bad_reading` of `Reading.antt` goes by them, both ways (proofs/BadReading.antt).
use Rattle.std.specs.Prelude.{◌≡◌, ◌↔◌, true, false, ℕ, ◌≤◌, ◌<◌, ℤ, pos, neg_ℤ, ◌≤ℤ◌, ◌<ℤ◌}
use Rattle.state.specs.Reading.{bad_reading}

pub data Bad (elec temp : ℤ) (integrity : ℕ) : Type 0 where
  elec_under : elec <ℤ neg_ℤ (pos 19660800) → Bad elec temp integrity
  elec_over : pos 19660800 <ℤ elec → Bad elec temp integrity
  temp_under : temp <ℤ neg_ℤ (pos 13107200) → Bad elec temp integrity
  temp_over : pos 13107200 <ℤ temp → Bad elec temp integrity
  integrity_over : 1 < integrity → Bad elec temp integrity

-- at its limits it is good
pub record Good (elec temp : ℤ) (integrity : ℕ) : Type 0 where
  pub elec_at_least : neg_ℤ (pos 19660800) ≤ℤ elec
  pub elec_at_most : elec ≤ℤ pos 19660800
  pub temp_at_least : neg_ℤ (pos 13107200) ≤ℤ temp
  pub temp_at_most : temp ≤ℤ pos 13107200
  pub integrity_at_most : integrity ≤ 1

pub record BadReadings : Type 0 where
  pub refused : (elec temp : ℤ) (integrity : ℕ) → (bad_reading elec temp integrity ≡ true) ↔ Bad elec temp integrity
  pub taken : (elec temp : ℤ) (integrity : ℕ) → (bad_reading elec temp integrity ≡ false) ↔ Good elec temp integrity
