-- Number 8 once more, as properties (01, "Turned-down calls"): a station is "not 1 to 247"; "Making a device checks the station first."
-- `station_fits` and `made` of `Making.antt` go by them (proofs/StationFirst.antt).
use Rattle.std.specs.Prelude.{◌≡◌, ◌↔◌, true, List, ℕ, ◌≤◌}
use Rattle.sheet.specs.Forms.{sheet_number}
use Rattle.converter.specs.Making.{station_fits, made}

pub record Station (station : ℕ) : Type 0 where
  pub least : 1 ≤ station
  pub most : station ≤ 247

pub record StationFirst : Type 0 where
  pub fits : (station : ℕ) → (station_fits station ≡ true) ↔ Station station
  -- 8 exactly where the station is none, whatever the sheet; only then the sheet's number
  pub refused : (sheet : List ℕ) (station : ℕ) → ((made sheet station).number ≡ 8) ↔ (Station station → ⊥)
  pub judged : (sheet : List ℕ) (station : ℕ) → Station station → (made sheet station).number ≡ sheet_number sheet
