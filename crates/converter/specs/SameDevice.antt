-- Change 6 over whole histories: "Both are read and give the same device". A sheet of the old form, and the same behind an identity, make
-- one device, in which nothing of the identity is kept; so after any calls it is the same, and so is all that the log says.
use Rattle.std.specs.Prelude.{◌≡◌, List, ◌∷◌, ◌++◌, ℕ, drop}
use Rattle.sheet.specs.Forms.{identity_bytes}
use Rattle.sheet.specs.BothForms.{InRange}
use Rattle.sheet.specs.declared.Identity.{Identity}
use Rattle.converter.specs.Making.{made}
use Rattle.converter.specs.Call.{Call, run}
use Rattle.converter.specs.Log.{log_of}
use Rattle.converter.specs.Snapshot.{sysn_of}

module _ (new old : List ℕ) (station : ℕ) where
  pub record SameDevice : Type 0 where
    -- the same number, and the same device
    pub making : made new station ≡ made old station
    pub running : (calls : List Call) → run (made new station).device calls ≡ run (made old station).device calls
    pub logging : (calls : List Call) → log_of new station calls ≡ log_of old station calls
    pub shooting : (calls : List Call) → sysn_of new station calls ≡ sysn_of old station calls

pub record SameDevices : Type 0 where
  -- a sheet that begins with 4, and the same behind an identity
  pub behind_identity : (i : Identity) → InRange i → (rest : List ℕ) (station : ℕ) → SameDevice (identity_bytes i ++ (4 ∷ rest)) (4 ∷ rest) station
  -- an accepted sheet that begins with 2, and what stands behind its serial and day
  pub accepted_new : (rest : List ℕ) (station : ℕ) → (made (2 ∷ rest) station).number ≡ 0 → SameDevice (2 ∷ rest) (drop 16 rest) station
