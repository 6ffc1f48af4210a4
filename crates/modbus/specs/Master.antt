-- What a master sends, by the Modbus standard, and what it asks of a device by that (01, "The bus"). `Frame.antt` from the other side:
-- the requests are put together here, and the registers are those of `Ends.antt`.
use Rattle.std.specs.Prelude.{◌≡◌, true, false, List, [], ◌∷◌, ◌++◌, ◌⊎◌, ℕ, ◌*◌, ◌/◌, ◌%◌, ◌≤◌, T, Float}
use Rattle.std.specs.Float.{binary32}
use Rattle.std.specs.Float.Ieee.{fits}
use Rattle.binary32.specs.Received.{takes}
use Rattle.binary32.specs.Wire.{sent}
use Rattle.modbus.specs.Judgement.{Refused, Read, Write, Act}
use Rattle.checksum.specs.Checksum.{framed}
use Rattle.register.specs.Register.{range_of}
use Rattle.register.specs.Listed.{kind_said, acting, valued, only_read, not_listed}
use Rattle.modbus.specs.Frame.{judged}

-- station, function, address, quantity: "Wire address = 2 × register number", and "quantity 2", each with the high byte first
abbrev pub asking : ℕ → ℕ → ℕ → List ℕ
asking station function r = station ∷ function ∷ (2 * r) / 256 ∷ (2 * r) % 256 ∷ 0 ∷ 2 ∷ []

abbrev pub read_request : ℕ → ℕ → List ℕ
read_request station r = framed (asking station 3 r)

-- "byte count 4", and the float
abbrev pub write_request : ℕ → ℕ → Float → List ℕ
write_request station r x = framed (asking station 16 r ++ (4 ∷ sent x))

-- ---- what they ask of a device, where a reply has room

pub record ReadsAsked (station room : ℕ) : Type 0 where
  pub listed : (r : ℕ) → (kind_said r ≡ not_listed → ⊥) → judged (read_request station r) room station ≡ Read r
  -- 15: "not twice a listed register"
  pub unlisted : (r : ℕ) → kind_said r ≡ not_listed → judged (read_request station r) room station ≡ Refused 15
  -- 13: "other station, or a broadcast read"
  pub elsewhere : (receiver r : ℕ) → (receiver ≡ station → ⊥) → judged (read_request receiver r) room station ≡ Refused 13

-- "Station 0 is broadcast: writes act"
abbrev pub Reaches : ℕ → ℕ → Type 0
Reaches receiver station = (receiver ≡ station) ⊎ (receiver ≡ 0)

pub record WritesAsked (receiver station room : ℕ) (x : Float) : Type 0 where
  pub taken : (r : ℕ) → kind_said r ≡ valued → takes (range_of r) x ≡ true → judged (write_request receiver r x) room station ≡ Write r x
  -- "RST, SNAP and peak reset ignore the value sent."
  pub action : (r : ℕ) → kind_said r ≡ acting → judged (write_request receiver r x) room station ≡ Act r
  -- 15, and 16: "read_only register, or unfit value"
  pub unlisted : (r : ℕ) → kind_said r ≡ not_listed → judged (write_request receiver r x) room station ≡ Refused 15
  pub read_only : (r : ℕ) → kind_said r ≡ only_read → judged (write_request receiver r x) room station ≡ Refused 16
  pub unfit : (r : ℕ) → kind_said r ≡ valued → takes (range_of r) x ≡ false → judged (write_request receiver r x) room station ≡ Refused 16

pub record Asked (station room : ℕ) : Type 0 where
  pub reads : ReadsAsked station room
  -- the float is one that an f32 can be
  pub writes : (receiver : ℕ) (x : Float) → T (fits binary32 x) → Reaches receiver station → WritesAsked receiver station room x
  -- 13: "other station"
  pub elsewhere : (receiver r : ℕ) (x : Float) → (Reaches receiver station → ⊥) → judged (write_request receiver r x) room station ≡ Refused 13

-- by every station that a device can have, and with room for every reply
abbrev pub Understood : Type 0
Understood = (station room : ℕ) → (station ≡ 0 → ⊥) → 9 ≤ room → Asked station room
