-- What a master gets of a device, in bytes on the wire (01, "The bus"; the requests are those of `modbus/specs/Master.antt`).
use Rattle.std.specs.Prelude.{◌≡◌, true, false, List, [], ◌∷◌, ℕ, ◌+◌, ◌≤◌, Float}
use Rattle.binary32.specs.Received.{takes}
use Rattle.binary32.specs.Wire.{sent}
use Rattle.checksum.specs.Checksum.{framed}
use Rattle.register.specs.Register.{range_of}
use Rattle.register.specs.Listed.{kind_said, valued, only_read, not_listed}
use Rattle.modbus.specs.Master.{asking, read_request, write_request, Reaches}
use Rattle.modbus.specs.Judgement.{Frame, Write, Act}
use Rattle.in_force.specs.InForce.{copy_fits}
use Rattle.converter.specs.Call.{frame, obeyed, after_call, number, reply}
use Rattle.converter.specs.declared.Device.{Device}

-- a request's number and the bytes replied, in every buffer that 12 does not turn down
abbrev pub Gets : Device → List ℕ → ℕ → List ℕ → Type 0
Gets d request n bytes = (room : ℕ) → 9 ≤ room → (number d (frame request room) ≡ n) × (reply d request room ≡ bytes)

-- ---- a read of register r

-- it sends x: "function 3, 9 bytes"
abbrev pub Sends : Device → ℕ → Float → Type 0
Sends d r x = let station = d.setup.station in Gets d (read_request station r) 0 (framed (station ∷ 3 ∷ 4 ∷ sent x))

-- or is refused with n: "exception, 5 bytes: station, function with its top bit set, code, checksum. Code .. 2 for 15, 11, and 10 on a
-- read"
abbrev pub Withholds : Device → ℕ → ℕ → Type 0
Withholds d r n = let station = d.setup.station in Gets d (read_request station r) n (framed (station ∷ (3 + 128) ∷ 2 ∷ []))

-- ---- a write of x to register r, to the device's station and to all: "Station 0 is broadcast: writes act, nothing is replied, faults
-- keep their number"

abbrev pub Leaves : Device → ℕ → Float → Device → Type 0
Leaves d r x after = (receiver room : ℕ) → Reaches receiver d.setup.station → 9 ≤ room → after_call d (frame (write_request receiver r x) room) ≡ after

-- it is obeyed: "16, the first 6 bytes and checksum"
pub record Obeys (d : Device) (r : ℕ) (x : Float) (f : Frame) : Type 0 where
  pub confirmed : let station = d.setup.station in Gets d (write_request station r x) 0 (framed (asking station 16 r))
  pub broadcast : Gets d (write_request 0 r x) 0 []
  pub does : Leaves d r x (obeyed d f)

-- or refused with n: "No refusal changes a device"
pub record Rejects (d : Device) (r : ℕ) (x : Float) (n code : ℕ) : Type 0 where
  pub told : let station = d.setup.station in Gets d (write_request station r x) n (framed (station ∷ (16 + 128) ∷ code ∷ []))
  pub broadcast : Gets d (write_request 0 r x) n []
  pub does : Leaves d r x d

-- every register; "RST 100, SNAP 103, peak reset 104", "our own register 99" (Change 1). "Code .. 2 for 15 ..; 3 for 16, and 10 on a write"; 3 for 17 (Change 1)
pub record WritesHeeded (d : Device) (x : Float) : Type 0 where
  pub taken : (r : ℕ) → kind_said r ≡ valued → takes (range_of r) x ≡ true → Obeys d r x (Write r x)
  pub unfit : (r : ℕ) → kind_said r ≡ valued → takes (range_of r) x ≡ false → Rejects d r x 16 3
  pub read_only : (r : ℕ) → kind_said r ≡ only_read → Rejects d r x 16 3
  pub unlisted : (r : ℕ) → kind_said r ≡ not_listed → Rejects d r x 15 2
  pub rst : Obeys d 100 x (Act 100)
  -- 10: "SNAP or peak reset before the first reading since start or RST"
  pub snap : d.state.readings.any ≡ true → Obeys d 103 x (Act 103)
  pub no_snap : d.state.readings.any ≡ false → Rejects d 103 x 10 3
  pub peak_reset : d.state.readings.any ≡ true → Obeys d 104 x (Act 104)
  pub no_peak_reset : d.state.readings.any ≡ false → Rejects d 104 x 10 3
  -- 17: "unfit copy, for register 99"
  pub apply : copy_fits d.setup ≡ true → Obeys d 99 x (Act 99)
  pub no_apply : copy_fits d.setup ≡ false → Rejects d 99 x 17 3
