-- Which frame is turned down with which number, once more: as properties, in the order of 01, "The bus". `judged` of `Frame.antt` gives
-- an answer exactly where the verdict below is that (proofs/Order.antt): a number where its own fault is there and none of the earlier.
use Rattle.std.specs.Prelude.{◌≡◌, ◌⊎◌, ◌↔◌, true, false, List, [], ◌∷◌, ◌++◌, ℕ, ◌+◌, ◌*◌, ◌≤◌, ◌<◌, length}
use Rattle.binary32.specs.Received.{takes}
use Rattle.binary32.specs.declared.received.Range.{Range}
use Rattle.register.specs.declared.Access.TheVariants.{Unlisted, ReadOnly, Takes, Action}
use Rattle.modbus.specs.Judgement.{Frame, Refused, Read, Write, Act}
use Rattle.checksum.specs.Checksum.{checksum_of}
use Rattle.register.specs.Register.{access_of}
use Rattle.modbus.specs.Frame.{word_at, station_of, function_of, quantity_of, byte_count_of, value_of, to_us, for_us, judged}

-- ---- 13: "frame under 4 or over 256 bytes, wrong checksum, other station, or a broadcast read"

-- "Station 0 is broadcast"
pub data ToUs (receiver function station : ℕ) : Type 0 where
  ours : (receiver ≡ 0 → ⊥) → receiver ≡ station → ToUs receiver function station
  to_all : receiver ≡ 0 → (function ≡ 3 → ⊥) → ToUs receiver function station

-- "Modbus CRC-16, low byte first": the last two bytes are the checksum of those in front
pub record RightChecksum (s : List ℕ) : Type 0 where
  pub front : List ℕ
  pub low : ℕ
  pub high : ℕ
  pub is : s ≡ front ++ (low ∷ high ∷ [])
  pub right : checksum_of front ≡ low + 256 * high

pub record ForUs (s : List ℕ) (station : ℕ) : Type 0 where
  pub least : 4 ≤ length s
  pub most : length s ≤ 256
  pub checksum : RightChecksum s
  pub is_to_us : ToUs (station_of s) (function_of s) station

-- ---- after 12, "reply buffer under 9 bytes", and 13

pub record Heard (s : List ℕ) (room station : ℕ) : Type 0 where
  pub room_least : 9 ≤ room
  pub is_for_us : ForUs s station

-- ---- 16: "length (8 bytes for function 3, 13 for 16), quantity 2 and byte count 4"

pub record Formed (s : List ℕ) : Type 0 where
  pub read_length : function_of s ≡ 3 → length s ≡ 8
  pub write_length : function_of s ≡ 16 → length s ≡ 13
  pub quantity : quantity_of s ≡ 2
  pub byte_count : function_of s ≡ 16 → byte_count_of s ≡ 4

-- ---- 15: "wire address odd or not twice a listed register"

pub record Addresses (s : List ℕ) (n : ℕ) : Type 0 where
  pub twice : word_at s 2 ≡ 2 * n
  pub listed : access_of n ≡ Unlisted → ⊥

-- ---- what a frame asks, by the first check that it fails, or by none

pub data Verdict (s : List ℕ) (room station : ℕ) : Frame → Type 0 where
  no_room : room < 9 → Verdict s room station (Refused 12)
  not_for_us : 9 ≤ room → (ForUs s station → ⊥) → Verdict s room station (Refused 13)
  -- 14: "not 3 or 16"
  no_function : Heard s room station → (function_of s ≡ 3 → ⊥) → (function_of s ≡ 16 → ⊥) → Verdict s room station (Refused 14)
  not_formed : Heard s room station → (function_of s ≡ 3) ⊎ (function_of s ≡ 16) → (Formed s → ⊥) → Verdict s room station (Refused 16)
  no_address : Heard s room station → (function_of s ≡ 3) ⊎ (function_of s ≡ 16) → Formed s → ((n : ℕ) → Addresses s n → ⊥) → Verdict s room station (Refused 15)
  -- "then by 16 read-only and value"
  only_read : (n : ℕ) → Heard s room station → function_of s ≡ 16 → Formed s → Addresses s n → access_of n ≡ ReadOnly → Verdict s room station (Refused 16)
  unfit : (n : ℕ) (r : Range) → Heard s room station → function_of s ≡ 16 → Formed s → Addresses s n → access_of n ≡ Takes r → takes r (value_of s) ≡ false → Verdict s room station (Refused 16)
  -- a good frame: any listed register is read; "RST, SNAP and peak reset ignore the value sent."
  reads : (n : ℕ) → Heard s room station → function_of s ≡ 3 → Formed s → Addresses s n → Verdict s room station (Read n)
  writes : (n : ℕ) (r : Range) → Heard s room station → function_of s ≡ 16 → Formed s → Addresses s n → access_of n ≡ Takes r → takes r (value_of s) ≡ true → Verdict s room station (Write n (value_of s))
  acts : (n : ℕ) → Heard s room station → function_of s ≡ 16 → Formed s → Addresses s n → access_of n ≡ Action → Verdict s room station (Act n)

pub record OrderHolds : Type 0 where
  pub is_to_us : (receiver function station : ℕ) → (to_us receiver function station ≡ true) ↔ ToUs receiver function station
  pub is_for_us : (s : List ℕ) (station : ℕ) → (for_us s station ≡ true) ↔ ForUs s station
  pub judges : (s : List ℕ) (room station : ℕ) (f : Frame) → (judged s room station ≡ f) ↔ Verdict s room station f
