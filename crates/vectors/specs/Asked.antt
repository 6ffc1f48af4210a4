-- What a frame asks as two numbers, so that the running program can compare it.
use Rattle.std.specs.Prelude.{ℕ, ◌+◌}
use Rattle.std.specs.Float.{binary32}
use Rattle.std.specs.Float.Ieee.{to_bits}
use Rattle.modbus.specs.Judgement.{Frame, Refused, Read, Write, Act}

-- the number of a refusal; else the register, with what is done to it
unfoldable pub asked_number : Frame → ℕ
asked_number (Refused n) = n
asked_number (Read r) = 0x1_0000_0000 + r
asked_number (Write r x) = 0x2_0000_0000 + r
asked_number (Act r) = 0x3_0000_0000 + r

-- the pattern of a write's float; else 0
unfoldable pub float_of : Frame → ℕ
float_of (Refused n) = 0
float_of (Read r) = 0
float_of (Write r x) = to_bits binary32 x
float_of (Act r) = 0
