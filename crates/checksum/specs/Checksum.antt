-- The checksum (01, "The bus"): "Modbus CRC-16, low byte first". The rule bit by bit, as the Modbus standard states it.
use Rattle.std.specs.Prelude.{cond, List, [], ◌∷◌, ◌++◌, ℕ, zero, suc, ◌/◌, ◌%◌, eqb}
use Rattle.std.specs.Int.Bits.{bit_xor}

-- one shift to the right; where a 1 drops out, exclusive or with A001
unfoldable pub shifted : ℕ → ℕ
shifted c = cond (eqb (c % 2) 1) (bit_xor (c / 2) 0xA001) (c / 2)

unfoldable pub shifts : ℕ → ℕ → ℕ
unfolding shifted
shifts zero c = c
shifts (suc k) c = shifts k (shifted c)

-- a byte is taken in: exclusive or, then eight shifts
unfoldable pub with_byte : ℕ → ℕ → ℕ
unfolding shifts
with_byte c b = shifts 8 (bit_xor c b)

abbrev pub checksum_from : ℕ → List ℕ → ℕ
checksum_from c [] = c
checksum_from c (b ∷ rest) = checksum_from (with_byte c b) rest

-- the start is FFFF
abbrev pub checksum_of : List ℕ → ℕ
checksum_of bytes = checksum_from 0xFFFF bytes

-- a message with its checksum, low byte first
unfoldable pub framed : List ℕ → List ℕ
framed bytes = bytes ++ (checksum_of bytes % 256 ∷ checksum_of bytes / 256 ∷ [])
