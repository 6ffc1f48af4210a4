-- A float on the wire (01, "The bus"): "A value goes out as a 32-bit float, bytes 15:8, 7:0, 31:24, 23:16 (001)."
use Rattle.std.specs.Prelude.{List, [], ◌∷◌, ℕ, ◌+◌, ◌*◌, ◌/◌, ◌%◌, Float}
use Rattle.std.specs.Float.{binary32}
use Rattle.std.specs.Float.Ieee.{to_bits, of_bits}

-- a 32-bit pattern's bytes in that order, and the pattern of four bytes in that order
unfoldable pub wire_bytes : ℕ → List ℕ
wire_bytes n = n / 256 % 256 ∷ n % 256 ∷ n / 16777216 ∷ n / 65536 % 256 ∷ []

abbrev pub pattern : ℕ → ℕ → ℕ → ℕ → ℕ
pattern a b c d = c * 16777216 + d * 65536 + a * 256 + b

-- what is sent of x, and what is received of four bytes
abbrev pub sent : Float → List ℕ
sent x = wire_bytes (to_bits binary32 x)

abbrev pub received : ℕ → ℕ → ℕ → ℕ → Float
received a b c d = of_bits binary32 (pattern a b c d)
