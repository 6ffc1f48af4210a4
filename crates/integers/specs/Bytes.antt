-- Bytes: the number that they write, low byte first; and a text of them that is put into a buffer.
use Rattle.std.specs.Prelude.{◌≡◌, List, [], ◌∷◌, cond, ℕ, zero, suc, ◌+◌, ◌-◌, ◌*◌, ◌/◌, ◌%◌, ◌^◌, ◌≤◌, ltb, ℤ, pos, negsuc, length, get_or}
use Rattle.std.proofs.lemmas.List.Edits.{sets}

-- the byte at a place, 0 past the end
abbrev pub byte_at : List ℕ → ℕ → ℕ
byte_at s i = get_or s i 0

-- the number whose digits to base 256 are the bytes
abbrev pub word_of : List ℕ → ℕ
word_of [] = 0
word_of (b ∷ rest) = b + word_of rest * 256

-- the n lowest digits of a number to base 256
abbrev pub word_bytes : ℕ → ℕ → List ℕ
word_bytes zero u = []
word_bytes (suc n) u = (u % 256) ∷ word_bytes n (u / 256)

-- the number of a word of so many bits in two's complement
unfoldable pub signed_of : ℕ → ℕ → ℤ
signed_of bits u = cond (ltb u (2 ^ (bits - 1))) (pos u) (negsuc (2 ^ bits - 1 - u))

-- the word of 64 bits of a number in two's complement
abbrev pub unsigned_of : ℤ → ℕ
unsigned_of (pos n) = n
unsigned_of (negsuc n) = 2 ^ 64 - 1 - n

-- The text is stored at a place of a buffer, byte by byte, and nothing else is; r is the place after it.
pub record Put (text before : List ℕ) (at : ℕ) (after : List ℕ) (r : ℕ) : Type 0 where
  pub is : after ≡ sets before at text
  pub next : r ≡ at + length text
  pub fits : r ≤ length after
