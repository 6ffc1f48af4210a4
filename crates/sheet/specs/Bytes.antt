-- Counts and figures as bytes (01, "The calibration sheet"): "a figure is 8 bytes, two's complement, low byte first".
use Rattle.std.specs.Prelude.{ℕ, ◌+◌, ◌<◌, cond, List, length, take, drop, ℤ, pos, nat_le, slice_index}
pub use Rattle.integers.specs.Bytes.{word_of, word_bytes}
use Rattle.integers.specs.Bytes.{signed_of, unsigned_of}

-- each element is a byte, as in every slice of u8
abbrev pub Bytes : List ℕ → Type 0
Bytes s = (i : ℕ) → slice_index s i < 256

-- ---- what bytes say

-- the count that stands at a place; 0 past the end
abbrev pub count_at : List ℕ → ℕ → ℕ
count_at s at = slice_index s at

-- the figure that stands at a place; 0 where the sheet ends before it does
unfoldable pub figure_at : List ℕ → ℕ → ℤ
figure_at s at = cond (nat_le (at + 8) (length s)) (signed_of 64 (word_of (take 8 (drop at s)))) (pos 0)

-- ---- the bytes of a figure

unfoldable pub figure_bytes : ℤ → List ℕ
figure_bytes v = word_bytes 8 (unsigned_of v)
