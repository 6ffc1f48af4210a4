-- What is sent of a float is received as that float. Assumes nothing.
use mathlib.Core.Path.{◌≡◌, ap, ◌∙◌}
use Prim.Native.Nat.{ℕ, ◌<◌, ◌^◌}
use native.Mathlib.Omega.{arith}
use lib.Dec.{T}
use lib.ListN.{get_or}
use lib.Ieee.{Float, binary32, fits, to_bits, of_bits}
use lib.Ieee.Bits.{of_bits-to_bits, to_bits-lt}
use Rattle.binary32.specs.Wire.{wire_bytes, pattern, sent, received}

pattern-back : (n : ℕ) → n < 2 ^ 32 → pattern (get_or (wire_bytes n) 0 0) (get_or (wire_bytes n) 1 0) (get_or (wire_bytes n) 2 0) (get_or (wire_bytes n) 3 0) ≡ n
unfolding wire_bytes
pattern-back n h = omega arith

-- of every float that an f32 can be, a NaN too
pub sent-received : (x : Float) → T (fits binary32 x) → received (get_or (sent x) 0 0) (get_or (sent x) 1 0) (get_or (sent x) 2 0) (get_or (sent x) 3 0) ≡ x
sent-received x F = ap (of_bits binary32) (pattern-back (to_bits binary32 x) (to_bits-lt binary32 x F)) ∙ of_bits-to_bits binary32 x F
