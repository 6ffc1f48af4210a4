-- Shifts at once: the closed form that `sixty_four_shifts` computes. It is linear, as the shifts are, and agrees with them on the powers of
-- two, by computation. Assumes nothing.
use mathlib.Core.Path.{◌≡◌}
use Prim.Native.Nat.{ℕ, ◌*◌, ◌/◌, ◌%◌, ◌^◌, ◌<◌}
use native.Mathlib.Omega.{arith}
use lib.Bits.{bit_xor, xor_lt}
use lib.Count.{ones_in}
use Rattle.checksum.specs.Checksum.{shifted, shifts}
use Rattle.checksum.proofs.Linear.{Linear, same, then, ◌xor◌, down, low, up, odd, agreed}
use Rattle.checksum.proofs.Shifts.{shifts-xor}

shifts-linear : (k : ℕ) → Linear (shifts k)
shifts-linear k = record { of_xor = shifts-xor k }

-- what `sixty_four_shifts` has on the way
abbrev pub upper : ℕ → ℕ
upper x = bit_xor (bit_xor (x / 2 ^ 28) (x % 2 ^ 28)) (x % 2 ^ 28 * 4)

abbrev pub multiple : ℕ → ℕ
multiple u = bit_xor u (u * 2)

abbrev pub folded : ℕ → ℕ
folded m = bit_xor (bit_xor (m / 2 ^ 14) (m % 2 ^ 14)) (m % 2 ^ 14 * 2)

abbrev pub remainder : ℕ → ℕ
remainder f = bit_xor (bit_xor (f / 2 ^ 9) (f % 2 ^ 9 * 32)) (f % 2 ^ 9 * 64)

abbrev pub remainder_of : ℕ → ℕ
remainder_of x = remainder (folded (multiple (upper x)))

unfoldable pub sixty_four : ℕ → ℕ
sixty_four x = bit_xor (remainder_of x * 2) (ones_in 64 (bit_xor x (remainder_of x)) % 2 * 0xC001)

pub upper_fits : (x : ℕ) → x < 2 ^ 64 → upper x < 2 ^ 36
upper_fits x h = xor_lt 36 _ _ (xor_lt 36 (x / 2 ^ 28) (x % 2 ^ 28) (omega arith) (omega arith)) (omega arith)

pub remainder-fits : (x : ℕ) → x < 2 ^ 64 → remainder_of x < 2 ^ 15
remainder-fits x h = by-folded (folded (multiple (upper x))) (by-multiple (multiple (upper x)) (by-upper (upper x) (upper_fits x h)))
  where
    by-upper : (u : ℕ) → u < 2 ^ 36 → multiple u < 2 ^ 37
    by-upper u b = xor_lt 37 u (u * 2) (omega arith) (omega arith)

    by-multiple : (m : ℕ) → m < 2 ^ 37 → folded m < 2 ^ 23
    by-multiple m b = xor_lt 23 _ _ (xor_lt 23 (m / 2 ^ 14) (m % 2 ^ 14) (omega arith) (omega arith)) (omega arith)

    by-folded : (f : ℕ) → f < 2 ^ 23 → remainder f < 2 ^ 15
    by-folded f b = xor_lt 15 _ _ (xor_lt 15 (f / 2 ^ 9) (f % 2 ^ 9 * 32) (omega arith) (omega arith)) (omega arith)

remainder-linear : Linear remainder_of
remainder-linear =
    then (down 28 xor low 28 xor then (low 28) (up 2))
    (then (same xor up 1)
    (then (down 14 xor low 14 xor then (low 14) (up 1))
    (down 9 xor then (low 9) (up 5) xor then (low 9) (up 6))))

sixty-four-linear : Linear sixty_four
unfolding sixty_four
sixty-four-linear = then remainder-linear (up 1) xor then (same xor remainder-linear) (odd 64 0xC001)

pub sixty-four-is : (x : ℕ) → x < 2 ^ 64 → sixty_four x ≡ shifts 64 x
unfolding sixty_four shifts shifted ones_in
sixty-four-is = agreed sixty-four-linear (shifts-linear 64) 64 tt
