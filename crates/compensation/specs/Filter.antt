-- Step 1 (01, "The reading"): "FFLV or FFST 0, or the first reading: held value = input. Otherwise, if the input differs from
-- the held value by more than FFLV, held = input; else held = held + round((input − held) ÷ FFST)." Of this Change 2 moves the test
-- alone: "The bypass shall compare the new input with the previous accepted unfiltered input".
use Rattle.std.specs.Prelude.{Bool, true, false, cond, ◌||◌, eqb, ℤ, pos, negsuc, nat_abs, ◌+ℤ◌, ◌-ℤ◌}
use Rattle.std.proofs.Math.Option.{Option, none, some}
use Rattle.std.specs.Int.Signed.{lt_z}
use Rattle.arithmetic.specs.Round.{round_div}
use Rattle.figures.specs.declared.Filter.{Filter}

abbrev pub is_zero : ℤ → Bool
is_zero (pos n) = eqb n 0
is_zero (negsuc n) = false

unfoldable pub filtered : Filter → Bool → ℤ → ℤ → ℤ → ℤ
filtered f first previous held input =
    cond (first || (is_zero f.fflv || is_zero f.ffst)) input
    (cond (lt_z f.fflv (pos (nat_abs (input -ℤ previous)))) input
    (held +ℤ round_div (input -ℤ held) f.ffst))

-- what is remembered of the last accepted reading: its input, and the held value
pub record Remembered : Type 0 where
  pub input : ℤ
  pub held : ℤ

-- with nothing remembered, this is the first reading
abbrev pub held_by : Filter → Option Remembered → ℤ → ℤ
held_by f none input = filtered f true (pos 0) (pos 0) input
held_by f (some m) input = filtered f false m.input m.held input

-- "which the device has to remember" (Change 2), of every accepted reading, filtered or not: what device and log keep for the next
abbrev pub remembered : Filter → Option Remembered → ℤ → Remembered
remembered f m input = record { input = input; held = held_by f m input }
