-- What the proofs of the groups of cases share. Assumes nothing.
use mathlib.Core.Path.{◌≡◌}
use mathlib.Core.List.{List, ◌++◌}
use Prim.Native.Nat.{ℕ}
use lib.ListN.{length, drop}
use lib.Ieee.{of_bits, to_bits, div, neg, round}
use Rattle.arithmetic.specs.Round.{round_div, round_magnitude}
use Rattle.binary32.specs.Received.{takes, nearest, counted}
use Rattle.binary32.specs.ForCode.{Computable}
use Rattle.binary32.specs.declared.received.Range.{Range}
use Rattle.binary32.specs.Sent.{count_float}
use Rattle.binary32.specs.Wire.{wire_bytes}
use Rattle.checksum.specs.Checksum.{with_byte, framed}
use Rattle.register.specs.Register.{access_of, range_of}
use Rattle.register.proofs.Registers.{range-computable}
use Rattle.modbus.specs.Frame.{checked, to_us, for_us, access_asked, read_asked, write_of, write_asked, judged}
use Rattle.modbus.specs.Reply.{silent, unless_silent, write_reply, exception_code, exception_reply, Replied}

-- What a case computes with: to unfold one of these is to unfold all that its line names.

unfoldable pub floats : Unit {0}
unfolding of_bits to_bits div neg round wire_bytes count_float takes nearest counted round_div round_magnitude access_of range_of
floats = tt

unfoldable pub frames : Unit {0}
unfolding floats with_byte checked to_us for_us access_asked read_asked write_of write_asked judged
frames = tt

unfoldable pub replies : Unit {0}
unfolding floats with_byte framed silent unless_silent write_reply exception_code exception_reply
replies = tt

-- A reply by its parts, for `search`, which makes no record of so large a goal.
pub replied :
    {bytes before after : List ℕ} {n : ℕ} →
    n ≡ length bytes → after ≡ bytes ++ drop (length bytes) before → Replied bytes before after n
replied count buffer = record { count = count; buffer = buffer }

-- A register's range can be computed with.
pub ranged : (n : ℕ) {r : Range} → r ≡ range_of n → Computable r
ranged n e = rw e (range-computable n)
