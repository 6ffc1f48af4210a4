-- The numbers of the table of turned-down calls (01, "Turned-down calls"; 02), a row a line.
use Rattle.std.specs.Prelude.{ℕ, Result, Ok, Err}
use Rattle.refusal.specs.declared.Refusal.{Refusal}
use Rattle.refusal.specs.declared.Refusal.TheVariants.{ShortSheet, WrongCount, Figure, Order, TooSteep, Crossed, Trailing, Station, BadReading, NoReading, NoSnapshot, ShortBuffer, NotForUs, Function, Address, Value, UnfitCopy, CornerRefused, Buffers, Probe}

abbrev pub number : Refusal → ℕ
number ShortSheet = 1
number WrongCount = 2
number Figure = 3
number Order = 4
number TooSteep = 5
number Crossed = 6
number Trailing = 7
number Station = 8
number BadReading = 9
number NoReading = 10
number NoSnapshot = 11
number ShortBuffer = 12
number NotForUs = 13
number Function = 14
number Address = 15
number Value = 16
number UnfitCopy = 17
number CornerRefused = 18
number Buffers = 19
number Probe = 20

-- 0 of a call that is not turned down
abbrev pub number_of : {A : Type 0} → Result A Refusal → ℕ
number_of (Ok _) = 0
number_of (Err refusal) = number refusal
