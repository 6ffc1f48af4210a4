-- What a frame is judged to be: a read, a write or an action of a register, or turned down with one of 01's numbers.
use Rattle.std.specs.Prelude.{Result, Ok, Err, ℕ, Float}
use Rattle.refusal.specs.declared.Refusal.{Refusal}
use Rattle.refusal.specs.Refusal.{number}
use Rattle.modbus.specs.declared.frame.Request.{Request}
use Rattle.modbus.specs.declared.frame.Request.TheVariants as request

pub data Frame : Type 0 where
  Refused : ℕ → Frame
  Read : ℕ → Frame
  Write : ℕ → Float → Frame
  Act : ℕ → Frame

-- what the program answers of a frame
abbrev pub frame_of : Result Request Refusal → Frame
frame_of (Ok (request.Read r)) = Read r
frame_of (Ok (request.Write r x)) = Write r x
frame_of (Ok (request.Act r)) = Act r
frame_of (Err refusal) = Refused (number refusal)
