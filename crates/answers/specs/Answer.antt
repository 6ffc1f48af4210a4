-- What a frame is answered with: a value to send; done, and no value to send; or the number that it is turned down with.
use Rattle.std.specs.Prelude.{ℕ, Option, Some, None, Result, Ok, Err, Float}
use Rattle.refusal.specs.declared.Refusal.{Refusal}
use Rattle.refusal.specs.Refusal.{number}

pub data Answer : Type 0 where
  Value : Float → Answer
  Done : Answer
  Refused : ℕ → Answer

-- what the program answers, of a register and of a request
abbrev pub register_as : Result Float Refusal → Answer
register_as (Ok x) = Value x
register_as (Err refusal) = Refused (number refusal)

abbrev pub answer_as : Result (Option Float) Refusal → Answer
answer_as (Ok (Some x)) = Value x
answer_as (Ok None) = Done
answer_as (Err refusal) = Refused (number refusal)
