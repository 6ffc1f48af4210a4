-- Exceptions once more, by the papers' sentences alone, a row for each refusal and function that has one (01, "The bus"): "exception, 5
-- bytes: station, function with its top bit set, code, checksum. Code 1 for 14; 2 for 15, 11, and 10 on a read; 3 for 16, and 10 on a
-- write."; and Change 1, "Number 17, .. exception code 3". Function 3 reads, 16 writes.
use Rattle.std.specs.Prelude.{◌≡◌, cond, ◌&&◌, List, [], ◌∷◌, ◌⊎◌, ℕ, ◌+◌, ◌%◌, ◌≤◌, ◌<◌, eqb, length}
use Rattle.checksum.specs.Checksum.{framed}
use Rattle.modbus.specs.Frame.{station_of, function_of}
use Rattle.modbus.specs.Reply.{exception_reply}

pub record Row : Type 0 where
  pub number : ℕ
  pub function : ℕ
  pub code : ℕ

infix 40 ◌on◌gives◌
abbrev pub ◌on◌gives◌ : ℕ → ℕ → ℕ → Row
◌on◌gives◌ number function code = record { number = number; function = function; code = code }

abbrev pub exceptions : List Row
exceptions =
    (15 on 3 gives 2)
    ∷ (15 on 16 gives 2)
    ∷ (11 on 3 gives 2)
    ∷ (10 on 3 gives 2)
    ∷ (16 on 3 gives 3)
    ∷ (16 on 16 gives 3)
    ∷ (10 on 16 gives 3)
    ∷ (17 on 16 gives 3)
    ∷ []

-- the code of a number and a function, 0 where no row has them
abbrev pub code_in : List Row → ℕ → ℕ → ℕ
code_in [] n f = 0
code_in (e ∷ rest) n f = cond (eqb n e.number && eqb f e.function) e.code (code_in rest n f)

abbrev pub code_said : ℕ → ℕ → ℕ
code_said n f = code_in exceptions n f

-- of a byte
abbrev pub with_top_set : ℕ → ℕ
with_top_set function = function % 128 + 128

-- a frame that is replied to
pub record Heard (s : List ℕ) (room : ℕ) : Type 0 where
  pub room_enough : 9 ≤ room
  pub long_enough : 4 ≤ length s
  pub to_one : station_of s ≡ 0 → ⊥

pub record ExceptionsHold : Type 0 where
  pub hold : (n f : ℕ) → (code_said n f ≡ 0 → ⊥) → (s : List ℕ) (room : ℕ) → Heard s room → function_of s ≡ f
      → exception_reply s room n ≡ framed (station_of s ∷ with_top_set f ∷ code_said n f ∷ [])
  -- 14, which every other function gets
  pub function : (s : List ℕ) (room : ℕ) → Heard s room → function_of s < 256 → exception_reply s room 14 ≡ framed (station_of s ∷ with_top_set (function_of s) ∷ 1 ∷ [])
  -- 12 and 13 have none
  pub silence : (s : List ℕ) (room n : ℕ) → (n ≡ 12) ⊎ (n ≡ 13) → exception_reply s room n ≡ []
