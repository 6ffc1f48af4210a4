-- The sheet cursor (01, "The calibration sheet"): "A sheet cursor refers to the lent sheet itself and knows how far it has got."
-- A step is told first by slice and offset, as the code takes it, then of the cursor.
use Rattle.std.specs.Prelude.{◌≡◌, ℕ, ◌+◌, ◌<◌, ◌≤◌, cond, List, length, take, drop, ℤ, pos, nat_lt}
use Rattle.std.specs.Borrow.{Bor}
use Rattle.integers.specs.Bytes.{word_of, signed_of}
use Rattle.sheet.specs.Bytes.{count_at, figure_at}
use Rattle.sheet.specs.declared.Cursor.{Cursor}

-- ---- what a step finds: a number, a value, and the place or the cursor to go on with

pub record CountFound : Type 0 where
  pub number : ℕ
  pub value : ℕ
  pub at : ℕ

pub record FigureFound : Type 0 where
  pub number : ℕ
  pub value : ℤ
  pub at : ℕ

pub record CountStep : Type 0 where
  pub number : ℕ
  pub value : ℕ
  pub next : Cursor

pub record FigureStep : Type 0 where
  pub number : ℕ
  pub value : ℤ
  pub next : Cursor

-- 0, the count and the place after it; or 1, "it ends before a count or figure that is due", and "Beside a refusal each value .. is 0"
unfoldable pub count_found : List ℕ → ℕ → CountFound
count_found s at = cond (nat_lt at (length s)) (record { number = 0; value = count_at s at; at = at + 1 }) (record { number = 1; value = 0; at = at })

-- the same of a figure
unfoldable pub figure_found : List ℕ → ℕ → FigureFound
figure_found s at = cond (nat_lt (length s) (at + 8)) (record { number = 1; value = pos 0; at = at }) (record { number = 0; value = figure_at s at; at = at + 8 })

-- at the sheet's first byte
abbrev pub started : Bor (List ℕ) → Cursor
started sheet = record { sheet = sheet; at = 0 }

-- the cursor at another place of its sheet
abbrev pub moved : Cursor → ℕ → Cursor
moved c at = record { sheet = c.sheet; at = at }

-- what was found there, and the cursor to go on with
abbrev pub count_step : Cursor → CountStep
count_step c =
    let found = count_found c.sheet.now c.at in
    record { number = found.number; value = found.value; next = moved c found.at }

abbrev pub figure_step : Cursor → FigureStep
figure_step c =
    let found = figure_found c.sheet.now c.at in
    record { number = found.number; value = found.value; next = moved c found.at }

-- ---- the same again, in 01's words: `count-goes` and `figure-goes` (proofs/Steps.antt) prove it of both

-- A step over the next `width` bytes, which say a value by `read`; `zero` is the value 0. Either "it ends before a count or figure that
-- is due": 1, "Beside a refusal each value .. is 0", and the cursor given back is the one handed in; or the bytes are there: 0, what
-- they say, and a cursor over the same sheet that has got past them.
pub record Goes {A : Type 0} (width : ℕ) (read : List ℕ → A) (zero : A) (c : Cursor) (number : ℕ) (value : A) (next : Cursor) : Type 0 where
  pub short : length c.sheet.now < c.at + width → (number ≡ 1) × ((value ≡ zero) × (next ≡ c))
  pub there : c.at + width ≤ length c.sheet.now → (number ≡ 0) × ((value ≡ read (take width (drop c.at c.sheet.now))) × (next ≡ moved c (c.at + width)))

-- "a one-byte count"
abbrev pub CountGoes : Cursor → CountStep → Type 0
CountGoes c r = Goes 1 word_of 0 c r.number r.value r.next

-- "a figure is 8 bytes, two's complement, low byte first"
abbrev pub FigureGoes : Cursor → FigureStep → Type 0
FigureGoes c r = Goes 8 (λ bytes. signed_of 64 (word_of bytes)) (pos 0) c r.number r.value r.next
