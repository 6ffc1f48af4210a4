-- The cursor once more, in one statement: "A sheet cursor refers to the lent sheet itself and knows how far it has got." `started`,
-- `count_step` and `figure_step` of `Step.antt` have it (proofs/CursorGoes.antt).
use Rattle.std.specs.Prelude.{◌≡◌, ℕ, ◌+◌, ◌<◌, ◌≤◌, List, length}
use Rattle.std.specs.Borrow.{Bor}
use Rattle.sheet.specs.Step.{started, count_step, figure_step, CountGoes, FigureGoes}
use Rattle.sheet.specs.declared.Cursor.{Cursor}

-- a cursor that comes of c by a step over `width` bytes: over the same sheet, past them if they are there, else where it was
pub record Got (width : ℕ) (c next : Cursor) : Type 0 where
  pub same_sheet : next.sheet ≡ c.sheet
  pub past : c.at + width ≤ length c.sheet.now → next.at ≡ c.at + width
  pub stays : length c.sheet.now < c.at + width → next.at ≡ c.at

pub record CursorGoes : Type 0 where
  pub starts_over : (sheet : Bor (List ℕ)) → (started sheet).sheet ≡ sheet
  pub starts_at : (sheet : Bor (List ℕ)) → (started sheet).at ≡ 0
  -- "a one-byte count"
  pub count : (c : Cursor) → CountGoes c (count_step c)
  pub count_got : (c : Cursor) → Got 1 c (count_step c).next
  -- "a figure is 8 bytes"
  pub figure : (c : Cursor) → FigureGoes c (figure_step c)
  pub figure_got : (c : Cursor) → Got 8 c (figure_step c).next
