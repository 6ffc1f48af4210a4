-- What a sheet's cursor finds: the cell section, and where a section ends.
use Rattle.std.specs.Prelude.{List, ℕ, zero, suc, length}
use Rattle.figures.specs.declared.Cell.{Cell}
use Rattle.sheet.specs.Bytes.{count_at}
use Rattle.sheet.specs.Places.{cell_size}
use Rattle.sheet.specs.Judge.{short_of}
use Rattle.sheet.specs.Read.{cell_at}
use Rattle.sheet.specs.Step.{count_found, figure_found}

-- the cell section, and 0; or 1, where the sheet ends before
pub record CellSection : Type 0 where
  pub number : ℕ
  pub count : ℕ
  pub cell : Cell

-- "cell | 4 | COFS ..; CGAI ..; CMIN, CMAX": a count and four figures; 1, where the sheet "ends before a count or figure that
-- is due", and 0 for what is missing
unfoldable pub cell_section : List ℕ → CellSection
cell_section s = record { number = short_of (length s) cell_size; count = count_at s 0; cell = cell_at s 0 }

-- the place after n figures from a place on
abbrev pub figures_end : List ℕ → ℕ → ℕ → ℕ
figures_end s at zero = at
figures_end s at (suc n) = (figure_found s (figures_end s at n)).at

-- and after n times so many
abbrev pub points_end : List ℕ → ℕ → ℕ → ℕ → ℕ
points_end s at each zero = at
points_end s at each (suc n) = figures_end s (points_end s at each n) each

-- "each after a one-byte count .. Tables go point by point"
abbrev pub section_end : List ℕ → ℕ → ℕ → ℕ
section_end s at each = points_end s (count_found s at).at each (count_found s at).value
