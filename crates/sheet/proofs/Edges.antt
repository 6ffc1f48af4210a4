-- Single sheets: each number from 0 to 7 occurs, and 01's edges hold. By computation. Assumes nothing.
use Rattle.std.proofs.Common.{◌≡◌, ℕ, List, [], ◌∷◌, ◌++◌, length, take, drop, set, ℤ, pos, neg_ℤ, refl}
use Rattle.integers.specs.Bytes.{signed_of}
use Rattle.figures.specs.Default.{default_sheet, apart}
use Rattle.figures.specs.Unused.{unused_zero}
use Rattle.figures.proofs.Default.{default-representable, default-acceptable}
use Rattle.sheet.specs.Bytes.{figure_at, figure_bytes}
use Rattle.sheet.specs.Judge.{short_of, wrong_count, out_of_range, not_below, too_steep, trailing, cell_number, temperature_point_number, temperature_number, linearity_point_number, linearity_number, system_number, filter_number, sections_number}
use Rattle.sheet.specs.Read.{cell_at, temperature_point_at, linearity_point_at, temperature_at, linearity_at, system_at, filter_at, figures_of, old_number}
use Rattle.sheet.specs.Forms.{identity_at, identity_bytes, identity_number, own_identity_number, new_number, sheet_number, read_sheet}
use Rattle.sheet.specs.Write.{cell_bytes, temperature_point_bytes, linearity_point_bytes, temperature_bytes, linearity_bytes, system_bytes, filter_bytes, sheet_bytes}
use Rattle.sheet.proofs.Theorems.{written_read}

-- the default sheet
abbrev pub bytes : List ℕ
bytes = sheet_bytes default_sheet

pub default-read : read_sheet bytes ≡ record { number = 0; figures = default_sheet }
unfolding default_sheet unused_zero
default-read = written_read default_sheet default-representable default-acceptable

pub record Edges : Type 0 where
  -- "Two and two points: 173 bytes. 172 is refused with 1, 174 with 7. A point count of 1 is refused with 2."
  pub two-and-two : length bytes ≡ 173
  pub accepted : sheet_number bytes ≡ 0
  pub short : sheet_number (take 172 bytes) ≡ 1
  pub trailing-byte : sheet_number (bytes ++ 0 ∷ []) ≡ 7
  pub one-point : sheet_number (set bytes 33 1) ≡ 2
  -- COFS 2^56, the second CT 0, CMAX −9,830,400
  pub figure : sheet_number (set bytes 8 1) ≡ 3
  pub order : sheet_number (set bytes 60 0) ≡ 4
  pub crossed : sheet_number (take 25 bytes ++ figure_bytes (neg_ℤ (pos 9830400)) ++ drop 33 bytes) ≡ 6
  -- "CLX 400 apart: CLK 100 apart is accepted, 101 is refused with 5."
  pub gentle : sheet_number (sheet_bytes (apart (pos 100))) ≡ 0
  pub steep : sheet_number (sheet_bytes (apart (pos 101))) ≡ 5
  -- "for each figure 1, then 3": an earlier bad figure counts before a later missing one
  pub left-to-right : sheet_number (take 100 (set bytes 8 1)) ≡ 3

pub edges : Edges
unfolding sheet_number old_number sections_number cell_number temperature_number temperature_point_number linearity_number linearity_point_number system_number filter_number short_of wrong_count out_of_range not_below too_steep trailing
    figures_of cell_at temperature_at temperature_point_at linearity_at linearity_point_at system_at filter_at figure_at signed_of
    sheet_bytes cell_bytes temperature_bytes linearity_bytes system_bytes filter_bytes temperature_point_bytes linearity_point_bytes figure_bytes default_sheet
edges = record { two-and-two = refl; accepted = refl; short = refl; trailing-byte = refl; one-point = refl; figure = refl; order = refl; crossed = refl; gentle = refl; steep = refl; left-to-right = refl }

-- ---- the new form (02, Change 6): "serial 0 to 4,294,967,295 and day 0 to 65,535"

abbrev behind : ℤ → ℤ → List ℕ
behind serial day = identity_bytes (record { serial = serial; day = day }) ++ bytes

pub record NewEdges : Type 0 where
  -- "count 2: serial .. and day .., both 8-byte figures"
  pub identity : identity_bytes (record { serial = pos 4294967295; day = pos 258 }) ≡ 2 ∷ 255 ∷ 255 ∷ 255 ∷ 255 ∷ 0 ∷ 0 ∷ 0 ∷ 0 ∷ 2 ∷ 1 ∷ 0 ∷ 0 ∷ 0 ∷ 0 ∷ 0 ∷ 0 ∷ []
  pub two-and-two : length (behind (pos 0) (pos 0)) ≡ 190
  pub least : sheet_number (behind (pos 0) (pos 0)) ≡ 0
  pub most : sheet_number (behind (pos 4294967295) (pos 65535)) ≡ 0
  pub serial-over : sheet_number (behind (pos 4294967296) (pos 0)) ≡ 3
  pub serial-under : sheet_number (behind (neg_ℤ (pos 1)) (pos 0)) ≡ 3
  pub day-over : sheet_number (behind (pos 0) (pos 65536)) ≡ 3
  pub day-under : sheet_number (behind (pos 0) (neg_ℤ (pos 1))) ≡ 3
  -- "any other first count is 2"; behind an identity the old sheet's 4 is due, and no second identity
  pub other-count : sheet_number (3 ∷ bytes) ≡ 2
  pub no-old-sheet : sheet_number (take 17 (behind (pos 0) (pos 0))) ≡ 1
  pub second-identity : sheet_number (identity_bytes (record { serial = pos 1; day = pos 1 }) ++ behind (pos 0) (pos 0)) ≡ 2
  -- "judged left to right": serial, day, old sheet, and 7 last
  pub serial-first : sheet_number (take 9 (behind (pos 4294967296) (pos 0))) ≡ 3
  pub day-missing : sheet_number (take 16 (behind (pos 0) (pos 65536))) ≡ 1
  pub trailing-byte : sheet_number (behind (pos 0) (pos 0) ++ 0 ∷ []) ≡ 7

pub new-edges : NewEdges
unfolding sheet_number new_number own_identity_number identity_number identity_at identity_bytes old_number sections_number cell_number temperature_number temperature_point_number linearity_number linearity_point_number system_number filter_number short_of wrong_count out_of_range not_below too_steep trailing
    figures_of cell_at temperature_at temperature_point_at linearity_at linearity_point_at system_at filter_at figure_at signed_of
    sheet_bytes cell_bytes temperature_bytes linearity_bytes system_bytes filter_bytes temperature_point_bytes linearity_point_bytes figure_bytes default_sheet
new-edges = record {
  identity = refl;
  two-and-two = refl;
  least = refl;
  most = refl;
  serial-over = refl;
  serial-under = refl;
  day-over = refl;
  day-under = refl;
  other-count = refl;
  no-old-sheet = refl;
  second-identity = refl;
  serial-first = refl;
  day-missing = refl;
  trailing-byte = refl;
}
