-- The forms once more, as properties (02, Change 6). `sheet_number`, `read_sheet` and `contents_of` of `Forms.antt` have them for every
-- sheet (proofs/BothForms.antt).
use Rattle.std.specs.Prelude.{◌≡◌, ℕ, ◌<◌, ◌≤◌, List, [], ◌∷◌, length, take, drop, ℤ, pos, ◌≤ℤ◌, ◌≢◌}
use Rattle.integers.specs.Bytes.{word_of, signed_of}
use Rattle.sheet.specs.Read.{figures_of, old_number, no_figures, read_old}
use Rattle.sheet.specs.Forms.{sheet_number, read_sheet, contents_of}
use Rattle.sheet.specs.declared.Identity.{Identity}

-- "serial 0 to 4,294,967,295 and day 0 to 65,535"
pub record Serial (v : ℤ) : Type 0 where
  pub least : pos 0 ≤ℤ v
  pub most : v ≤ℤ pos 4294967295

pub record Day (v : ℤ) : Type 0 where
  pub least : pos 0 ≤ℤ v
  pub most : v ≤ℤ pos 65535

pub record InRange (i : Identity) : Type 0 where
  pub serial : Serial i.serial
  pub day : Day i.day

-- "both 8-byte figures", behind the count, `rest` being all that stands there
abbrev pub serial_of : List ℕ → ℤ
serial_of rest = signed_of 64 (word_of (take 8 rest))

abbrev pub day_of : List ℕ → ℤ
day_of rest = signed_of 64 (word_of (take 8 (drop 8 rest)))

pub record BothForms : Type 0 where
  -- "A first count of 4 marks the old sheet."
  pub old : (rest : List ℕ) → sheet_number (4 ∷ rest) ≡ old_number (4 ∷ rest)
  pub old_read : (rest : List ℕ) → read_sheet (4 ∷ rest) ≡ read_old (4 ∷ rest)
  -- 1 "it ends before a count or figure that is due"; "any other first count is 2"
  pub nothing : sheet_number [] ≡ 1
  pub other : (count : ℕ) (rest : List ℕ) → (count ≢ 2) → (count ≢ 4) → sheet_number (count ∷ rest) ≡ 2
  -- "for each figure 1, then 3": serial, then day; "a figure outside these ranges is 3"
  pub no_serial : (rest : List ℕ) → length rest < 8 → sheet_number (2 ∷ rest) ≡ 1
  pub bad_serial : (rest : List ℕ) → 8 ≤ length rest → (Serial (serial_of rest) → ⊥) → sheet_number (2 ∷ rest) ≡ 3
  pub no_day : (rest : List ℕ) → 8 ≤ length rest → Serial (serial_of rest) → length rest < 16 → sheet_number (2 ∷ rest) ≡ 1
  pub bad_day : (rest : List ℕ) → Serial (serial_of rest) → 16 ≤ length rest → (Day (day_of rest) → ⊥) → sheet_number (2 ∷ rest) ≡ 3
  -- only then the old sheet behind them: "Both are read and give the same device"
  pub behind : (rest : List ℕ) → Serial (serial_of rest) → Day (day_of rest) → 16 ≤ length rest → read_sheet (2 ∷ rest) ≡ read_old (drop 16 rest)
  pub reads_number : (s : List ℕ) → (read_sheet s).number ≡ sheet_number s
  -- what is told beside the figures: an old sheet has no identity
  pub told : (s : List ℕ) → (contents_of s).number ≡ (read_sheet s).number
  pub told_figures : (s : List ℕ) → (contents_of s).figures ≡ (read_sheet s).figures
  pub told_old : (rest : List ℕ) → sheet_number (4 ∷ rest) ≡ 0 → ((contents_of (4 ∷ rest)).form ≡ 4) × ((contents_of (4 ∷ rest)).identity ≡ record { serial = pos 0; day = pos 0 })
  pub told_new : (rest : List ℕ) → sheet_number (2 ∷ rest) ≡ 0 → ((contents_of (2 ∷ rest)).form ≡ 2) × ((contents_of (2 ∷ rest)).identity ≡ record { serial = serial_of rest; day = day_of rest })
  -- "Beside a refusal each value .. is 0"
  pub refused_figures : (s : List ℕ) → (sheet_number s ≢ 0) → (contents_of s).figures ≡ no_figures
  -- where nothing stands, every figure is 0
  pub figures_of_none : no_figures ≡ figures_of []
  pub refused_form : (s : List ℕ) → (sheet_number s ≢ 0) → (contents_of s).form ≡ 0
  pub refused_identity : (s : List ℕ) → (sheet_number s ≢ 0) → (contents_of s).identity ≡ record { serial = pos 0; day = pos 0 }
