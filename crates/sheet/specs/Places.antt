-- Where each section of a sheet starts (01, "The calibration sheet"), by the counts of points in its tables: "Five sections in this
-- order, each after a one-byte count; a figure is 8 bytes". The cell section starts at 0, in the new form (`Forms.antt`) behind the identity.
use Rattle.std.specs.Prelude.{ℕ, ◌+◌, ◌*◌}
use Rattle.figures.specs.declared.Calibration.{Calibration}

-- ---- how many bytes: a count and four figures, five, two; and a point, "three figures each" in the temperature table, CLX and CLK

abbrev pub cell_size : ℕ
cell_size = 1 + 4 * 8

abbrev pub system_size : ℕ
system_size = 1 + 5 * 8

abbrev pub filter_size : ℕ
filter_size = 1 + 2 * 8

abbrev pub temperature_point_size : ℕ
temperature_point_size = 3 * 8

abbrev pub linearity_point_size : ℕ
linearity_point_size = 2 * 8

-- ---- each section starts where the one before ends; a table is its count and its points

abbrev pub temperature_start : ℕ
temperature_start = cell_size

abbrev pub linearity_start : ℕ → ℕ
linearity_start ctn = temperature_start + 1 + temperature_point_size * ctn

abbrev pub system_start : ℕ → ℕ → ℕ
system_start ctn cln = linearity_start ctn + 1 + linearity_point_size * cln

abbrev pub filter_start : ℕ → ℕ → ℕ
filter_start ctn cln = system_start ctn cln + system_size

-- 93 + 24·CTN + 16·CLN
abbrev pub sheet_end : ℕ → ℕ → ℕ
sheet_end ctn cln = filter_start ctn cln + filter_size

-- the bytes that figures take
abbrev pub sheet_length : Calibration → ℕ
sheet_length c = sheet_end c.temperature.ctn c.linearity.cln

-- ---- the section in front of the new form's five (02, Change 6): a count and two figures

abbrev pub identity_size : ℕ
identity_size = 1 + 2 * 8
