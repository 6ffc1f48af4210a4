-- The starred cases hold, by computation. Assumes nothing.
use mathlib.Core.Path.{refl}
use lib.Ieee.{to_bits, of_bits}
use Rattle.integers.specs.Bytes.{signed_of}
use Rattle.arithmetic.specs.Round.{round_div, round_magnitude}
use Rattle.arithmetic.specs.Table.{between, interpolated}
use Rattle.figures.specs.Default.{default_sheet}
use Rattle.figures.specs.Rows.{linearities, temperatures}
use Rattle.sheet.specs.Bytes.{figure_at, figure_bytes}
use Rattle.sheet.specs.Judge.{short_of, wrong_count, out_of_range, not_below, too_steep, trailing, cell_number, temperature_point_number, temperature_number, linearity_point_number, linearity_number, system_number, filter_number, sections_number}
use Rattle.sheet.specs.Read.{cell_at, temperature_point_at, linearity_point_at, temperature_at, linearity_at, system_at, filter_at, figures_of, old_number}
use Rattle.sheet.specs.Forms.{sheet_number}
use Rattle.sheet.specs.Write.{cell_bytes, temperature_point_bytes, linearity_point_bytes, temperature_bytes, linearity_bytes, system_bytes, filter_bytes, sheet_bytes}
use Rattle.compensation.specs.Hold.{hold}
use Rattle.compensation.specs.Filter.{filtered}
use Rattle.compensation.specs.Reading.{scaled, y, raw_cell, craw, cell, raw_system}
use Rattle.compensation.specs.Stat.{bit_at, stat_of}
use Rattle.probe.specs.Platinum.{formula, entry}
use Rattle.binary32.specs.Sent.{count_float}
use Rattle.binary32.specs.Received.{takes, nearest, counted}
use Rattle.register.specs.Register.{access_of, range_of}
use Rattle.converter.specs.Starred.{Starred}

pub starred-hold : Starred
unfolding formula entry round_div round_magnitude between interpolated default_sheet temperatures linearities hold filtered scaled y raw_cell craw cell raw_system bit_at stat_of to_bits of_bits count_float takes nearest counted access_of range_of
    sheet_number old_number sections_number cell_number temperature_number temperature_point_number linearity_number linearity_point_number system_number filter_number short_of wrong_count out_of_range not_below too_steep trailing figures_of cell_at temperature_at
    temperature_point_at linearity_at linearity_point_at system_at filter_at figure_at signed_of sheet_bytes cell_bytes temperature_bytes linearity_bytes system_bytes filter_bytes temperature_point_bytes linearity_point_bytes figure_bytes
starred-hold = record { hold = refl; all = refl }
