-- Nothing here is vacuous: the default sheet makes a device, and a history of five calls reaches one with a reading, a latched
-- overload, a snapshot, a changed SZ and a gain put in force; and a feed of two readings is one of Change 14. By computation. Assumes nothing.
use mathlib.Core.Path.{◌≡◌, refl, ap, subst}
use mathlib.Core.Bool.{true}
use mathlib.Core.List.{List, [], ◌∷◌}
use mathlib.Core.Logic.{inl}
use lib.IntN.{ℤ, pos}
use lib.Ieee.{of_bits}
use Rattle.arithmetic.specs.Round.{round_div, round_magnitude}
use Rattle.arithmetic.specs.Table.{between, interpolated}
use Rattle.figures.specs.Default.{default_sheet}
use Rattle.figures.specs.Rows.{linearities, temperatures}
use Rattle.sheet.specs.Write.{sheet_bytes}
use Rattle.sheet.proofs.Edges.{default-read}
use Rattle.compensation.specs.Hold.{hold}
use Rattle.compensation.specs.Filter.{filtered}
use Rattle.compensation.specs.Reading.{scaled, y, raw_cell, craw, cell, raw_system, sraw, sys}
use Rattle.compensation.specs.Stat.{bit_at, Raised, crawor, stat_of}
use Rattle.compensation.specs.Values.{values_of}
use Rattle.compensation.specs.Monotone.{NoneBelow}
use Rattle.binary32.specs.Received.{takes, nearest, counted}
use Rattle.figures.specs.Unused.{unused_zero}
use Rattle.checksum.specs.Checksum.{shifted, shifts, with_byte}
use Rattle.register.specs.Register.{access_of, range_of}
use Rattle.modbus.specs.Frame.{checked, to_us, for_us, access_asked, write_of, write_asked, judged}
use Rattle.state.specs.Reading as reading
use Rattle.state.specs.Reading.{outside, bad_reading, larger, smaller, peak_after, trof_after, readings_after}
use Rattle.panel.specs.Figure.{is_figure, written, cell_with, temperature_point_with, temperature_with, linearity_point_with, linearity_with, system_with, filter_with, with_figure}
use Rattle.sheet.specs.Judge.{short_of, wrong_count, out_of_range, not_below, too_steep, cell_number, temperature_number, temperature_point_number, linearity_number, linearity_point_number, system_number, filter_number, sections_number, figures_number}
use Rattle.in_force.specs.InForce.{copy_fits, applied, setup_written, setup_acted, setup_by}
use Rattle.state.specs.Request.{fresh, restarted, snapped, acted, flagged, state_by}
use Rattle.converter.specs.Making.{station_fits, started, made}
use Rattle.converter.specs.Call as call
use Rattle.converter.specs.Call.{Call, after_call, run}
use Rattle.converter.specs.Reached.{Reached}
use Rattle.converter.specs.declared.Device.{Device}
use Rattle.converter.specs.Monotone.{LastReading, FilterOff}
use Rattle.converter.specs.declared.Outcome.{Outcome}
use Rattle.converter.proofs.Reached.{reached-made, reached-run}
use Rattle.converter.proofs.Monotone.{more-load}

-- the default figures, at station 52
abbrev start : Device
start = started (record { figures = default_sheet; copy = default_sheet; station = 52 })

pub default-made : made (sheet_bytes default_sheet) 52 ≡ record { number = 0; device = start }
unfolding made station_fits unused_zero default_sheet
default-made = rw default-read

start-reached : Reached start
start-reached = subst Reached (ap (λ (r : Outcome). r.device) default-made) (reached-made (sheet_bytes default_sheet) 52 (ap (λ (r : Outcome). r.number) default-made))

-- ELEC 9,830,401, one step above the range of 150; SNAP; SZ 10.0; CGAI 2.0 to the copy; 99
abbrev calls : List Call
calls =
    call.reading (pos 9830401) (pos 0) 0
    ∷ call.frame (0x34 ∷ 0x10 ∷ 0x00 ∷ 0xCE ∷ 0x00 ∷ 0x02 ∷ 0x04 ∷ 0x00 ∷ 0x00 ∷ 0x00 ∷ 0x00 ∷ 0x90 ∷ 0xBF ∷ []) 9
    ∷ call.frame (0x34 ∷ 0x10 ∷ 0x00 ∷ 0x2C ∷ 0x00 ∷ 0x02 ∷ 0x04 ∷ 0x00 ∷ 0x00 ∷ 0x41 ∷ 0x20 ∷ 0x2E ∷ 0xA6 ∷ []) 9
    ∷ call.frame (0x34 ∷ 0x10 ∷ 0x00 ∷ 0x50 ∷ 0x00 ∷ 0x02 ∷ 0x04 ∷ 0x00 ∷ 0x00 ∷ 0x40 ∷ 0x00 ∷ 0x29 ∷ 0x9F ∷ []) 9
    ∷ call.frame (0x34 ∷ 0x10 ∷ 0x00 ∷ 0xC6 ∷ 0x00 ∷ 0x02 ∷ 0x04 ∷ 0x00 ∷ 0x00 ∷ 0x00 ∷ 0x00 ∷ 0x91 ∷ 0x19 ∷ []) 9
    ∷ []

-- RST
abbrev rst : Call
rst = call.frame (0x34 ∷ 0x10 ∷ 0x00 ∷ 0xC8 ∷ 0x00 ∷ 0x02 ∷ 0x04 ∷ 0x00 ∷ 0x00 ∷ 0x00 ∷ 0x00 ∷ 0x10 ∷ 0x95 ∷ []) 9

pub record Example (d : Device) : Type 0 where
  pub reached : Reached d
  pub reading : d.state.readings.any ≡ true
  pub overload : Raised crawor d.state.flag
  pub held : d.state.readings.values.craw ≡ pos 9830400
  pub snapshot : d.state.snapshot.taken ≡ true
  pub sysn : d.state.snapshot.sysn ≡ pos 9830400
  pub sz : d.setup.figures.system.sz ≡ pos 655360
  pub cgai : d.setup.figures.cell.cgai ≡ pos 536870912
  -- an overload that outlives RST: 32768 (REBOOT), 128 (CRAWOR), 32 (ECOMOR)
  pub after-rst : (after_call d rst).state.flag ≡ 32928

pub example : Example (run start calls)
unfolding round_div round_magnitude between interpolated default_sheet temperatures linearities hold filtered scaled y raw_cell craw cell raw_system sraw sys bit_at stat_of values_of takes nearest counted
    range_of of_bits shifted shifts with_byte access_of checked to_us for_us access_asked write_of write_asked judged outside bad_reading larger smaller peak_after trof_after readings_after reading.state_after_values reading.state_after_reading unused_zero is_figure written cell_with
    temperature_point_with temperature_with linearity_point_with linearity_with system_with filter_with with_figure short_of wrong_count out_of_range not_below too_steep cell_number temperature_number temperature_point_number linearity_number
    linearity_point_number system_number filter_number sections_number figures_number copy_fits applied setup_written setup_acted setup_by fresh restarted snapped acted flagged state_by
example = record {
  reached = reached-run start-reached calls;
  reading = refl;
  overload = refl;
  held = refl;
  snapshot = refl;
  sysn = refl;
  sz = refl;
  cgai = refl;
  after-rst = refl;
}

-- ---- 60 % and 61 %, at 20 °C

abbrev after : ℤ → Device
after elec = after_call start (call.reading elec (pos 1310720) 0)

pub record Feed : Type 0 where
  pub gains : NoneBelow default_sheet
  pub filter : FilterOff default_sheet
  pub first : LastReading (after (pos 3932160)) default_sheet (pos 3932160) (pos 1310720)
  pub second : LastReading (after (pos 3997696)) default_sheet (pos 3997696) (pos 1310720)
  -- SYS 60, then 61
  pub first-sys : (after (pos 3932160)).state.readings.values.sys ≡ pos 3932160
  pub second-sys : (after (pos 3997696)).state.readings.values.sys ≡ pos 3997696

pub feed : Feed
unfolding round_div round_magnitude between interpolated default_sheet temperatures linearities hold filtered scaled y raw_cell craw cell raw_system sraw sys values_of outside bad_reading readings_after reading.state_after_values
    reading.state_after_reading fresh
feed = record {
  gains = record { cgai = record { le = tt }; sgai = record { le = tt } };
  filter = inl refl;
  first = (more-load.becomes_last start start-reached).by_temp (pos 3932160) (pos 1310720) 0 refl;
  second = (more-load.becomes_last start start-reached).by_temp (pos 3997696) (pos 1310720) 0 refl;
  first-sys = refl;
  second-sys = refl;
}
