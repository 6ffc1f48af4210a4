-- The default figures, and figures that all differ, write these bytes, by computation. Assumes nothing.
use Rattle.std.proofs.Common.{refl}
use Rattle.figures.specs.Default.{default_sheet}
use Rattle.sheet.specs.Bytes.{figure_bytes}
use Rattle.sheet.specs.Write.{cell_bytes, temperature_point_bytes, linearity_point_bytes, temperature_bytes, linearity_bytes, system_bytes, filter_bytes, sheet_bytes}
use Rattle.sheet.specs.DefaultBytes.{DefaultBytes, DifferingBytes}

pub default-bytes : DefaultBytes
unfolding default_sheet sheet_bytes cell_bytes temperature_bytes linearity_bytes system_bytes filter_bytes temperature_point_bytes linearity_point_bytes figure_bytes
default-bytes = refl

pub differing-bytes : DifferingBytes
unfolding sheet_bytes cell_bytes temperature_bytes linearity_bytes system_bytes filter_bytes temperature_point_bytes linearity_point_bytes figure_bytes
differing-bytes = refl
