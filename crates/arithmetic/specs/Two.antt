-- Two columns of one table at once, as the code answers them.
use Rattle.std.specs.Prelude.{List, ℤ}
use Rattle.arithmetic.specs.Table.{Point, interpolated}
use Rattle.arithmetic.specs.declared.interpolation.Two.{Two}

abbrev pub interpolated_two : List Point → ℤ → Two
interpolated_two table t = record { first = interpolated 1 table t; second = interpolated 2 table t }
