-- What a reading may be given (01, "Turned-down calls"), 9: "ELEC beyond ±19,660,800, TEMP beyond ±13,107,200"; so the held value of
-- the filter stays within the first.
use Rattle.std.specs.Prelude.{ℕ}

abbrev pub elec_most : ℕ
elec_most = 19660800

abbrev pub temp_most : ℕ
temp_most = 13107200
