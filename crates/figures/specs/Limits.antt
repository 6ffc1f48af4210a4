-- The largest magnitude of each figure (01, the table of "The calibration sheet"), in steps; gains and gain adjustments in
-- 1/2^28; FFST plain.
use Rattle.std.specs.Prelude.{ℕ, ◌^◌}

-- 1 as a gain
abbrev pub unit : ℕ
unit = 2 ^ 28

abbrev pub cofs_most : ℕ
cofs_most = 19660800

abbrev pub cgai_most : ℕ
cgai_most = 2 ^ 34

-- CMIN, CMAX
abbrev pub cell_most : ℕ
cell_most = 2097152000

abbrev pub ct_most : ℕ
ct_most = 13107200

abbrev pub cto_most : ℕ
cto_most = 1310720

abbrev pub ctg_most : ℕ
ctg_most = 26843545

abbrev pub clx_most : ℕ
clx_most = 2097152000

abbrev pub clk_most : ℕ
clk_most = 65536000

abbrev pub sofs_most : ℕ
sofs_most = 2097152000

abbrev pub sgai_most : ℕ
sgai_most = 2 ^ 31

-- SMIN, SMAX
abbrev pub system_most : ℕ
system_most = 2097152000

abbrev pub sz_most : ℕ
sz_most = 2097152000

abbrev pub fflv_most : ℕ
fflv_most = 39321600

abbrev pub ffst_most : ℕ
ffst_most = 1000
