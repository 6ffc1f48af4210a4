-- Steps 2 to 5 (01, "The reading"), in whole numbers: by the figures, from ELEC as the filter holds it, and TEMP.
use Rattle.std.specs.Prelude.{ℤ, pos, ◌+ℤ◌, ◌-ℤ◌, ◌*ℤ◌}
use Rattle.arithmetic.specs.Round.{round_div}
use Rattle.arithmetic.specs.Table.{interpolated}
use Rattle.figures.specs.Limits.{unit}
use Rattle.figures.specs.Rows.{linearities, temperatures}
use Rattle.figures.specs.declared.Calibration.{Calibration}
use Rattle.compensation.specs.Hold.{hold}

-- 1 as a gain: "Gains and gain adjustments count in 1/268,435,456 (2^28 parts to 1)."
abbrev pub one : ℤ
one = pos unit

-- x times a gain: round(x × gain ÷ 2^28)
unfoldable pub scaled : ℤ → ℤ → ℤ
scaled x gain = round_div (x *ℤ gain) one

module _ (c : Calibration) (elec temp : ℤ) where
  -- 2. "o and g are CTO and CTG interpolated at TEMP."
  abbrev pub o : ℤ
  o = interpolated 1 (temperatures c.temperature) temp

  abbrev pub g : ℤ
  g = interpolated 2 (temperatures c.temperature) temp

  -- 3. "y = round((ELEC − COFS − o) × CGAI ÷ 2^28). Raw cell = round(y × (2^28 + g) ÷ 2^28). CRAW is this held within CMIN and
  -- CMAX."
  unfoldable pub y : ℤ
  y = scaled (elec -ℤ c.cell.cofs -ℤ o) c.cell.cgai

  unfoldable pub raw_cell : ℤ
  raw_cell = scaled y (one +ℤ g)

  unfoldable pub craw : ℤ
  craw = hold c.cell.cmin c.cell.cmax raw_cell

  -- 4. "CELL = CRAW + CLK interpolated at CRAW over CLX (rule of step 2)."
  unfoldable pub cell : ℤ
  cell = craw +ℤ interpolated 1 (linearities c.linearity) craw

  -- 5. "Raw system = round((CELL − SOFS) × SGAI ÷ 2^28). SRAW is this held within SMIN and SMAX. SYS = SRAW − SZ."
  unfoldable pub raw_system : ℤ
  raw_system = scaled (cell -ℤ c.system.sofs) c.system.sgai

  unfoldable pub sraw : ℤ
  sraw = hold c.system.smin c.system.smax raw_system

  unfoldable pub sys : ℤ
  sys = sraw -ℤ c.system.sz
