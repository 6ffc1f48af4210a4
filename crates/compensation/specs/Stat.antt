-- STAT (01, "The reading"): the bits of a reading, judged on the raw values, before they are held and before SZ is taken off.
-- "A value equal to a limit raises nothing."
use Rattle.std.specs.Prelude.{◌≡◌, Bool, cond, ℕ, ◌/◌, ◌%◌, ◌^◌, eqb, ℤ, pos, neg_ℤ}
use Rattle.std.specs.Int.Bits.{bit_or}
use Rattle.std.specs.Int.Signed.{lt_z}
use Rattle.figures.specs.declared.Calibration.{Calibration}
use Rattle.figures.specs.declared.Cell.{Cell}
use Rattle.figures.specs.declared.System.{System}
use Rattle.compensation.specs.Reading.{raw_cell, raw_system}

-- ---- flags are bits of a number

-- bit b of n, 0 or 1
unfoldable pub bit_at : ℕ → ℕ → ℕ
bit_at b n = n / 2 ^ b % 2

abbrev pub Raised : ℕ → ℕ → Type 0
Raised b n = bit_at b n ≡ 1

-- a flag's weight where its test holds, else 0
abbrev pub weigh : Bool → ℕ → ℕ
weigh test weight = cond test weight 0

-- ---- which bit is which

abbrev pub tempur : ℕ
tempur = 2

abbrev pub tempor : ℕ
tempor = 3

abbrev pub ecomur : ℕ
ecomur = 4

abbrev pub ecomor : ℕ
ecomor = 5

abbrev pub crawur : ℕ
crawur = 6

abbrev pub crawor : ℕ
crawor = 7

abbrev pub sysur : ℕ
sysur = 8

abbrev pub sysor : ℕ
sysor = 9

abbrev pub lcinteg : ℕ
lcinteg = 11

-- ---- "TEMPUR 4 (TEMP below −3,276,800), TEMPOR 8 (above 5,898,240), ECOMUR 16 and ECOMOR 32 (ELEC below −7,864,320, above
-- 7,864,320), CRAWUR 64 and CRAWOR 128 (raw cell beyond CMIN, CMAX), SYSUR 256 and SYSOR 512 (raw system beyond SMIN, SMAX),
-- LCINTEG 2048 (fault)"

-- TEMP's range, and ELEC's
abbrev pub temp_under : ℤ
temp_under = neg_ℤ (pos 3276800)

abbrev pub temp_over : ℤ
temp_over = pos 5898240

abbrev pub elec_under : ℤ
elec_under = neg_ℤ (pos 7864320)

abbrev pub elec_over : ℤ
elec_over = pos 7864320

-- a value below lo, or above hi
abbrev pub range : ℤ → ℤ → ℤ → ℕ → ℕ → ℕ
range lo hi x under over = bit_or (weigh (lt_z x lo) under) (weigh (lt_z hi x) over)

unfoldable pub stat_of : Cell → System → ℤ → ℤ → ℤ → ℤ → ℕ → ℕ
stat_of c s elec temp cell system integrity =
    bit_or (range temp_under temp_over temp 4 8)
    (bit_or (range elec_under elec_over elec 16 32)
    (bit_or (range c.cmin c.cmax cell 64 128)
    (bit_or (range s.smin s.smax system 256 512)
    (weigh (eqb integrity 1) 2048))))

-- of a reading: ELEC as the filter holds it, TEMP, the raw cell and raw system values, and the integrity byte
abbrev pub stat : Calibration → ℤ → ℤ → ℕ → ℕ
stat c elec temp integrity = stat_of c.cell c.system elec temp (raw_cell c elec temp) (raw_system c elec temp) integrity
