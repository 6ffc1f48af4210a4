-- The figures in force and the waiting copy, and what a frame makes of them (01, "The bus"; Change 1).
use Rattle.std.specs.Prelude.{Bool, cond, ℕ, eqb, Float, ℤ}
use Rattle.figures.specs.Unused.{unused_zero}
use Rattle.figures.specs.declared.Calibration.{Calibration}
use Rattle.sheet.specs.Judge.{figures_number}
use Rattle.binary32.specs.Received.{counted}
use Rattle.register.specs.Number.{SZ, APPLY, RST}
use Rattle.register.specs.Register.{range_of}
use Rattle.modbus.specs.Judgement.{Frame, Refused, Read, Write, Act}
use Rattle.panel.specs.Figure.{is_figure, written}
use Rattle.in_force.specs.declared.Setup.{Setup}

-- "SZ as last written"
abbrev pub with_zero : Calibration → ℤ → Calibration
with_zero c z = record {
  cell = c.cell;
  temperature = c.temperature;
  linearity = c.linearity;
  system = record { sofs = c.system.sofs; sgai = c.system.sgai; smin = c.system.smin; smax = c.system.smax; sz = z };
  filter = c.filter;
}

-- "SZ takes ±32,000, rounded to a step by the rule above"
abbrev pub zero_steps : Float → ℤ
zero_steps x = counted (range_of SZ) x

abbrev pub with_figures : Setup → Calibration → Setup
with_figures s c = record { figures = c; copy = s.copy; station = s.station }

abbrev pub with_copy : Setup → Calibration → Setup
with_copy s c = record { figures = s.figures; copy = c; station = s.station }

-- the copy as it would be in force beside an SZ: "points past the count are ignored. SZ stays as it is"
abbrev pub offered : ℤ → Calibration → Calibration
offered sz copy = with_zero (unused_zero copy) sz

-- "if a sheet with these figures would be accepted"
abbrev pub accepted : Calibration → Bool
accepted c = eqb (figures_number c) 0

unfoldable pub copy_fits : Setup → Bool
copy_fits s = accepted (offered s.figures.system.sz s.copy)

-- "A write to our own register 99 puts the copy in force from the next reading"; 17 changes nothing, and the copy stays as written
unfoldable pub applied : Setup → Setup
applied s = cond (copy_fits s) (with_figures s (offered s.figures.system.sz s.copy)) s

-- a written SZ is in force at once; of all other figures "Writes go to a waiting copy"
unfoldable pub setup_written : Setup → ℕ → Float → Setup
setup_written s r x =
    cond (eqb r SZ) (with_figures s (with_zero s.figures (zero_steps x)))
    (cond (is_figure r) (with_copy s (written s.copy r x))
    s)

-- "RST sets the copy back to the figures in force, unused points to 0", and keeps those in force
unfoldable pub setup_acted : Setup → ℕ → Setup
setup_acted s r = cond (eqb r APPLY) (applied s) (cond (eqb r RST) (with_copy s (unused_zero s.figures)) s)

-- what a frame makes of them. The log uses it too.
unfoldable pub setup_by : Setup → Frame → Setup
setup_by s (Refused n) = s
setup_by s (Read r) = s
setup_by s (Write r x) = setup_written s r x
setup_by s (Act r) = setup_acted s r
