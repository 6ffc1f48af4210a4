-- Change 7, "Flags that outlive a reset": "Site engineers reset a cell before they look at it, and the overload warning is gone. .. RST
-- shall now add REBOOT to FLAG and clear nothing; only a write to FLAG clears." FLAG by the calls, their numbers and their bytes: without
-- the log, and without `reboot` and `flag_whole`, which device and log share.
use Rattle.std.specs.Prelude.{◌≡◌, List, [], ◌∷◌, ◌↔◌, ◌⊎◌, ℕ, ◌*◌, Float, ℤ, pos, ◌*ℤ◌}
use Rattle.compensation.specs.Stat.{Raised}
use Rattle.binary32.specs.Received.{exact}
use Rattle.modbus.specs.Frame.{word_at, function_of, value_of}
use Rattle.state.specs.declared.Readings.{Readings}
use Rattle.converter.specs.declared.Device.{Device}
use Rattle.converter.specs.declared.corner.Samples.{Samples}
use Rattle.converter.specs.Corner.{Corner}
use Rattle.converter.specs.Making.{made}
use Rattle.converter.specs.Call.{Call, reading, frame, report, corner, probe, after_call, run, number}
use Rattle.converter.specs.Reached.{Reached}
use Rattle.converter.specs.Wire.{Sends, Withholds}
use Rattle.converter.specs.History.{NoneShown}

-- ---- which call raises bit b, and which clears it

-- an accepted write to register n, by its bytes: function 16, and "Wire address = 2 × register number"
pub record AcceptedWrite (n : ℕ) (d : Device) (bytes : List ℕ) (room : ℕ) : Type 0 where
  pub accepted : number d (frame bytes room) ≡ 0
  pub function : function_of bytes ≡ 16
  pub address : word_at bytes 2 ≡ 2 * n

-- an accepted reading whose STAT has bit b: "A reading raises its STAT bits in FLAG"
abbrev pub ReadingRaises : ℕ → Device → Call → Type 0
ReadingRaises b d c = (number d c ≡ 0) × Raised b (after_call d c).state.readings.values.stat

-- "RST shall now add REBOOT to FLAG": RST is 100, REBOOT 32768, which is bit 15
abbrev pub Raises : ℕ → Device → Call → Type 0
Raises b d (reading elec temp integrity) = ReadingRaises b d (reading elec temp integrity)
Raises b d (frame bytes room) = AcceptedWrite 100 d bytes room × (b ≡ 15)
Raises b d report = ⊥
Raises b d (corner own samples) = ReadingRaises b d (corner own samples)
Raises b d (probe elec resistance integrity) = ReadingRaises b d (probe elec resistance integrity)

-- a write to FLAG, which is 14, of a whole number that lacks the bit
pub record Lacks (b : ℕ) (d : Device) (bytes : List ℕ) (room : ℕ) : Type 0 where
  pub write : AcceptedWrite 14 d bytes room
  pub whole : ℕ
  pub is : (exact (value_of bytes)).top ≡ pos whole *ℤ (exact (value_of bytes)).low
  pub without : Raised b whole → ⊥

-- "only a write to FLAG clears"
abbrev pub Clears : ℕ → Device → Call → Type 0
Clears b d (reading elec temp integrity) = ⊥
Clears b d (frame bytes room) = Lacks b d bytes room
Clears b d report = ⊥
Clears b d (corner own samples) = ⊥
Clears b d (probe elec resistance integrity) = ⊥

-- so every bit, at every call
pub record BitBy (d : Device) (c : Call) (b : ℕ) : Type 0 where
  pub raised : (Raised b d.state.flag → ⊥) → Raised b (after_call d c).state.flag ↔ Raises b d c
  pub cleared : Raised b d.state.flag → (Raised b (after_call d c).state.flag → ⊥) ↔ Clears b d c

-- ---- "A flag's history then runs back to the start or to the last write that lacked its bit, past all resets."

-- none of the calls clears bit b
abbrev pub Uncleared : ℕ → Device → List Call → Type 0
Uncleared b d [] = Unit
Uncleared b d (c ∷ calls) = (Clears b d c → ⊥) × Uncleared b (after_call d c) calls

-- one of them raises it, and none after that one clears it
abbrev pub RaisedAmong : ℕ → Device → List Call → Type 0
RaisedAmong b d [] = ⊥
RaisedAmong b d (c ∷ calls) = (Raises b d c × Uncleared b (after_call d c) calls) ⊎ RaisedAmong b (after_call d c) calls

-- from a start, which raises REBOOT
abbrev pub StillRaised : ℕ → Device → List Call → Type 0
StillRaised b d calls = ((b ≡ 15) × Uncleared b d calls) ⊎ RaisedAmong b d calls

-- ---- FLAG as a master reads it: "STAT and FLAG go as floats of their whole numbers."

-- the bytes are of a float whose exact value is n
pub record FlagRead (d : Device) (n : ℕ) : Type 0 where
  pub value : Float
  pub sent : Sends d 14 value
  pub is : (exact value).top ≡ pos n *ℤ (exact value).low

pub record Warns (b : ℕ) (d : Device) : Type 0 where
  pub flag : ℕ
  pub read : FlagRead d flag
  pub raised : Raised b flag

-- ---- "PEAK and TROF still begin anew"

-- a first reading: "the first reading: held value = input"
pub record First (r : Readings) : Type 0 where
  pub held : r.elec ≡ r.input
  pub peak : r.peak ≡ r.values.sys
  pub trof : r.trof ≡ r.values.sys

-- no value, no report and no SYSN; the figures stay; and a reading that comes next is a first one
pub record Anew (before after : Device) : Type 0 where
  pub values : NoneShown after
  pub sysn : Withholds after 23 11
  pub figures : after.setup.figures ≡ before.setup.figures
  pub next : (elec temp : ℤ) (integrity : ℕ) → number after (reading elec temp integrity) ≡ 0 → First (after_call after (reading elec temp integrity)).state.readings
  pub next_corner : (own : Corner) (samples : Samples) → number after (corner own samples) ≡ 0 → First (after_call after (corner own samples)).state.readings
  pub next_probe : (elec resistance : ℤ) (integrity : ℕ) → number after (probe elec resistance integrity) ≡ 0 → First (after_call after (probe elec resistance integrity)).state.readings

-- ---- all of it

pub record Outlives : Type 0 where
  pub read : (d : Device) → Reached d → FlagRead d d.state.flag
  -- "a start .. clears all, then raises 32768 (REBOOT)"
  pub start : (sheet : List ℕ) (station : ℕ) → (made sheet station).number ≡ 0 → FlagRead (made sheet station).device 32768
  pub bits : (d : Device) (c : Call) (b : ℕ) → BitBy d c b
  pub exactly : (sheet : List ℕ) (station : ℕ) → (made sheet station).number ≡ 0 → (calls : List Call) (b : ℕ)
      → Raised b (run (made sheet station).device calls).state.flag ↔ StillRaised b (made sheet station).device calls
  -- the site engineer's: what was raised at any time is read, after any calls, RST included, until a write to FLAG that lacks it
  pub warned : (sheet : List ℕ) (station : ℕ) → (made sheet station).number ≡ 0 → (calls : List Call) (b : ℕ)
      → StillRaised b (made sheet station).device calls → Warns b (run (made sheet station).device calls)
  pub reset : (d : Device) → Reached d → (bytes : List ℕ) (room : ℕ) → AcceptedWrite 100 d bytes room → Anew d (after_call d (frame bytes room))
