-- Demand 3, one claim about the whole list of calls: the device that comes of it agrees with the log.
use Rattle.std.specs.Prelude.{◌≡◌, true, false, ◌↔◌, ℕ, T, Float, ℤ, ◌≤ℤ◌}
use mathlib.Core.List.{List, [], ◌∷◌, ◌++◌, Memᴰ}
use Rattle.std.proofs.Math.Option.{Option, none, some}
use Rattle.std.specs.Float.{binary32}
use Rattle.std.specs.Float.Ieee.{fits}
use Rattle.compensation.specs.Stat.{Raised}
use Rattle.compensation.specs.Faithful.{Faithful}
use Rattle.binary32.specs.Sent.{step_float, whole_float}
use Rattle.register.specs.Listed.{kind_said, not_listed}
use Rattle.panel.specs.Figure.{is_figure, figure_float}
use Rattle.state.specs.Report.{no_report, report_of}
use Rattle.state.specs.declared.Readings.{Readings}
use Rattle.converter.specs.declared.Device.{Device}
use Rattle.converter.specs.Making.{made}
use Rattle.converter.specs.Call.{Call, run}
use Rattle.converter.specs.Wire.{Sends, Withholds, WritesHeeded}
use Rattle.converter.specs.Snapshot.{sysn_of}
use Rattle.converter.specs.Log.{Kept, valued, Entry, joined, peak_was_reset, Event, raised, kept, Log, latest, log_of}

-- ---- FLAG: "A bit is set (latched) exactly when raised since its last clearing."

-- the events fall into later ones, a raising of bit b, and earlier ones; no later one clears it
pub record RaisedSince (b : ℕ) (events : List Event) : Type 0 where
  pub later : List Event
  pub bits : ℕ
  pub earlier : List Event
  pub split : events ≡ later ++ (raised bits ∷ earlier)
  pub raises : Raised b bits
  pub uncleared : (m : ℕ) → Memᴰ (kept m) later → Raised b m

-- ---- PEAK and TROF: "the largest and smallest SYS since the first reading after a start or RST, or since a peak reset, which
-- sets both to the present SYS"

abbrev pub present_sys : Option Kept → List ℤ
present_sys none = []
present_sys (some k) = (valued k).sys ∷ []

abbrev pub sys_since : List Entry → List ℤ
sys_since [] = []
sys_since (joined k ∷ es) = (valued k).sys ∷ sys_since es
sys_since (peak_was_reset ∷ es) = present_sys (latest es)

pub record Largest (p : ℤ) (xs : List ℤ) : Type 0 where
  pub among : Memᴰ p xs
  pub bound : (x : ℤ) → Memᴰ x xs → x ≤ℤ p

pub record Smallest (p : ℤ) (xs : List ℤ) : Type 0 where
  pub among : Memᴰ p xs
  pub bound : (x : ℤ) → Memᴰ x xs → p ≤ℤ x

-- ---- once a reading is kept, and k is the last one

pub record Right (r : Readings) (entries : List Entry) (k : Kept) : Type 0 where
  pub present : r.any ≡ true
  -- its input, unfiltered and filtered, and its values by steps 1 to 5
  pub input_is : r.input ≡ k.input
  pub elec_is : r.elec ≡ k.elec
  pub temp_is : r.temp ≡ k.temp
  pub values_are : r.values ≡ valued k
  -- 42, 52, 416 and 416 steps from exact compensation, by the figures in force at that reading; the range flags
  pub faithful : Faithful k.figures k.elec k.temp k.integrity r.values
  pub peak : Largest r.peak (sys_since entries)
  pub trof : Smallest r.trof (sys_since entries)

-- ---- "An accepted read or report of such a value gives its float.": by the master's own bytes, and the paper's numbers alone, "STAT 6,
-- SOUT 9 and SYS 10 (equal), TEMP 11, SRAW 12, CELL 13, FLAG 14, CRAW 15, ELEC 16, SZ 22, SYSN 23, PEAK 24, TROF 25, RST 100, SNAP 103,
-- peak reset 104", "our own register 99" (Change 1)

-- 11: "SYSN read with none taken"
abbrev pub SysnShown : Device → Option ℤ → Type 0
SysnShown d none = Withholds d 23 11
SysnShown d (some sysn) = Sends d 23 (step_float sysn)

-- at all times: FLAG, the SZ in force, SYSN where one was taken, the copy that the log keeps, and 0.0 for the actions
pub record AlwaysShown (d : Device) (l : Log) (snapshot : Option ℤ) : Type 0 where
  pub flag : Sends d 14 (whole_float d.state.flag)
  pub sz : Sends d 22 (step_float l.setup.figures.system.sz)
  pub sysn : SysnShown d snapshot
  -- "Reads show that copy at all times"
  pub copy : (n : ℕ) → is_figure n ≡ true → Sends d n (figure_float l.setup.copy n)
  pub apply : Sends d 99 (whole_float 0)
  pub rst : Sends d 100 (whole_float 0)
  pub snap : Sends d 103 (whole_float 0)
  pub peak_reset : Sends d 104 (whole_float 0)
  -- 15: "not twice a listed register"
  pub unlisted : (n : ℕ) → kind_said n ≡ not_listed → Withholds d n 15

-- 10: "a reading's value .., report, .. before the first reading since start or RST"
abbrev pub of_reading : List ℕ
of_reading = 6 ∷ 9 ∷ 10 ∷ 11 ∷ 12 ∷ 13 ∷ 15 ∷ 16 ∷ 24 ∷ 25 ∷ []

pub record NoneShown (d : Device) : Type 0 where
  pub values : (n : ℕ) → Memᴰ n of_reading → Withholds d n 10
  pub report : report_of d.state.readings ≡ record { number = 10; report = no_report }

-- once a reading is kept, and k is the last one
pub record Shown (d : Device) (k : Kept) : Type 0 where
  pub stat : Sends d 6 (whole_float (valued k).stat)
  pub sout : Sends d 9 (step_float (valued k).sys)
  pub sys : Sends d 10 (step_float (valued k).sys)
  pub temp : Sends d 11 (step_float k.temp)
  pub sraw : Sends d 12 (step_float (valued k).sraw)
  pub cell : Sends d 13 (step_float (valued k).cell)
  pub craw : Sends d 15 (step_float (valued k).craw)
  pub elec : Sends d 16 (step_float k.elec)
  pub peak : Sends d 24 (step_float d.state.readings.peak)
  pub trof : Sends d 25 (step_float d.state.readings.trof)
  pub report : report_of d.state.readings ≡ record {
    number = 0;
    report = record { sys = step_float (valued k).sys; peak = step_float d.state.readings.peak; trof = step_float d.state.readings.trof; cell = step_float (valued k).cell };
  }

-- ---- the device beside the log

pub record Agrees (d : Device) (station : ℕ) (l : Log) (snapshot : Option ℤ) : Type 0 where
  pub station_is : d.setup.station ≡ station
  -- the figures in force, and the waiting copy
  pub in_force : d.setup ≡ l.setup
  -- FLAG, at all times
  pub latched : (b : ℕ) → Raised b d.state.flag ↔ RaisedSince b l.events
  pub always_shown : AlwaysShown d l snapshot
  -- there is a reading exactly when the log keeps one
  pub none_kept : latest l.readings ≡ none → (d.state.readings.any ≡ false) × NoneShown d
  pub last_kept : (k : Kept) → latest l.readings ≡ some k → Right d.state.readings l.readings k × Shown d k
  -- and what is written, of every float that an f32 can be
  pub writes_heeded : (x : Float) → T (fits binary32 x) → WritesHeeded d x

-- from sheet bytes and a station that a making accepts, for every list of calls, refused ones included
abbrev pub History : Type 0
History = (sheet : List ℕ) (station : ℕ) → (made sheet station).number ≡ 0 → (calls : List Call)
    → Agrees (run (made sheet station).device calls) station (log_of sheet station calls) (sysn_of sheet station calls)
