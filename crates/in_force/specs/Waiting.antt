-- The waiting copy once more, Change 1's sentences one by one, by 004's numbers alone and by what the registers of figures show
-- (`figure_at`). `setup_by` of `InForce.antt`, which device and log share, has them (proofs/Waiting.antt).
use Rattle.std.specs.Prelude.{◌≡◌, true, false, List, [], ◌∷◌, ◌++◌, map, ◌↔◌, ℕ, ◌+◌, ◌<◌, Float, ℤ, pos, ◌≤ℤ◌, ◌<ℤ◌}
use Rattle.figures.specs.Acceptable.{Acceptable}
use Rattle.figures.specs.Representable.{Representable}
use Rattle.figures.specs.declared.Calibration.{Calibration}
use Rattle.binary32.specs.Received.{counted}
use Rattle.binary32.specs.Sent.{count_float}
use Rattle.register.specs.Listed.{from, is_in}
use Rattle.register.specs.Register.{range_of}
use Rattle.modbus.specs.Judgement.{Frame, Refused, Read, Write, Act}
use Rattle.panel.specs.Figure.{figure_at, figure_float}
use Rattle.panel.specs.Placed.{numbers}
use Rattle.in_force.specs.declared.Setup.{Setup}
use Rattle.in_force.specs.InForce.{offered, copy_fits, setup_by}

-- ---- "points past the count are ignored", "unused points to 0": c shows what d shows, and 0 at the points past d's count

-- a column: so many points from a register on, and the register that counts them
pub record Points (d c : Calibration) (first size count : ℕ) : Type 0 where
  pub before : (i : ℕ) → i < size → pos i <ℤ figure_at d count → figure_at c (first + i) ≡ figure_at d (first + i)
  pub past : (i : ℕ) → i < size → figure_at d count ≤ℤ pos i → figure_at c (first + i) ≡ pos 0

-- "CGAI 40, COFS 41, CMIN 44, CMAX 45, CLN 50, .. SGAI 70, SOFS 71, SMIN 74, SMAX 75, FFLV 92, FFST 93, CTN 110"
abbrev pub single : List ℕ
single = 40 ∷ 41 ∷ 44 ∷ 45 ∷ 50 ∷ 70 ∷ 71 ∷ 74 ∷ 75 ∷ 92 ∷ 93 ∷ 110 ∷ []

pub record Trimmed (d c : Calibration) : Type 0 where
  pub alone : map (figure_at c) single ≡ map (figure_at d) single
  -- "CLX 51 to 57, CLK 61 to 67", counted by CLN; "CT 111 to 115, CTG 116 to 120, CTO 121 to 125", by CTN
  pub clx : Points d c 51 7 50
  pub clk : Points d c 61 7 50
  pub ct : Points d c 111 5 110
  pub ctg : Points d c 116 5 110
  pub cto : Points d c 121 5 110

-- ---- what a frame makes of s

-- z in the copy, at its register alone
pub record Copied (s t : Setup) (n : ℕ) (z : ℤ) : Type 0 where
  pub shows : figure_at t.copy n ≡ z
  pub others : (m : ℕ) → (m ≡ n → ⊥) → figure_at t.copy m ≡ figure_at s.copy m
  pub in_force : t.figures ≡ s.figures

-- z as SZ, in force and nowhere else
pub record Zeroed (s t : Setup) (z : ℤ) : Type 0 where
  pub sz : t.figures.system.sz ≡ z
  pub others : (m : ℕ) → figure_at t.figures m ≡ figure_at s.figures m
  pub copy : t.copy ≡ s.copy

-- the figures that the copy offers: its own, "points past the count are ignored. SZ stays as it is"
pub record Offered (s : Setup) (c : Calibration) : Type 0 where
  pub representable : Representable c
  pub trimmed : Trimmed s.copy c
  pub sz : c.system.sz ≡ s.figures.system.sz

-- those in force, and the copy as it was
pub record PutInForce (s t : Setup) : Type 0 where
  pub figures : Offered s t.figures
  pub copy : t.copy ≡ s.copy

-- "the copy back to the figures in force, unused points to 0"
pub record SetBack (s t : Setup) : Type 0 where
  pub copy : Trimmed s.figures t.copy
  pub in_force : t.figures ≡ s.figures

-- ---- how it reads: "each figure ÷ its own scale with one rounding, counts and FFST whole"

-- CGAI, SGAI, CTG
abbrev pub in_parts : List ℕ
in_parts = 40 ∷ 70 ∷ from 5 116

-- CLN, FFST, CTN
abbrev pub in_whole : List ℕ
in_whole = 50 ∷ 93 ∷ 110 ∷ []

-- COFS, CMIN, CMAX, CLX, CLK, SOFS, SMIN, SMAX, FFLV, CT, CTO
abbrev pub in_steps : List ℕ
in_steps = 41 ∷ 44 ∷ 45 ∷ from 7 51 ++ from 7 61 ++ (71 ∷ 74 ∷ 75 ∷ 92 ∷ from 5 111 ++ from 5 121)

pub record Scaled (c : Calibration) : Type 0 where
  pub parts : (n : ℕ) → is_in in_parts n ≡ true → figure_float c n ≡ count_float 28 (figure_at c n)
  pub whole : (n : ℕ) → is_in in_whole n ≡ true → figure_float c n ≡ count_float 0 (figure_at c n)
  pub steps : (n : ℕ) → is_in in_steps n ≡ true → figure_float c n ≡ count_float 16 (figure_at c n)

-- ---- all of it

pub record Waiting : Type 0 where
  -- "Writes go to a waiting copy"
  pub written : (s : Setup) → Representable s.copy → (n : ℕ) (x : Float) → is_in numbers n ≡ true → Copied s (setup_by s (Write n x)) n (counted (range_of n) x)
  -- SZ 22 has no place in it, and no other register, FLAG 14 neither, has one
  pub zeroed : (s : Setup) (x : Float) → Zeroed s (setup_by s (Write 22 x)) (counted (range_of 22) x)
  pub unwritten : (s : Setup) (n : ℕ) (x : Float) → is_in (22 ∷ numbers) n ≡ false → setup_by s (Write n x) ≡ s
  -- "A write to our own register 99 puts the copy in force .., if a sheet with these figures would be accepted"; if not, nothing
  pub offers : (s : Setup) → Representable s.copy → Offered s (offered s.figures.system.sz s.copy)
  pub fit : (s : Setup) → Representable s.copy → (c : Calibration) → Offered s c → (copy_fits s ≡ true) ↔ Acceptable c
  pub applied : (s : Setup) → Representable s.copy → copy_fits s ≡ true → PutInForce s (setup_by s (Act 99))
  pub unfit : (s : Setup) → copy_fits s ≡ false → setup_by s (Act 99) ≡ s
  -- "RST sets the copy back"
  pub set_back : (s : Setup) → SetBack s (setup_by s (Act 100))
  -- SNAP 103 and peak reset 104 have no part in it, nor have reads, refused frames and the station
  pub unacted : (s : Setup) (n : ℕ) → is_in (99 ∷ 100 ∷ []) n ≡ false → setup_by s (Act n) ≡ s
  pub read : (s : Setup) (n : ℕ) → setup_by s (Read n) ≡ s
  pub refused : (s : Setup) (n : ℕ) → setup_by s (Refused n) ≡ s
  pub station : (s : Setup) (f : Frame) → (setup_by s f).station ≡ s.station
  -- "Reads show that copy at all times" (`panel_at` of `answers/specs/Register.antt`)
  pub scaled : (s : Setup) → Scaled s.copy
