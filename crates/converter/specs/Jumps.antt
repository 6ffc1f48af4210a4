-- Change 2 over whole histories: "Customers set the filter level by 004's words "between samples". A slow filling now jumps when the held
-- value has fallen behind." Every reading that the log keeps is set beside the one accepted before it, by its input and its held value
-- alone: what device and log remember for the filter does not come into it.
use Rattle.std.specs.Prelude.{◌≡◌, false, List, ◌∷◌, ◌++◌, ◌⊎◌, ℕ, pos, ◌+ℤ◌, ◌-ℤ◌, ◌≤ℤ◌, ◌<ℤ◌}
use Rattle.std.proofs.Math.Option.{Option, none, some}
use Rattle.arithmetic.specs.Round.{Nearest}
use Rattle.figures.specs.declared.Filter.{Filter}
use Rattle.compensation.specs.Filtered.{Filtered}
use Rattle.converter.specs.Making.{made}
use Rattle.converter.specs.Call.{Call}
use Rattle.converter.specs.Log.{Kept, Entry, joined, latest, log_of}

-- k is kept, and j is the reading before it since the start or RST, if there is one
pub record Neighbours (entries : List Entry) (j : Option Kept) (k : Kept) : Type 0 where
  pub later : List Entry
  pub earlier : List Entry
  pub split : entries ≡ later ++ (joined k ∷ earlier)
  pub before : latest earlier ≡ j

-- step 1 of k: "the first reading: held value = input"; of any other, by its own figures, from the input and the held value of j
abbrev pub FilteredAfter : Option Kept → Kept → Type 0
FilteredAfter none k = k.elec ≡ k.input
FilteredAfter (some j) k = Filtered k.figures.filter false j.input j.elec k.input k.elec

abbrev pub EachFiltered : List Entry → Type 0
EachFiltered entries = (j : Option Kept) (k : Kept) → Neighbours entries j k → FilteredAfter j k

-- ---- what the customers asked for

abbrev pub filter_of : Kept → Filter
filter_of k = k.figures.filter

-- the filter is on, and the input of k lies within FFLV of that of j
pub record Slow (j k : Kept) : Type 0 where
  pub level_on : pos 0 <ℤ (filter_of k).fflv
  pub steps_on : pos 0 <ℤ (filter_of k).ffst
  pub is_not_above : k.input ≤ℤ (j.input +ℤ (filter_of k).fflv)
  pub is_not_below : j.input ≤ℤ (k.input +ℤ (filter_of k).fflv)

-- "held = held + round((input − held) ÷ FFST)"
abbrev pub Smoothed : Kept → Kept → Type 0
Smoothed j k = Nearest (k.input -ℤ j.elec) (filter_of k).ffst (k.elec -ℤ j.elec)

-- more than FFLV apart
abbrev pub Far : Kept → Kept → Type 0
Far j k = ((j.input +ℤ (filter_of k).fflv) <ℤ k.input) ⊎ ((k.input +ℤ (filter_of k).fflv) <ℤ j.input)

pub record Jumps (entries : List Entry) : Type 0 where
  pub each_filtered : EachFiltered entries
  -- where each input lies within FFLV of the one before it, no reading after the first is bypassed, wherever the held value is
  pub slow_filling : ((j k : Kept) → Neighbours entries (some j) k → Slow j k) → (j k : Kept) → Neighbours entries (some j) k → Smoothed j k
  -- and one reading at a time, whatever came before the two
  pub smoothed : (j k : Kept) → Neighbours entries (some j) k → Slow j k → Smoothed j k
  -- an input more than FFLV from the one before it is held as it is
  pub bypassed : (j k : Kept) → Neighbours entries (some j) k → Far j k → k.elec ≡ k.input

-- for every list of calls, as `History`
abbrev pub JumpsBetween : Type 0
JumpsBetween = (sheet : List ℕ) (station : ℕ) → (made sheet station).number ≡ 0 → (calls : List Call) → Jumps (log_of sheet station calls).readings
