-- The table of `Register.antt` once more, by the numbers of 01, 004 and the wire alone: of each register the patterns of the largest and
-- the smallest float that it takes, what they count as ("Figures, and largest magnitude" in 01's sheet table), and the first that it
-- does not take. And which registers there are. Nothing is to be believed here but that these are the papers' numbers.
use Rattle.std.specs.Prelude.{◌≡◌, Bool, true, false, List, [], ◌∷◌, ◌++◌, map, ℕ, suc, ◌+◌, ◌-◌, ◌^◌, ℤ, pos, neg_ℤ, length}
use Rattle.std.specs.Float.{binary32}
use Rattle.std.specs.Float.Ieee.{of_bits}
use Rattle.binary32.specs.Received.{takes, counted}
use Rattle.register.specs.declared.Access.{Access}
use Rattle.register.specs.declared.Access.TheVariants.{Unlisted, ReadOnly, Takes, Action}
use Rattle.register.specs.Register.{access_of, range_of}
use Rattle.register.specs.Listed.{from, values, Kind, not_listed, only_read, valued, acting, kind_said}

-- ---- a pattern that is written: whether it is taken, and what it counts as

pub record Trial : Type 0 where
  pub pattern : ℕ
  pub taken : Bool
  pub count : ℤ

infix 40 ◌counts◌ ◌has◌ ◌to◌have◌
abbrev pub ◌counts◌ : ℕ → ℤ → Trial
p counts z = record { pattern = p; taken = true; count = z }

abbrev pub refused : ℕ → Trial
refused p = record { pattern = p; taken = false; count = pos 0 }

-- as the definitions have it, at register n
abbrev pub tried : ℕ → Trial → Trial
tried n t = record {
  pattern = t.pattern;
  taken = takes (range_of n) (of_bits binary32 t.pattern);
  count = counted (range_of n) (of_bits binary32 t.pattern);
}

-- ---- a row: the registers from one number to another

pub record Row : Type 0 where
  pub first : ℕ
  pub last : ℕ
  pub trials : List Trial

abbrev pub ◌to◌have◌ : ℕ → ℕ → List Trial → Row
◌to◌have◌ first last trials = record { first = first; last = last; trials = trials }

abbrev pub ◌has◌ : ℕ → List Trial → Row
n has trials = n to n have trials

abbrev pub numbers : List Row → List ℕ
numbers [] = []
numbers (r ∷ rest) = from (suc r.last - r.first) r.first ++ numbers rest

-- ---- what a row says

abbrev pub minus : ℕ → ℕ
minus pattern = 2 ^ 31 + pattern

-- both ends alike, and the next pattern past each; half a count is rounded away from zero (Change 5)
abbrev pub around : ℕ → ℕ → ℕ → List Trial
around half top most =
    (top counts pos most) ∷ refused (top + 1) ∷ (minus top counts neg_ℤ (pos most)) ∷ refused (minus (top + 1)) ∷ (half counts pos 1) ∷ (minus half counts neg_ℤ (pos 1)) ∷ []

-- half a count is 2^−17, or 2^−29
abbrev pub in_steps : ℕ → ℕ → List Trial
in_steps top most = around 0x37000000 top most

abbrev pub in_parts : ℕ → ℕ → List Trial
in_parts top most = around 0x31000000 top most

-- −0.0 is 0, and what is nearest below it is not taken
abbrev pub from_zero : List Trial
from_zero = (0x80000000 counts pos 0) ∷ refused 0x80000001 ∷ []

-- 1.0 is too few points, 2.5 is not whole, 2.0 is two
abbrev pub from_two : List Trial
from_two = refused 0x3F800000 ∷ refused 0x40200000 ∷ (0x40000000 counts pos 2) ∷ []

-- every register that takes a value
abbrev pub ends : List Row
ends =
    -- 01: "FLAG takes whole 0 to 65,535", so not 65,535.5 or 65,536; "SZ takes ±32,000"
    (14 has (0x477FFF00 counts pos 65535) ∷ refused 0x477FFF80 ∷ refused 0x47800000 ∷ from_zero)
    ∷ (22 has in_steps 0x46FA0000 2097152000)
    -- CGAI, to 64.0; COFS, to 300.0; CMIN, CMAX, to 32,000.0
    ∷ (40 has in_parts 0x42800000 17179869184)
    ∷ (41 has in_steps 0x43960000 19660800)
    ∷ (44 has in_steps 0x46FA0000 2097152000)
    ∷ (45 has in_steps 0x46FA0000 2097152000)
    -- CLN, to 7.0; CLX, to 32,000.0; CLK, to 1,000.0
    ∷ (50 has (0x40E00000 counts pos 7) ∷ refused 0x41000000 ∷ from_two)
    ∷ (51 to 57 have in_steps 0x46FA0000 2097152000)
    ∷ (61 to 67 have in_steps 0x447A0000 65536000)
    -- SGAI, to 8.0; SOFS, SMIN, SMAX, to 32,000.0
    ∷ (70 has in_parts 0x41000000 2147483648)
    ∷ (71 has in_steps 0x46FA0000 2097152000)
    ∷ (74 has in_steps 0x46FA0000 2097152000)
    ∷ (75 has in_steps 0x46FA0000 2097152000)
    -- FFLV, 0 to 600.0; FFST, whole 0 to 1,000, so not 1,000.5 or 1,001
    ∷ (92 has (0x44160000 counts pos 39321600) ∷ refused 0x44160001 ∷ (0x37000000 counts pos 1) ∷ from_zero)
    ∷ (93 has (0x447A0000 counts pos 1000) ∷ refused 0x447A2000 ∷ refused 0x447A4000 ∷ from_zero)
    -- CTN, to 5.0; CT, to 200.0; CTG, to the largest float under 26,843,545 ÷ 2^28, which is under 0.1; CTO, to 20.0
    ∷ (110 has (0x40A00000 counts pos 5) ∷ refused 0x40C00000 ∷ from_two)
    ∷ (111 to 115 have in_steps 0x43480000 13107200)
    ∷ (116 to 120 have in_parts 0x3DCCCCCC 26843544)
    ∷ (121 to 125 have in_steps 0x41A00000 1310720)
    ∷ []

-- ---- which registers there are

abbrev pub kind_of : Access → Kind
kind_of Unlisted = not_listed
kind_of ReadOnly = only_read
kind_of (Takes r) = valued
kind_of Action = acting

-- ---- one statement over the list; no row is missing, 01's two, and Change 1's of cell, linearity, system, filter and temperature, and
-- no register
pub record EndsHold : Type 0 where
  pub hold : map (λ r. map (λ n. map (tried n) r.trials) (from (suc r.last - r.first) r.first)) ends
      ≡ map (λ r. map (λ n. r.trials) (from (suc r.last - r.first) r.first)) ends
  pub rows : length ends ≡ 2 + 4 + 3 + 4 + 2 + 4
  pub all : numbers ends ≡ values
  pub kinds : (n : ℕ) → kind_of (access_of n) ≡ kind_said n
