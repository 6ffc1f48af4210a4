-- Which registers there are, by the papers' numbers alone, and what a frame may do with each.
use Rattle.std.specs.Prelude.{Bool, false, cond, ◌||◌, List, [], ◌∷◌, ◌++◌, ℕ, zero, suc, eqb}

-- k numbers from n on
abbrev pub from : ℕ → ℕ → List ℕ
from zero n = []
from (suc k) n = n ∷ from k (suc n)

abbrev pub is_in : List ℕ → ℕ → Bool
is_in [] n = false
is_in (m ∷ rest) n = eqb n m || is_in rest n

-- 01, "The bus": STAT, SOUT, SYS, TEMP, SRAW, CELL, CRAW, ELEC, SYSN, PEAK, TROF
abbrev pub read_onlys : List ℕ
read_onlys = 6 ∷ 9 ∷ 10 ∷ 11 ∷ 12 ∷ 13 ∷ 15 ∷ 16 ∷ 23 ∷ 24 ∷ 25 ∷ []

-- FLAG, SZ; Change 1: "CGAI 40, COFS 41, CMIN 44, CMAX 45, CLN 50, CLX 51 to 57, CLK 61 to 67, SGAI 70, SOFS 71, SMIN 74, SMAX 75,
-- FFLV 92, FFST 93, CTN 110, CT 111 to 115, CTG 116 to 120, CTO 121 to 125"
abbrev pub values : List ℕ
values = 14 ∷ 22 ∷ 40 ∷ 41 ∷ 44 ∷ 45 ∷ 50 ∷ (from 7 51 ++ from 7 61 ++ (70 ∷ 71 ∷ 74 ∷ 75 ∷ 92 ∷ 93 ∷ 110 ∷ from 15 111))

-- "our own register 99", RST, SNAP, peak reset
abbrev pub actions : List ℕ
actions = 99 ∷ 100 ∷ 103 ∷ 104 ∷ []

pub data Kind : Type 0 where
  not_listed : Kind
  only_read : Kind
  valued : Kind
  acting : Kind

abbrev pub kind_said : ℕ → Kind
kind_said n = cond (is_in read_onlys n) only_read (cond (is_in actions n) acting (cond (is_in values n) valued not_listed))
