-- The registers on the bus, ONE table of them: what a frame may do with each, and what a write takes (01, "The bus"): "Only FLAG, SZ
-- and the last three take a write"; "SZ takes ±32,000 ..; FLAG takes whole 0 to 65,535"; and Change 1, "its range in 01's sheet
-- table". Of SZ that range is ±32,000 too.
use Rattle.std.specs.Prelude.{Bool, true, false, cond, ◌&&◌, List, [], ◌∷◌, ℕ, ◌+◌, ◌-◌, leb, ℤ, pos, neg_ℤ}
use Rattle.figures.specs.Limits.{cofs_most, cgai_most, cell_most, ct_most, cto_most, ctg_most, clx_most, clk_most, sofs_most, sgai_most, system_most, sz_most, fflv_most, ffst_most}
use Rattle.binary32.specs.declared.received.Range.{Range}
use Rattle.register.specs.Number.{STAT, SOUT, SYS, TEMP, SRAW, CELL, FLAG, CRAW, ELEC, SZ, SYSN, PEAK, TROF, CGAI, COFS, CMIN, CMAX, CLN, CLX, CLK, SGAI, SOFS, SMIN, SMAX, FFLV, FFST, APPLY, RST, SNAP, PEAKRESET, CTN, CT, CTG, CTO}
use Rattle.register.specs.declared.Access.{Access}
use Rattle.register.specs.declared.Access.TheVariants.{Unlisted, ReadOnly, Takes, Action}

-- what a write takes: steps of 1/65,536, parts of 1/2^28, or whole numbers
abbrev pub range : ℕ → ℤ → ℤ → Access
range shift least most = Takes (record { shift = shift; least = least; most = most })

abbrev pub symmetric : ℕ → ℤ → Access
symmetric shift most = range shift (neg_ℤ most) most

abbrev pub steps : ℕ → Access
steps most = symmetric 16 (pos most)

abbrev pub parts : ℕ → Access
parts most = symmetric 28 (pos most)

abbrev pub whole : ℕ → ℕ → Access
whole least most = range 0 (pos least) (pos most)

-- the registers from one number to another
pub record Registers : Type 0 where
  pub first : ℕ
  pub last : ℕ
  pub access : Access

infix 40 ◌is◌ ◌from◌are◌
-- so many from a number on
abbrev pub ◌from◌are◌ : ℕ → ℕ → Access → Registers
◌from◌are◌ k n a = record { first = n; last = n + k - 1; access = a }

abbrev pub ◌is◌ : ℕ → Access → Registers
n is a = 1 from n are a

abbrev pub registers : List Registers
registers =
    (STAT is ReadOnly)
    ∷ (SOUT is ReadOnly)
    ∷ (SYS is ReadOnly)
    ∷ (TEMP is ReadOnly)
    ∷ (SRAW is ReadOnly)
    ∷ (CELL is ReadOnly)
    ∷ (FLAG is whole 0 65535)
    ∷ (CRAW is ReadOnly)
    ∷ (ELEC is ReadOnly)
    ∷ (SZ is steps sz_most)
    ∷ (SYSN is ReadOnly)
    ∷ (PEAK is ReadOnly)
    ∷ (TROF is ReadOnly)
    ∷ (CGAI is parts cgai_most)
    ∷ (COFS is steps cofs_most)
    ∷ (CMIN is steps cell_most)
    ∷ (CMAX is steps cell_most)
    ∷ (CLN is whole 2 7)
    ∷ (7 from CLX are steps clx_most)
    ∷ (7 from CLK are steps clk_most)
    ∷ (SGAI is parts sgai_most)
    ∷ (SOFS is steps sofs_most)
    ∷ (SMIN is steps system_most)
    ∷ (SMAX is steps system_most)
    ∷ (FFLV is range 16 (pos 0) (pos fflv_most))
    ∷ (FFST is whole 0 ffst_most)
    ∷ (APPLY is Action)
    ∷ (RST is Action)
    ∷ (SNAP is Action)
    ∷ (PEAKRESET is Action)
    ∷ (CTN is whole 2 5)
    ∷ (5 from CT are steps ct_most)
    ∷ (5 from CTG are parts ctg_most)
    ∷ (5 from CTO are steps cto_most)
    ∷ []

abbrev pub found : List Registers → ℕ → Access
found [] n = Unlisted
found (r ∷ rest) n = cond (leb r.first n && leb n r.last) r.access (found rest n)

unfoldable pub access_of : ℕ → Access
access_of n = found registers n

abbrev pub listed : Access → Bool
listed Unlisted = false
listed ReadOnly = true
listed (Takes r) = true
listed Action = true

-- what a write to a register takes; of one that takes none it is never used
abbrev pub range_in : Access → Range
range_in Unlisted = record { shift = 16; least = pos 0; most = pos 0 }
range_in ReadOnly = record { shift = 16; least = pos 0; most = pos 0 }
range_in (Takes r) = r
range_in Action = record { shift = 16; least = pos 0; most = pos 0 }

unfoldable pub range_of : ℕ → Range
range_of n = range_in (access_of n)
