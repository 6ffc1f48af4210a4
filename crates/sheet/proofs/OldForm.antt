-- Sheets of the old form and their figures, over all bytes and all figures. `Theorems.antt` has it of either form. Assumes nothing.
use Rattle.std.proofs.Common.{◌≡◌, ℕ, ◌+◌, min, ◌↔◌, List, length, sym, refl, ap, ◌∙◌}
use Rattle.figures.specs.Acceptable.{Acceptable}
use Rattle.figures.specs.Unused.{no_linearity, no_temperature, unused_zero}
use Rattle.figures.specs.Representable.{Representable, Fitting}
use Rattle.figures.specs.declared.Calibration.{Calibration}
use Rattle.sheet.specs.Sheet.{Sheet}
use Rattle.sheet.specs.Bytes.{Bytes}
use Rattle.sheet.specs.Places.{linearity_start, sheet_length}
use Rattle.sheet.specs.Judge.{figures_number}
use Rattle.sheet.specs.Read.{figures_of, temperature_point_at, linearity_point_at, temperature_at, linearity_at, old_number, read_old, ctn_of, cln_of}
use Rattle.sheet.specs.Write.{sheet_bytes}
use Rattle.sheet.proofs.Sections.{counts-in}
use Rattle.sheet.proofs.Accepted.{figures-acceptable, acceptable-figures, acceptable-fits}
use Rattle.sheet.proofs.Points.{points-length, points-used}
use Rattle.sheet.proofs.Cut.{sheet-cut}
use Rattle.sheet.proofs.Glue.{Complete, sheet-glue}
use Rattle.sheet.proofs.Judged.{bytes-judged, Faultless, faultless}

-- ---- the executable judgement and the declarative limits agree

pub judged-acceptable : (c : Calibration) → Representable c → (figures_number c ≡ 0) ↔ Acceptable c
judged-acceptable c r = (figures-acceptable c r, acceptable-figures c r)

-- ---- figures judged by themselves are judged as their bytes are

pub written-judged : (c : Calibration) → Representable c → Fitting c → old_number (sheet_bytes c) ≡ figures_number c
written-judged c r f = bytes-judged (sheet_bytes c) c (sheet-cut (sheet_bytes c) c r f refl)

-- ---- figures written and read come back, unused points 0

pub written_read : (c : Calibration) → Representable c → Acceptable c → read_old (sheet_bytes c) ≡ record { number = 0; figures = unused_zero c }
unfolding read_old
written_read c r h =
    let k = sheet-cut (sheet_bytes c) c r (acceptable-fits c r h) refl in
    let e = bytes-judged (sheet_bytes c) c k ∙ acceptable-figures c r h in
    simp (e, k.says)

-- 93 + 24·CTN + 16·CLN bytes
pub written-length : (c : Calibration) → Representable c → Fitting c → length (sheet_bytes c) ≡ sheet_length c
written-length c r f = (sheet-cut (sheet_bytes c) c r f refl).long

-- ---- an accepted sheet's figures write its own bytes

module _ (s : List ℕ) where
  read-representable : Representable (figures_of s)
  unfolding figures_of temperature_at linearity_at
  read-representable = record { five = points-length no_temperature temperature_point_at 24 5 s 34 (min (ctn_of s) 5); seven = points-length no_linearity linearity_point_at 16 7 s (linearity_start (ctn_of s) + 1) (min (cln_of s) 7) }

  read-unused : unused_zero (figures_of s) ≡ figures_of s
  unfolding figures_of temperature_at linearity_at unused_zero
  read-unused = simp (points-used no_temperature temperature_point_at 24 5 s 34 (ctn_of s), points-used no_linearity linearity_point_at 16 7 s (linearity_start (ctn_of s) + 1) (cln_of s))

  complete : (b : Bytes s) → Faultless s → Complete s b
  unfolding figures_of temperature_at linearity_at
  complete b f =
      let k = counts-in (figures_of s) f.figures-none in
      record { cell-count = f.cell-count; temperature-count = k.0; linearity-count = k.1; system-count = f.system-count; filter-count = f.filter-count; long = f.long }

  pub read-written : Bytes s → (read_old s).number ≡ 0 → sheet_bytes (read_old s).figures ≡ s
  unfolding read_old
  read-written b h = simp h (sheet-glue s b (complete b (faultless s h)))

-- ---- a sheet is accepted if and only if it is the bytes of acceptable figures

pub record BytesOf (s : List ℕ) : Type 0 where
  pub figures : Calibration
  pub representable : Representable figures
  pub acceptable : Acceptable figures
  pub are : s ≡ sheet_bytes figures

pub accepted : (s : List ℕ) → Bytes s → ((read_old s).number ≡ 0) ↔ BytesOf s
unfolding read_old
accepted s b = (
  λ h. let f = faultless s h in
      let r = read-representable s in
      record { figures = figures_of s; representable = r; acceptable = figures-acceptable (figures_of s) r f.figures-none; are = sym (sheet-glue s b (complete s b f)) },
  λ f. ap (λ (x : List ℕ). (read_old x).number) f.are ∙ ap (λ (x : Sheet). x.number) (written_read f.figures f.representable f.acceptable),
)

-- what an accepted sheet gives: five and seven points, within all limits, unused points 0
pub record Accepted (c : Calibration) : Type 0 where
  pub representable : Representable c
  pub acceptable : Acceptable c
  pub unused : unused_zero c ≡ c

pub read-accepted : (s : List ℕ) → (read_old s).number ≡ 0 → Accepted (read_old s).figures
unfolding read_old
read-accepted s h =
    simp h (record { representable = read-representable s; acceptable = figures-acceptable (figures_of s) (read-representable s) (faultless s h).figures-none; unused = read-unused s })
