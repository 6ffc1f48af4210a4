-- A sheet's judgement, and that of the figures it says. Assumes nothing.
use Rattle.std.proofs.Common.{◌≡◌, ℕ, ◌+◌, ◌≤◌, List, length, pos, sym, refl, ap, ◌∙◌, arith}
use Rattle.figures.specs.Limits.{fflv_most}
use Rattle.figures.specs.Unused.{unused_zero}
use Rattle.figures.specs.declared.Cell.{Cell}
use Rattle.figures.specs.declared.System.{System}
use Rattle.figures.specs.declared.Filter.{Filter}
use Rattle.figures.specs.declared.Calibration.{Calibration}
use Rattle.sheet.specs.Bytes.{count_at}
use Rattle.sheet.specs.Places.{system_start, filter_start, sheet_end, sheet_length}
use Rattle.sheet.specs.Judge.{◌then◌, never, short_of, wrong_count, trailing, count_number, range_number, cell_number, system_number, filter_number, sections_number, figures_number}
use Rattle.sheet.specs.Read.{figures_of, temperature_at, linearity_at, old_number, ctn_of, cln_of}
use Rattle.sheet.proofs.Chain.{then-none, then-zero}
use Rattle.sheet.proofs.Numbers.{short-in, in-short, count-in, whole_in, in_whole}
use Rattle.sheet.proofs.Whole.{sections-whole}
use Rattle.sheet.proofs.Sections.{no-fault}
use Rattle.sheet.proofs.Cut.{SheetCut}
use Rattle.sheet.proofs.Unused.{unused-judged}

parts : (s : List ℕ) {a b d e : ℕ} {c : Calibration} → count_at s 0 ≡ a → count_at s (system_start (ctn_of s) (cln_of s)) ≡ b → count_at s (filter_start (ctn_of s) (cln_of s)) ≡ d → figures_of s ≡ c → sheet_end (ctn_of s) (cln_of s) ≡ e
    → old_number s ≡ sections_number (short_of (length s)) a b d c then trailing (length s) e
unfolding old_number
parts s x y z w v = cc

same_length : (c : Calibration) → sheet_length (unused_zero c) ≡ sheet_length c
unfolding unused_zero
same_length c = refl

-- the bytes of figures are judged as the figures are
pub bytes-judged : (s : List ℕ) (c : Calibration) → SheetCut s c → old_number s ≡ figures_number c
unfolding figures_number
bytes-judged s c k =
    parts s k.cell-count k.system-count k.filter-count k.says k.ends
    ∙ ap (λ (n : ℕ). sections_number (short_of (length s)) 4 5 2 (unused_zero c) then n) (in_whole (omega (arith, k.long)))
    ∙ then-zero (sections_number (short_of (length s)) 4 5 2 (unused_zero c))
    ∙ sections-whole (short_of (length s)) 4 5 2 (unused_zero c) (λ e l. in-short (omega (arith, k.long, same_length c)))
    ∙ unused-judged c

-- ---- a sheet without fault

cell-counted : (at n : ℕ) (c : Cell) → cell_number never at n c ≡ 0 → n ≡ 4
unfolding cell_number
cell-counted at n c h = let k = count-in 4 4 n (then-none {a = wrong_count 4 4 n} h).0 in omega arith

system-counted : (at n : ℕ) (s : System) → system_number never at n s ≡ 0 → n ≡ 5
unfolding system_number
system-counted at n s h = let k = count-in 5 5 n (then-none {a = wrong_count 5 5 n} h).0 in omega arith

filter-counted : (at n : ℕ) (f : Filter) → filter_number never at n f ≡ 0 → n ≡ 2
unfolding filter_number
filter-counted at n f h = let k = count-in 2 2 n (then-none {a = wrong_count 2 2 n} h).0 in omega arith

filter-end : (room at n : ℕ) (f : Filter) → filter_number (short_of room) at n f ≡ 0 → at + 17 ≤ room
unfolding filter_number
filter-end room at n f h =
    let u = then-none {a = count_number (short_of room) at 2 2 n} h in
    let v = then-none {a = range_number (short_of room) (at + 1) (pos 0) (pos fflv_most) f.fflv} u.1 in
    let w = short-in room (at + 9 + 8) (then-none {a = short_of room (at + 9 + 8)} v.1).0 in
    omega arith

pub record Faultless (s : List ℕ) : Type 0 where
  pub cell-count : count_at s 0 ≡ 4
  pub system-count : count_at s (system_start (ctn_of s) (cln_of s)) ≡ 5
  pub filter-count : count_at s (filter_start (ctn_of s) (cln_of s)) ≡ 2
  pub figures-none : figures_number (figures_of s) ≡ 0
  pub long : length s ≡ sheet_end (ctn_of s) (cln_of s)

pub faultless : (s : List ℕ) → old_number s ≡ 0 → Faultless s
unfolding figures_of temperature_at linearity_at figures_number
faultless s z =
    let c = figures_of s in
    let a = count_at s 0 in
    let b = count_at s (system_start (ctn_of s) (cln_of s)) in
    let d = count_at s (filter_start (ctn_of s) (cln_of s)) in
    let short = short_of (length s) in
    let h = then-none {a = sections_number short a b d c} (sym (parts s refl refl refl refl refl) ∙ z) in
    let e : sheet_length c ≤ length s = filter-end (length s) (filter_start c.temperature.ctn c.linearity.cln) d c.filter (no-fault short a b d c h.0).filter_none in
    let w = whole_in (length s) (sheet_end (ctn_of s) (cln_of s)) h.1 in
    let g : sections_number never a b d c ≡ 0 = sym (sections-whole short a b d c (λ k l. in-short (omega arith))) ∙ h.0 in
    let n = no-fault never a b d c g in
    let x = cell-counted 0 a c.cell n.cell-none in
    let y = system-counted (system_start c.temperature.ctn c.linearity.cln) b c.system n.system-none in
    let v = filter-counted (filter_start c.temperature.ctn c.linearity.cln) d c.filter n.filter_none in
    record { cell-count = x; system-count = y; filter-count = v; figures-none = cc (g, x, y, v); long = omega arith }
