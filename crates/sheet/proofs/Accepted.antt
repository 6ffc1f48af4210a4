-- The judgement of figures by themselves and the declarative limits agree: figures without fault are the acceptable ones.
-- Assumes nothing.
use Rattle.std.proofs.Common.{◌≡◌, ℕ, ◌^◌, ◌<◌, ℤ, pos, ◌≤ℤ◌, arith, w64, SFits}
use Rattle.integers.specs.Within.{◌within◌}
use Rattle.integers.proofs.Parts.{abs-parts}
use Rattle.integers.proofs.Difference.{⟨◌⟩, nat, minus, le! }
use Rattle.integers.proofs.Order.{≤_trans}
use Rattle.integers.proofs.Magnitude.{within_of}
use Rattle.integers.proofs.Machine.{fits! }
use Rattle.figures.specs.Acceptable.{Acceptable}
use Rattle.figures.specs.Rows.{linearities, temperatures, linearity_row, temperature_row}
use Rattle.figures.specs.Unused.{no_linearity, no_temperature}
use Rattle.figures.specs.Representable.{Representable, Fitting}
use Rattle.figures.specs.declared.Calibration.{Calibration}
use Rattle.sheet.specs.Places.{temperature_start, linearity_start, system_start, filter_start}
use Rattle.sheet.specs.Judge.{never, figures_number}
use Rattle.sheet.proofs.Sections.{no-fault, fault-none}
use Rattle.sheet.proofs.Rows.{row-each}
use Rattle.sheet.proofs.AcceptableSections.{cell_in, in_cell, system_in, in-system, filter-in, in-filter}
use Rattle.sheet.proofs.AcceptableTables.{temperature-in, in-temperature, linearity-in, in-linearity}

-- ---- all five

pub figures-acceptable : (c : Calibration) → Representable c → figures_number c ≡ 0 → Acceptable c
unfolding figures_number
figures-acceptable c r h =
    let n = no-fault never 4 5 2 c h in
    record {
      cell_ok = cell_in 0 c.cell n.cell-none;
      temperature_ok = temperature-in temperature_start c.temperature r.five n.temperature-none;
      linearity_ok = linearity-in (linearity_start c.temperature.ctn) c.linearity r.seven n.linearity-none;
      system_ok = system_in (system_start c.temperature.ctn c.linearity.cln) c.system n.system-none;
      filter_ok = filter-in (filter_start c.temperature.ctn c.linearity.cln) c.filter n.filter_none;
    }

pub acceptable-figures : (c : Calibration) → Representable c → Acceptable c → figures_number c ≡ 0
unfolding figures_number
acceptable-figures c r h =
    fault-none never 4 5 2 c
    (record {
      cell-none = in_cell 0 c.cell h.cell_ok;
      temperature-none = in-temperature temperature_start c.temperature r.five h.temperature_ok;
      linearity-none = in-linearity (linearity_start c.temperature.ctn) c.linearity r.seven h.linearity_ok;
      system-none = in-system (system_start c.temperature.ctn c.linearity.cln) c.system h.system_ok;
      filter_none = in-filter (filter_start c.temperature.ctn c.linearity.cln) c.filter h.filter_ok;
    })

-- ---- acceptable figures have 64 bits and fewer

nonneg-within : (n : ℕ) (v : ℤ) → pos 0 ≤ℤ v → v ≤ℤ pos n → v within n
nonneg-within n v h k = within_of (≤_trans (le! (minus (nat n)) (nat 0) (omega arith)) h) k

figure-fits : {n : ℕ} {v : ℤ} → v within n → n < 2 ^ 63 → SFits w64 v
figure-fits {n} {v} h l = fits! ⟨ v ⟩ (omega (arith, h.abs, abs-parts v))

pub acceptable-fits : (c : Calibration) → Representable c → Acceptable c → Fitting c
unfolding temperatures linearities
acceptable-fits c r h =
    let k = h.cell_ok in
    let t = h.temperature_ok in
    let l = h.linearity_ok in
    let s = h.system_ok in
    let f = h.filter_ok in
    let e = row-each no_temperature temperature_row c.temperature.points c.temperature.ctn (omega (arith, r.five, t.most)) in
    let g = row-each no_linearity linearity_row c.linearity.points c.linearity.cln (omega (arith, r.seven, l.most)) in
    record {
      cell_fits = record { cofs_fits = figure-fits k.cofs_in (omega arith); cgai_fits = figure-fits k.cgai_in (omega arith); cmin_fits = figure-fits k.cmin_in (omega arith); cmax_fits = figure-fits k.cmax_in (omega arith) };
      temperature_fits = λ i m. record { ct_fits = figure-fits (e _ t.ct_in i m) (omega arith); cto_fits = figure-fits (e _ t.cto_in i m) (omega arith); ctg_fits = figure-fits (e _ t.ctg_in i m) (omega arith) };
      linearity_fits = λ i m. record { clx_fits = figure-fits (g _ l.clx_in i m) (omega arith); clk_fits = figure-fits (g _ l.clk_in i m) (omega arith) };
      system_fits = record { sofs_fits = figure-fits s.sofs_in (omega arith); sgai_fits = figure-fits s.sgai_in (omega arith); smin_fits = figure-fits s.smin_in (omega arith); smax_fits = figure-fits s.smax_in (omega arith); sz_fits = figure-fits s.sz_in (omega arith) };
      filter_fits = record { fflv_fits = figure-fits (nonneg-within _ _ f.fflv_at_least f.fflv_at_most) (omega arith); ffst_fits = figure-fits (nonneg-within _ _ f.ffst_at_least f.ffst_at_most) (omega arith) };
    }
