-- Cell, system and filter without fault keep their limits, and the other way round. Assumes nothing.
use Rattle.std.proofs.Common.{◌≡◌, ℕ, ℤ, pos, neg_ℤ}
use Rattle.figures.specs.Limits.{cofs_most, cgai_most, cell_most, sofs_most, sgai_most, system_most, fflv_most}
use Rattle.figures.specs.Acceptable.{CellAcceptable, SystemAcceptable, FilterAcceptable}
use Rattle.figures.specs.declared.Cell.{Cell}
use Rattle.figures.specs.declared.System.{System}
use Rattle.figures.specs.declared.Filter.{Filter}
use Rattle.sheet.specs.Judge.{never, wrong_count, out_of_range, not_below, cell_number, system_number, filter_number}
use Rattle.sheet.proofs.Chain.{then-none, both}
use Rattle.sheet.proofs.Numbers.{beyond-in, in-beyond, figure-in, in-figure, below_in, in-below}

abbrev pub far : ℕ → ℤ → ℕ
far n v = out_of_range (neg_ℤ (pos n)) (pos n) v

-- ---- cell, system, filter

pub cell_in : (at : ℕ) (c : Cell) → cell_number never at 4 c ≡ 0 → CellAcceptable c
unfolding cell_number wrong_count
cell_in at c h =
    let o = then-none {a = far cofs_most c.cofs} h in
    let g = then-none {a = far cgai_most c.cgai} o.1 in
    let l = then-none {a = far cell_most c.cmin} g.1 in
    let m = then-none {a = far cell_most c.cmax} l.1 in
    record { cofs_in = figure-in _ _ o.0; cgai_in = figure-in _ _ g.0; cmin_in = figure-in _ _ l.0; cmax_in = figure-in _ _ m.0; ordered = below_in 5 _ _ m.1 }

pub in_cell : (at : ℕ) (c : Cell) → CellAcceptable c → cell_number never at 4 c ≡ 0
unfolding cell_number wrong_count
in_cell at c h = both (in-figure h.cofs_in) (both (in-figure h.cgai_in) (both (in-figure h.cmin_in) (both (in-figure h.cmax_in) (in-below 6 h.ordered))))

pub system_in : (at : ℕ) (s : System) → system_number never at 5 s ≡ 0 → SystemAcceptable s
unfolding system_number wrong_count
system_in at s h =
    let o = then-none {a = far sofs_most s.sofs} h in
    let g = then-none {a = far sgai_most s.sgai} o.1 in
    let l = then-none {a = far system_most s.smin} g.1 in
    let m = then-none {a = far system_most s.smax} l.1 in
    let x = then-none {a = not_below 6 s.smin s.smax} m.1 in
    record { sofs_in = figure-in _ _ o.0; sgai_in = figure-in _ _ g.0; smin_in = figure-in _ _ l.0; smax_in = figure-in _ _ m.0; ordered = below_in 5 _ _ x.0; sz_in = figure-in _ _ x.1 }

pub in-system : (at : ℕ) (s : System) → SystemAcceptable s → system_number never at 5 s ≡ 0
unfolding system_number wrong_count
in-system at s h =
    both (in-figure h.sofs_in) (both (in-figure h.sgai_in) (both (in-figure h.smin_in) (both (in-figure h.smax_in) (both (in-below 6 h.ordered) (in-figure h.sz_in)))))

pub filter-in : (at : ℕ) (f : Filter) → filter_number never at 2 f ≡ 0 → FilterAcceptable f
unfolding filter_number wrong_count
filter-in at f h =
    let u = then-none {a = out_of_range (pos 0) (pos fflv_most) f.fflv} h in
    let v = beyond-in _ _ _ u.0 in
    let w = beyond-in _ _ _ u.1 in
    record { fflv_at_least = v.0; fflv_at_most = v.1; ffst_at_least = w.0; ffst_at_most = w.1 }

pub in-filter : (at : ℕ) (f : Filter) → FilterAcceptable f → filter_number never at 2 f ≡ 0
unfolding filter_number wrong_count
in-filter at f h = both (in-beyond h.fflv_at_least h.fflv_at_most) (in-beyond h.ffst_at_least h.ffst_at_most)
