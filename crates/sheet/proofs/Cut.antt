-- From the bytes of figures to what a sheet says: it says these figures, unused points 0. Assumes nothing.
use Rattle.std.proofs.Common.{◌≡◌, ℕ, ◌+◌, ◌-◌, ◌*◌, ◌<◌, ◌≤◌, List, [], ◌++◌, length, get_or, drop, sym, refl, ap, ◌∙◌, append_assoc, append-nil, arith, length-drop}
use Rattle.figures.specs.Unused.{no_linearity, no_temperature, used, unused_zero}
use Rattle.figures.specs.Representable.{Representable, CellFits, TemperaturePointFits, LinearityPointFits, SystemFits, FilterFits, Fitting}
use Rattle.figures.specs.declared.Cell.{Cell}
use Rattle.figures.specs.declared.TemperaturePoint.{TemperaturePoint}
use Rattle.figures.specs.declared.Temperature.{Temperature}
use Rattle.figures.specs.declared.LinearityPoint.{LinearityPoint}
use Rattle.figures.specs.declared.Linearity.{Linearity}
use Rattle.figures.specs.declared.System.{System}
use Rattle.figures.specs.declared.Filter.{Filter}
use Rattle.figures.specs.declared.Calibration.{Calibration}
use Rattle.sheet.specs.Bytes.{count_at}
use Rattle.sheet.specs.Places.{temperature_start, linearity_start, system_start, filter_start, sheet_end, sheet_length}
use Rattle.sheet.specs.Read.{cell_at, temperature_point_at, linearity_point_at, temperature_at, linearity_at, system_at, filter_at, figures_of, ctn_of, cln_of}
use Rattle.sheet.specs.Write.{cell_bytes, temperature_point_bytes, linearity_point_bytes, temperature_bytes, linearity_bytes, system_bytes, filter_bytes, sheet_bytes}
use Rattle.sheet.proofs.EightBytes.{cut, cut-count}
use Rattle.sheet.proofs.Points.{points-are, points-cut}

-- a section from `at` up to `end`: its count, what it says, and what follows
pub record Section {A : Type 0} (read_at : List ℕ → ℕ → A) (s : List ℕ) (at end count : ℕ) (a : A) (rest : List ℕ) : Type 0 where
  pub counted : count_at s at ≡ count
  pub is : read_at s at ≡ a
  pub next : drop end s ≡ rest
  pub there : end ≤ length s

module _ (s : List ℕ) where
  cell_cut : (at : ℕ) (c : Cell) (rest : List ℕ) → CellFits c → drop at s ≡ cell_bytes c ++ rest → Section cell_at s at (at + 33) 4 c rest
  unfolding cell_bytes cell_at
  cell_cut at c rest g r =
      let k = cut-count s at (at + 1) 4 _ refl (simp append_assoc at r) in
      let o = cut s (at + 1) (at + 9) c.cofs _ (omega arith) g.cofs_fits k.next in
      let a = cut s (at + 9) (at + 17) c.cgai _ (omega arith) g.cgai_fits o.next in
      let m = cut s (at + 17) (at + 25) c.cmin _ (omega arith) g.cmin_fits a.next in
      let x = cut s (at + 25) (at + 33) c.cmax rest (omega arith) g.cmax_fits m.next in
      record { counted = k.is; is = rw (o.is, a.is, m.is, x.is); next = x.next; there = x.there }

  system-cut : (at : ℕ) (c : System) (rest : List ℕ) → SystemFits c → drop at s ≡ system_bytes c ++ rest → Section system_at s at (at + 41) 5 c rest
  unfolding system_bytes system_at
  system-cut at c rest g r =
      let k = cut-count s at (at + 1) 5 _ refl (simp append_assoc at r) in
      let o = cut s (at + 1) (at + 9) c.sofs _ (omega arith) g.sofs_fits k.next in
      let a = cut s (at + 9) (at + 17) c.sgai _ (omega arith) g.sgai_fits o.next in
      let m = cut s (at + 17) (at + 25) c.smin _ (omega arith) g.smin_fits a.next in
      let x = cut s (at + 25) (at + 33) c.smax _ (omega arith) g.smax_fits m.next in
      let z = cut s (at + 33) (at + 41) c.sz rest (omega arith) g.sz_fits x.next in
      record { counted = k.is; is = rw (o.is, a.is, m.is, x.is, z.is); next = z.next; there = z.there }

  filter-cut : (at : ℕ) (c : Filter) (rest : List ℕ) → FilterFits c → drop at s ≡ filter_bytes c ++ rest → Section filter_at s at (at + 17) 2 c rest
  unfolding filter_bytes filter_at
  filter-cut at c rest g r =
      let k = cut-count s at (at + 1) 2 _ refl (simp append_assoc at r) in
      let v = cut s (at + 1) (at + 9) c.fflv _ (omega arith) g.fflv_fits k.next in
      let t = cut s (at + 9) (at + 17) c.ffst rest (omega arith) g.ffst_fits v.next in
      record { counted = k.is; is = rw (v.is, t.is); next = t.next; there = t.there }

  temperature-point-cut : (p q : ℕ) (a : TemperaturePoint) (rest : List ℕ) → q ≡ p + 24 → TemperaturePointFits a → drop p s ≡ temperature_point_bytes a ++ rest → (temperature_point_at s p ≡ a) × (drop q s ≡ rest) × (q ≤ length s)
  unfolding temperature_point_at temperature_point_bytes
  temperature-point-cut p q a rest e g h =
      let c = cut s p (p + 8) a.ct _ refl g.ct_fits (simp append_assoc at h) in
      let o = cut s (p + 8) (p + 16) a.cto _ (omega arith) g.cto_fits c.next in
      let t = cut s (p + 16) q a.ctg rest (omega arith) g.ctg_fits o.next in
      (rw (c.is, o.is, t.is), t.next, t.there)

  linearity-point-cut : (p q : ℕ) (a : LinearityPoint) (rest : List ℕ) → q ≡ p + 16 → LinearityPointFits a → drop p s ≡ linearity_point_bytes a ++ rest → (linearity_point_at s p ≡ a) × (drop q s ≡ rest) × (q ≤ length s)
  unfolding linearity_point_at linearity_point_bytes
  linearity-point-cut p q a rest e g h =
      let x = cut s p (p + 8) a.clx _ refl g.clx_fits (simp append_assoc at h) in
      let k = cut s (p + 8) q a.clk rest (omega arith) g.clk_fits x.next in
      (rw (x.is, k.is), k.next, k.there)

  temperature-cut : (at : ℕ) (t : Temperature) (rest : List ℕ) → length t.points ≡ 5 → ((i : ℕ) → i < t.ctn → TemperaturePointFits (get_or t.points i no_temperature)) → drop at s ≡ temperature_bytes t ++ rest
      → Section temperature_at s at (at + 1 + 24 * t.ctn) t.ctn (record { ctn = t.ctn; points = used no_temperature t.ctn t.points }) rest
  unfolding temperature_bytes temperature_at
  temperature-cut at t rest five g r =
      let k = cut-count s at (at + 1) t.ctn _ refl r in
      let c = points-cut no_temperature temperature_point_at temperature_point_bytes 24 s (at + 1) t.points TemperaturePointFits t.ctn rest temperature-point-cut k.there g k.next in
      let p = points-are no_temperature temperature_point_at 24 5 s (at + 1) t.ctn t.points five c.is in
      record { counted = k.is; is = rw (k.is, p); next = c.next; there = c.there }

  linearity-cut : (at : ℕ) (l : Linearity) (rest : List ℕ) → length l.points ≡ 7 → ((i : ℕ) → i < l.cln → LinearityPointFits (get_or l.points i no_linearity)) → drop at s ≡ linearity_bytes l ++ rest
      → Section linearity_at s at (at + 1 + 16 * l.cln) l.cln (record { cln = l.cln; points = used no_linearity l.cln l.points }) rest
  unfolding linearity_bytes linearity_at
  linearity-cut at l rest seven g r =
      let k = cut-count s at (at + 1) l.cln _ refl r in
      let c = points-cut no_linearity linearity_point_at linearity_point_bytes 16 s (at + 1) l.points LinearityPointFits l.cln rest linearity-point-cut k.there g k.next in
      let p = points-are no_linearity linearity_point_at 16 7 s (at + 1) l.cln l.points seven c.is in
      record { counted = k.is; is = rw (k.is, p); next = c.next; there = c.there }

  -- ---- the whole sheet

  pub record SheetCut (c : Calibration) : Type 0 where
    pub cell-count : count_at s 0 ≡ 4
    pub system-count : count_at s (system_start (ctn_of s) (cln_of s)) ≡ 5
    pub filter-count : count_at s (filter_start (ctn_of s) (cln_of s)) ≡ 2
    pub says : figures_of s ≡ unused_zero c
    pub ends : sheet_end (ctn_of s) (cln_of s) ≡ sheet_length c
    pub long : length s ≡ sheet_length c

  pub sheet-cut : (c : Calibration) → Representable c → Fitting c → s ≡ sheet_bytes c → SheetCut c
  unfolding sheet_bytes figures_of unused_zero
  sheet-cut c rep g e =
      let a = cell_cut 0 c.cell _ g.cell_fits (simp append_assoc at e) in
      let t = temperature-cut temperature_start c.temperature _ rep.five g.temperature_fits a.next in
      let p : linearity_start (ctn_of s) ≡ linearity_start c.temperature.ctn = ap linearity_start t.counted in
      let l = linearity-cut (linearity_start c.temperature.ctn) c.linearity _ rep.seven g.linearity_fits t.next in
      let m : cln_of s ≡ c.linearity.cln = rw p l.counted in
      let q : system_start (ctn_of s) (cln_of s) ≡ system_start c.temperature.ctn c.linearity.cln = rw (m, p) in
      let y = system-cut (system_start c.temperature.ctn c.linearity.cln) c.system _ g.system_fits l.next in
      let f = filter-cut (filter_start c.temperature.ctn c.linearity.cln) c.filter [] g.filter_fits (y.next ∙ sym (append-nil (filter_bytes c.filter))) in
      let z : length s - sheet_length c ≡ 0 = sym (length-drop (sheet_length c) s) ∙ ap length f.next in
      record {
        cell-count = a.counted;
        system-count = rw q y.counted;
        filter-count = rw q f.counted;
        says = rw (a.is, t.is, q, p, l.is, y.is, f.is);
        ends = omega (arith, q);
        long = omega (arith, z, f.there);
      }
