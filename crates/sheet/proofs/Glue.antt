-- From a sheet whose counts are right and which is as long as they say, to the bytes of what it says: they are the sheet.
-- Assumes nothing.
use Rattle.std.proofs.Common.{◌≡◌, ℕ, ◌+◌, ◌*◌, ◌≤◌, min, List, [], ◌++◌, length, drop, sym, subst, refl, ◌∙◌, append_assoc, append-nil, arith}
use lib.Seq.{drop-length}
use Rattle.figures.specs.Unused.{no_linearity, no_temperature}
use Rattle.sheet.specs.Bytes.{count_at, Bytes}
use Rattle.sheet.specs.Places.{temperature_point_size, linearity_point_size, temperature_start, linearity_start, system_start, filter_start, sheet_end}
use Rattle.sheet.specs.Read.{cell_at, temperature_point_at, linearity_point_at, points_at, temperature_at, linearity_at, system_at, filter_at, figures_of, ctn_of, cln_of}
use Rattle.sheet.specs.Write.{cell_bytes, temperature_point_bytes, linearity_point_bytes, temperature_bytes, linearity_bytes, system_bytes, filter_bytes, sheet_bytes}
use Rattle.sheet.proofs.EightBytes.{glue, glue-count}
use Rattle.sheet.proofs.Points.{points-at, points-glue}

module _ (s : List ℕ) (b : Bytes s) where
  cell-glue : (at : ℕ) {rest : List ℕ} → count_at s at ≡ 4 → at + 33 ≤ length s → drop (at + 33) s ≡ rest → drop at s ≡ cell_bytes (cell_at s at) ++ rest
  unfolding cell_at cell_bytes
  cell-glue at {rest} n l r =
      let d = glue s (at + 25) (at + 33) b (omega arith) l r in
      let c = glue s (at + 17) (at + 25) b (omega arith) (omega arith) d in
      let g = glue s (at + 9) (at + 17) b (omega arith) (omega arith) c in
      let o = glue s (at + 1) (at + 9) b (omega arith) (omega arith) g in
      simp append_assoc (glue-count s at (at + 1) refl (omega arith) o ∙ rw n)

  system-glue : (at : ℕ) {rest : List ℕ} → count_at s at ≡ 5 → at + 41 ≤ length s → drop (at + 41) s ≡ rest → drop at s ≡ system_bytes (system_at s at) ++ rest
  unfolding system_at system_bytes
  system-glue at {rest} n l r =
      let z = glue s (at + 33) (at + 41) b (omega arith) l r in
      let d = glue s (at + 25) (at + 33) b (omega arith) (omega arith) z in
      let c = glue s (at + 17) (at + 25) b (omega arith) (omega arith) d in
      let g = glue s (at + 9) (at + 17) b (omega arith) (omega arith) c in
      let o = glue s (at + 1) (at + 9) b (omega arith) (omega arith) g in
      simp append_assoc (glue-count s at (at + 1) refl (omega arith) o ∙ rw n)

  filter-glue : (at : ℕ) {rest : List ℕ} → count_at s at ≡ 2 → at + 17 ≤ length s → drop (at + 17) s ≡ rest → drop at s ≡ filter_bytes (filter_at s at) ++ rest
  unfolding filter_at filter_bytes
  filter-glue at {rest} n l r =
      let g = glue s (at + 9) (at + 17) b (omega arith) l r in
      let o = glue s (at + 1) (at + 9) b (omega arith) (omega arith) g in
      simp append_assoc (glue-count s at (at + 1) refl (omega arith) o ∙ rw n)

  temperature-point-glue : (p q : ℕ) (r : List ℕ) → q ≡ p + 24 → q ≤ length s → drop q s ≡ r → drop p s ≡ temperature_point_bytes (temperature_point_at s p) ++ r
  unfolding temperature_point_at temperature_point_bytes
  temperature-point-glue p q r e l h =
      simp append_assoc (glue s p (p + 8) b refl (omega arith) (glue s (p + 8) (p + 16) b (omega arith) (omega arith) (glue s (p + 16) q b (omega arith) l h)))

  linearity-point-glue : (p q : ℕ) (r : List ℕ) → q ≡ p + 16 → q ≤ length s → drop q s ≡ r → drop p s ≡ linearity_point_bytes (linearity_point_at s p) ++ r
  unfolding linearity_point_at linearity_point_bytes
  linearity-point-glue p q r e l h = simp append_assoc (glue s p (p + 8) b refl (omega arith) (glue s (p + 8) q b (omega arith) l h))

  temperature-glue : (at : ℕ) {rest : List ℕ} → count_at s at ≤ 5 → at + 1 + 24 * count_at s at ≤ length s → drop (at + 1 + 24 * count_at s at) s ≡ rest → drop at s ≡ temperature_bytes (temperature_at s at) ++ rest
  unfolding temperature_at temperature_bytes
  temperature-glue at {rest} n l r =
      let k = count_at s at in
      let m : min k 5 ≡ k = omega arith in
      let t = points-glue no_temperature temperature_point_at temperature_point_bytes 24 s (at + 1) (points_at no_temperature temperature_point_at 24 5 s (at + 1) k) k temperature-point-glue (λ i h. points-at no_temperature temperature_point_at 24 5 s (at + 1) k i n h) l r in
      subst (λ x. drop at s ≡ temperature_bytes (record { ctn = k; points = points_at no_temperature temperature_point_at temperature_point_size 5 s (at + 1) x }) ++ rest) (sym m) (glue-count s at (at + 1) refl (omega arith) t)

  linearity-glue : (at : ℕ) {rest : List ℕ} → count_at s at ≤ 7 → at + 1 + 16 * count_at s at ≤ length s → drop (at + 1 + 16 * count_at s at) s ≡ rest → drop at s ≡ linearity_bytes (linearity_at s at) ++ rest
  unfolding linearity_at linearity_bytes
  linearity-glue at {rest} n l r =
      let k = count_at s at in
      let m : min k 7 ≡ k = omega arith in
      let t = points-glue no_linearity linearity_point_at linearity_point_bytes 16 s (at + 1) (points_at no_linearity linearity_point_at 16 7 s (at + 1) k) k linearity-point-glue (λ i h. points-at no_linearity linearity_point_at 16 7 s (at + 1) k i n h) l r in
      subst (λ x. drop at s ≡ linearity_bytes (record { cln = k; points = points_at no_linearity linearity_point_at linearity_point_size 7 s (at + 1) x }) ++ rest) (sym m) (glue-count s at (at + 1) refl (omega arith) t)

  -- a sheet whose counts are right, and which ends where they say
  pub record Complete : Type 0 where
    pub cell-count : count_at s 0 ≡ 4
    pub temperature-count : ctn_of s ≤ 5
    pub linearity-count : cln_of s ≤ 7
    pub system-count : count_at s (system_start (ctn_of s) (cln_of s)) ≡ 5
    pub filter-count : count_at s (filter_start (ctn_of s) (cln_of s)) ≡ 2
    pub long : length s ≡ sheet_end (ctn_of s) (cln_of s)

  pub sheet-glue : Complete → sheet_bytes (figures_of s) ≡ s
  unfolding figures_of sheet_bytes
  sheet-glue h =
      let e : sheet_end (ctn_of s) (cln_of s) ≡ length s = sym h.long in
      let none : drop (sheet_end (ctn_of s) (cln_of s)) s ≡ [] = rw e (drop-length s) in
      let z = filter-glue (filter_start (ctn_of s) (cln_of s)) h.filter-count (omega (arith, h.long)) none in
      let y = system-glue (system_start (ctn_of s) (cln_of s)) h.system-count (omega (arith, h.long)) z in
      let l = linearity-glue (linearity_start (ctn_of s)) h.linearity-count (omega (arith, h.long)) y in
      let t = temperature-glue temperature_start h.temperature-count (omega (arith, h.long)) l in
      let c = cell-glue 0 h.cell-count (omega (arith, h.long)) t in
      sym (simp append_assoc (simp append-nil at c))
