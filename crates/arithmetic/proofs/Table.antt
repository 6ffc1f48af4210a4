-- Laws of `interpolated`, for every table and column: its value at a point, and that it stays between the values, so within
-- every bound that they keep. Of rounding they use that it keeps whole bounds. Assumes nothing.
use mathlib.Core.Path.{◌≡◌, refl, ◌∙◌, ap}
use mathlib.Core.Bool.{cond}
use mathlib.Core.List.{List, [], ◌∷◌}
use Prim.Native.Nat.{ℕ, zero, suc, ◌<◌, ◌≤◌}
use native.Mathlib.Omega.{arith}
use lib.IntN.{ℤ, ◌+ℤ◌, ◌-ℤ◌, ◌*ℤ◌}
use lib.ListN.{length, get_or, drop}
use lib.Signed.{le_z, ◌≤ℤ◌, ◌<ℤ◌, ≤ℤ_refl, <ℤ-≤ℤ_trans}
use Rattle.integers.specs.Within.{◌within◌}
use Rattle.integers.proofs.Parts.{le_parts}
use Rattle.integers.proofs.Difference.{⟨◌⟩, ◌⊕◌, ◌⊝◌, ◌⊗◌, le!, le?, eq! }
use Rattle.integers.proofs.Order.{pick, le_yes, le-no, yes_le, no_le, product, gap-pos, <-≤}
use Rattle.integers.proofs.Magnitude.{within_of, within-most, within-least, within_more}
use Rattle.arithmetic.specs.Round.{round_div}
use Rattle.arithmetic.specs.Table.{Point, column, place, between, interpolated}
use Rattle.arithmetic.specs.Keeps.{ColumnWithin, Rising, Each}
use Rattle.arithmetic.proofs.Round.{round-at-least, round-at-most, round_whole}

-- ---- at a point

pub between-at : (j : ℕ) (p q : Point) → place p <ℤ place q → between j p q (place q) ≡ column j q
unfolding between
between-at j p q h =
    ap (λ (r : ℤ). column j p +ℤ r) (round_whole (column j q -ℤ column j p) (place q -ℤ place p) (gap-pos h))
    ∙ eq! (⟨ column j p ⟩ ⊕ (⟨ column j q ⟩ ⊝ ⟨ column j p ⟩)) ⟨ column j q ⟩ (omega arith)

-- every later place is above the first
later : (p : Point) (table : List Point) (k : ℕ) → Rising (p ∷ table) → k < length table → place p <ℤ place (get_or table k [])
later p [] k h l = absurd (omega arith)
later p (q ∷ rest) zero h l = h.0
later p (q ∷ rest) (suc k) h l = <ℤ-≤ℤ_trans h.0 (<-≤ (later q rest k h.1 (omega arith)))

pub interpolated-at : (j : ℕ) (table : List Point) (k : ℕ) → Rising table → k < length table → interpolated j table (place (get_or table k [])) ≡ column j (get_or table k [])
unfolding interpolated
interpolated-at j [] k h l = absurd (omega arith)
interpolated-at j (p ∷ []) zero h l = refl
interpolated-at j (p ∷ []) (suc k) h l = absurd (omega arith)
interpolated-at j (p ∷ (q ∷ rest)) zero h l = rw (yes_le (≤ℤ_refl (place p)))
interpolated-at j (p ∷ (q ∷ rest)) (suc zero) h l = rw (no_le h.0, yes_le (≤ℤ_refl (place q))) (between-at j p q h.0)
interpolated-at j (p ∷ (q ∷ rest)) (suc (suc k)) h l =
    let above = later q rest k h.1 (omega arith) in
    rw (no_le (later p (q ∷ rest) (suc k) h (omega arith)), no_le above) (interpolated-at j (q ∷ rest) (suc k) h.1 (omega arith))

-- ---- past a point

-- t is past the first point, as it is past a later one
past_first : (p : Point) (table : List Point) (k : ℕ) {t : ℤ} → Rising (p ∷ table) → k < length (p ∷ table) → place (get_or (p ∷ table) k []) <ℤ t → place p <ℤ t
past_first p table zero h l past = past
past_first p table (suc k) h l past = <ℤ-≤ℤ_trans (later p table k h (omega arith)) (<-≤ past)

-- the points before it are of no account
pub interpolated-past : (j : ℕ) (table : List Point) (k : ℕ) {t : ℤ} → Rising table → k < length table → place (get_or table k []) <ℤ t → interpolated j table t ≡ interpolated j (drop k table) t
unfolding interpolated
interpolated-past j table zero h l past = refl
interpolated-past j [] (suc k) h l past = absurd (omega arith)
interpolated-past j (p ∷ []) (suc k) h l past = absurd (omega arith)
interpolated-past j (p ∷ (q ∷ rest)) (suc k) h l past =
    rw (no_le (past_first p (q ∷ rest) (suc k) h l past), no_le (past_first q rest k h.1 (omega arith) past)) (interpolated-past j (q ∷ rest) k h.1 (omega arith) past)

-- ---- the hull

-- between lo and hi
pub record Between (lo hi z : ℤ) : Type 0 where
  pub least : lo ≤ℤ z
  pub most : z ≤ℤ hi

-- between neighbours it stays between any bounds of their two values: the smaller and the larger of them, for one
pub between-hull : {lo hi : ℤ} (j : ℕ) (p q : Point) (t : ℤ) → place p <ℤ t → t ≤ℤ place q → Between lo hi (column j p) → Between lo hi (column j q) → Between lo hi (between j p q t)
unfolding between
between-hull {lo} {hi} j p q t a b hp hq =
    let P = ⟨ column j p ⟩ in
    let Q = ⟨ column j q ⟩ in
    let X = ⟨ place p ⟩ in
    let Y = ⟨ place q ⟩ in
    let N = (Q ⊝ P) ⊗ (⟨ t ⟩ ⊝ X) in
    let n = (column j q -ℤ column j p) *ℤ (t -ℤ place p) in
    let w = place q -ℤ place p in
    let R = ⟨ round_div n w ⟩ in
    let above = gap-pos (<ℤ-≤ℤ_trans a b) in
    let x = le_parts (<-≤ a) in
    let y = le_parts b in
    let l : ((lo -ℤ column j p) *ℤ w) ≤ℤ n = le! ((⟨ lo ⟩ ⊝ P) ⊗ (Y ⊝ X)) N (omega (arith, product (le_parts hq.least) x, product (le_parts hp.least) y)) in
    let u : n ≤ℤ ((hi -ℤ column j p) *ℤ w) = le! N ((⟨ hi ⟩ ⊝ P) ⊗ (Y ⊝ X)) (omega (arith, product (le_parts hq.most) x, product (le_parts hp.most) y)) in
    record {
      least = le! ⟨ lo ⟩ (P ⊕ R) (omega (arith, le? (⟨ lo ⟩ ⊝ P) R (round-at-least n (lo -ℤ column j p) w above l)));
      most = le! (P ⊕ R) ⟨ hi ⟩ (omega (arith, le? R (⟨ hi ⟩ ⊝ P) (round-at-most n (hi -ℤ column j p) w above u)));
    }

pub interpolated-hull : {lo hi : ℤ} (j : ℕ) (p : Point) (rest : List Point) (t : ℤ) → Each (λ q. Between lo hi (column j q)) (p ∷ rest) → Between lo hi (interpolated j (p ∷ rest) t)
unfolding interpolated
interpolated-hull j p [] t h = h.0
interpolated-hull {lo} {hi} j p (q ∷ rest) t h =
    pick (le_z t (place p)) (column j p) (cond (le_z t (place q)) (between j p q t) (interpolated j (q ∷ rest) t)) (Between lo hi)
    (λ a. h.0)
    (λ a. pick (le_z t (place q)) (between j p q t) (interpolated j (q ∷ rest) t) (Between lo hi)
    (λ b. between-hull j p q t (le-no a) (le_yes b) h.0 h.1.0)
    (λ b. interpolated-hull j q rest t h.1))

pub each_map : {P Q : Point → Type 0} → ((p : Point) → P p → Q p) → (table : List Point) → Each P table → Each Q table
each_map f [] h = tt
each_map f (p ∷ rest) h = (f p h.0, each_map f rest h.1)

pub interpolated-within : {n : ℕ} (j : ℕ) (table : List Point) (t : ℤ) → ColumnWithin j n table → (interpolated j table t) within n
unfolding interpolated
interpolated-within j [] t h = record { abs = omega arith }
interpolated-within {n} j (p ∷ rest) t h =
    let b = interpolated-hull j p rest t (each_map (λ q k. record { least = within-least k; most = within-most k }) (p ∷ rest) h) in
    within_of b.least b.most

pub column-within-more : (j m n : ℕ) (table : List Point) → m ≤ n → ColumnWithin j m table → ColumnWithin j n table
column-within-more j m n table l h = each_map (λ p k. within_more k l) table h
