-- Which case of `interpolated` holds, read from the point at an index on: the first value, the last one, or the line to the
-- next point. Assumes nothing.
use mathlib.Core.Path.{◌≡◌, refl}
use mathlib.Core.Bool.{true, false, cond}
use mathlib.Core.List.{List, [], ◌∷◌}
use Prim.Native.Nat.{ℕ, zero, suc, ◌<◌, ◌^◌}
use native.Mathlib.Omega.{arith}
use native.Mathlib.Nat.{mul-le-mul}
use lib.IntN.{ℤ, neg_ℤ, ◌-ℤ◌, ◌*ℤ◌}
use lib.ListN.{length, get_or, drop}
use lib.Signed.{le_z, <ℤ-≤ℤ_trans}
use Rattle.integers.specs.Within.{◌within◌}
use Rattle.integers.proofs.Order.{gap-pos, <-≤}
use Rattle.integers.proofs.Magnitude.{abs-add, abs_neg, abs-mul, abs-between}
use Rattle.arithmetic.specs.Round.{round_div}
use Rattle.arithmetic.specs.Table.{Point, column, place, between, interpolated}
use Rattle.arithmetic.specs.Keeps.{Each}
use Rattle.arithmetic.specs.ForCode.{Segment}
use Rattle.arithmetic.proofs.Round.{round-within}

-- ---- a point at an index

pub each_at : (P : Point → Type 0) (table : List Point) (k : ℕ) → Each P table → k < length table → P (get_or table k [])
each_at P [] k h l = absurd (omega arith)
each_at P (p ∷ rest) zero h l = h.0
each_at P (p ∷ rest) (suc k) h l = each_at P rest k h.1 (omega arith)

-- ---- the cases

pub at_first : (j : ℕ) (table : List Point) (t : ℤ) → le_z t (place (get_or table 0 [])) ≡ true → interpolated j table t ≡ column j (get_or table 0 [])
unfolding interpolated
at_first j [] t e = refl
at_first j (p ∷ []) t e = refl
at_first j (p ∷ (q ∷ rest)) t e = rw e

pub at_last : (j : ℕ) (table : List Point) (t : ℤ) (i : ℕ) → length table ≡ suc i → interpolated j (drop i table) t ≡ column j (get_or table i [])
unfolding interpolated
at_last j [] t i l = absurd (omega arith)
at_last j (p ∷ []) t zero l = refl
at_last j (p ∷ (q ∷ rest)) t zero l = absurd (omega arith)
at_last j (p ∷ rest) t (suc i) l = at_last j rest t i (omega arith)

-- past the point at i: the line to the next one, or the points from that on
pub at-between : (j : ℕ) (table : List Point) (t : ℤ) (i : ℕ) → suc i < length table → le_z t (place (get_or table i [])) ≡ false
    → interpolated j (drop i table) t ≡ cond (le_z t (place (get_or table (suc i) []))) (between j (get_or table i []) (get_or table (suc i) []) t) (interpolated j (drop (suc i) table) t)
unfolding interpolated
at-between j [] t i l e = absurd (omega arith)
at-between j (p ∷ []) t zero l e = absurd (omega arith)
at-between j (p ∷ (q ∷ rest)) t zero l e = rw e
at-between j (p ∷ rest) t (suc i) l e = at-between j rest t i (omega arith) e

-- ---- how far the line can rise

pub rise-within : {t₁ v₁ t₂ v₂ t : ℤ} → Segment t₁ v₁ t₂ v₂ t → (round_div ((v₂ -ℤ v₁) *ℤ (t -ℤ t₁)) (t₂ -ℤ t₁)) within (2 ^ 28)
rise-within {t₁} {v₁} {t₂} {v₂} {t} s =
    round-within ((v₂ -ℤ v₁) *ℤ (t -ℤ t₁)) (t₂ -ℤ t₁) (gap-pos (<ℤ-≤ℤ_trans s.after s.upto))
    (record { abs = rw abs-mul (mul-le-mul (omega (arith, abs-add v₂ (neg_ℤ v₁), abs_neg v₁, s.v₁_in.abs, s.v₂_in.abs)) (omega (arith, abs-between (<-≤ s.after) s.upto))) })
