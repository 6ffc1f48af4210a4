-- The platinum table: its point at an index, and that its places rise, by a test that is computed once over all entries. Assumes nothing.
use mathlib.Core.Path.{◌≡◌, refl, ◌∙◌, ap}
use mathlib.Core.Bool.{Bool, true, ◌&&◌}
use mathlib.Core.List.{[]}
use Prim.Native.Nat.{ℕ, zero, suc, ◌<◌, ◌^◌}
use native.Mathlib.Omega.{arith}
use lib.Dec.{T, leb, leb→le}
use lib.IntN.{ℤ, pos, neg_ℤ, nat_abs, ◌+ℤ◌, ◌*ℤ◌}
use lib.ListN.{length, get_or}
use lib.Signed.{lt_z}
use Rattle.integers.proofs.Difference.{⟨◌⟩, ◌⊕◌, nat, eq! }
use Rattle.integers.proofs.Machine.{and_left, and_right}
use Rattle.arithmetic.specs.Round.{round_div, round_magnitude}
use Rattle.arithmetic.specs.Keeps.{Rising}
use Rattle.arithmetic.specs.ForCode.{Computable}
use Rattle.probe.specs.Platinum.{formula, entry, degree, point, points, platinum}

-- ---- the points from t on

pub points-length : (n : ℕ) (t : ℤ) → length (points n t) ≡ n
points-length zero t = refl
points-length (suc n) t = ap suc (points-length n (t +ℤ pos 1))

pub points-at : (n : ℕ) (t : ℤ) (k : ℕ) → k < n → get_or (points n t) k [] ≡ point (t +ℤ pos k)
points-at zero t k l = absurd (omega arith)
points-at (suc n) t zero l = ap point (eq! ⟨ t ⟩ (⟨ t ⟩ ⊕ nat 0) (omega arith))
points-at (suc n) t (suc k) l = points-at n (t +ℤ pos 1) k (omega arith) ∙ ap point (eq! (⟨ t ⟩ ⊕ nat 1 ⊕ nat k) (⟨ t ⟩ ⊕ nat (suc k)) (omega arith))

-- ---- "every entry .. is above the one before"

-- of n + 1 points
abbrev rises : ℕ → ℤ → Bool
rises zero t = true
rises (suc n) t = lt_z (entry t) (entry (t +ℤ pos 1)) && rises n (t +ℤ pos 1)

rising : (n : ℕ) (t : ℤ) → T (rises n t) → Rising (points (suc n) t)
rising zero t h = tt
rising (suc n) t h =
    let u = t +ℤ pos 1 in
    let first = lt_z (entry t) (entry u) in
    (record { lt = and_left first (rises n u) h }, rising n u (and_right first (rises n u) h))

pub platinum-rises : Rising platinum
unfolding platinum entry formula round_div round_magnitude
platinum-rises = rising 200 (neg_ℤ (pos 50)) tt

-- ---- no figure is too large for `line_at`

small : ℕ → ℤ → Bool
small zero t = true
small (suc n) t = (leb (nat_abs (entry t)) (2 ^ 31) && leb (nat_abs (t *ℤ degree)) (2 ^ 27)) && small n (t +ℤ pos 1)

computable : (n : ℕ) (t : ℤ) → T (small n t) → Computable 1 (points n t)
unfolding small
computable zero t h = record { places = tt; values = tt }
computable (suc n) t h =
    let a = leb (nat_abs (entry t)) (2 ^ 31) in
    let b = leb (nat_abs (t *ℤ degree)) (2 ^ 27) in
    let rest = small n (t +ℤ pos 1) in
    let first = and_left (a && b) rest h in
    let more = computable n (t +ℤ pos 1) (and_right (a && b) rest h) in
    record {
      places = (record { abs = leb→le (nat_abs (entry t)) (2 ^ 31) (and_left a b first) }, more.places);
      values = (record { abs = leb→le (nat_abs (t *ℤ degree)) (2 ^ 27) (and_right a b first) }, more.values);
    }

pub platinum-computable : Computable 1 platinum
unfolding platinum small entry formula round_div round_magnitude
platinum-computable = computable 201 (neg_ℤ (pos 50)) tt
