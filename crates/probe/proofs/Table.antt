-- The platinum table by its index, as the search reads it: the code's array holds its places, and TEMP is on the line between the two
-- neighbours that have the resistance between them. Assumes nothing.
use mathlib.Core.Path.{◌≡◌, refl, sym, subst, ◌∙◌, ap}
use mathlib.Core.List.{List, [], ◌∷◌, map}
use native.Mathlib.Nat.{add-zero}
use Rattle.std.proofs.lemmas.List.{get_or_default, length-map}
use Rattle.std.specs.List.Sorted.{IsPartitionedBy}
use Prim.Native.Nat.{ℕ, zero, suc, ◌+◌, ◌-◌, ◌<◌, ◌^◌}
use native.Mathlib.Omega.{arith}
use lib.IntN.{ℤ, pos, neg_ℤ, ◌+ℤ◌, ◌-ℤ◌, ◌*ℤ◌}
use lib.ListN.{length, get_or, get_or-map}
use lib.Signed.{lt_z, ◌≤ℤ◌, ◌<ℤ◌, ≤ℤ_refl}
use mir.Syntax.{w64}
use mir.Val.{to_z, of_z}
use mir.ValLaws.{to_z_pos}
use Rattle.integers.specs.Within.{◌within◌}
use Rattle.integers.proofs.Difference.{◌⊕◌, ◌⊝◌, ◌⊗◌, nat, minus, eq! }
use Rattle.integers.proofs.Machine.{known, literal, sum, stored, plain, i64s}
use Rattle.integers.proofs.Parts.{ints, parts-lt}
use Rattle.integers.proofs.Order.{yes_le, no_le, yes_lt, lt_yes, ≤_trans, <-≤}
use Rattle.arithmetic.specs.Table.{Point, column, place, line, between}
use Rattle.arithmetic.specs.Keeps.{Rising}
use Rattle.arithmetic.specs.ForCode.{Segment}
use Rattle.arithmetic.proofs.Table.{interpolated-past}
use Rattle.arithmetic.proofs.Segment.{each_at, at_first, at_last, at-between}
use Rattle.probe.specs.Platinum.{entry, degree, point, platinum}
use Rattle.probe.specs.Probe.{temp_of}
use Rattle.probe.specs.Pt100.{celsius}
use Rattle.probe.proofs.Platinum.{points-length, points-at, platinum-rises, platinum-computable}

pub length-is : length platinum ≡ 201
unfolding platinum
length-is = points-length 201 (neg_ℤ (pos 50))

pub point-is : (k : ℕ) → k < 201 → get_or platinum k [] ≡ point (celsius k)
unfolding platinum
point-is k l = points-at 201 (neg_ℤ (pos 50)) k l ∙ ap point (eq! (minus (nat 50) ⊕ nat k) (nat k ⊝ nat 50) (omega arith))

-- the code's array has the places of the table
pub record Resistances (xs : List ℕ) : Type 0 where
  pub same : map pos xs ≡ map place platinum

module _ (k : ℕ) (l : k < 201) where
  pub entry-within : (entry (celsius k)) within (2 ^ 31)
  entry-within = rw (sym (ap place (point-is k l))) (each_at _ platinum k platinum-computable.places (omega (arith, length-is)))

  pub value-within : (celsius k *ℤ degree) within (2 ^ 27)
  value-within = rw (sym (ap (column 1) (point-is k l))) (each_at _ platinum k platinum-computable.values (omega (arith, length-is)))

  module _ {xs : List ℕ} (held : Resistances xs) where
    number_is : pos (get_or xs k 0) ≡ entry (celsius k)
    number_is = sym (get_or-map pos xs k 0) ∙ ap (λ (zs : List ℤ). get_or zs k (pos 0)) held.same ∙ get_or-map place platinum k [] ∙ ap place (point-is k l)

    number-within : (pos (get_or xs k 0)) within (2 ^ 31)
    number-within = rw number_is entry-within

    -- read as an i64
    pub read_is : to_z w64 (get_or xs k 0) ≡ entry (celsius k)
    read_is = to_z_pos w64 (get_or xs k 0) (omega (arith, number-within.abs)) ∙ number_is

-- ---- the table rises, so that in the code's array what lies below a resistance stands before what does not

neighbours_at : (table : List Point) (k : ℕ) → Rising table → suc k < length table → place (get_or table k []) <ℤ place (get_or table (suc k) [])
neighbours_at [] k h l = absurd (omega arith)
neighbours_at (p ∷ []) k h l = absurd (omega arith)
neighbours_at (p ∷ (q ∷ rest)) zero h l = h.0
neighbours_at (p ∷ (q ∷ rest)) (suc k) h l = neighbours_at (q ∷ rest) k h.1 (omega arith)

pub rises-at : (k : ℕ) → suc k < 201 → place (get_or platinum k []) <ℤ place (get_or platinum (suc k) [])
rises-at k l = neighbours_at platinum k platinum-rises (omega (arith, length-is))

climbs : (i n : ℕ) → i + n < 201 → entry (celsius i) ≤ℤ entry (celsius (i + n))
climbs i zero l = rw add-zero (≤ℤ_refl (entry (celsius i)))
climbs i (suc n) l =
    let next : i + suc n ≡ suc (i + n) = omega arith in
    let step : entry (celsius (i + n)) <ℤ entry (celsius (suc (i + n))) = rw (ap place (point-is (i + n) (omega arith)), ap place (point-is (suc (i + n)) (omega arith))) at (rises-at (i + n) (omega arith)) in
    rw next (≤_trans (climbs i n (omega arith)) (<-≤ step))

module _ {xs : List ℕ} (held : Resistances xs) where
  pub count_is : length xs ≡ 201
  count_is = sym (length-map xs pos) ∙ ap length held.same ∙ length-map platinum place ∙ length-is

  pub parted : (r : ℤ) → IsPartitionedBy (λ (x : ℕ). lt_z (to_z w64 x) r) xs
  parted r i j d h l e =
      let m : j < 201 = omega (arith, count_is) in
      let below : entry (celsius j) <ℤ r = lt_yes (rw (read_is j m held) at (rw (get_or_default xs j d 0 l) at e)) in
      let up : entry (celsius i) ≤ℤ entry (celsius j) = rw (let n : i + (j - i) ≡ j = omega arith in n) at (climbs i (j - i) (omega arith)) in
      rw (get_or_default xs i d 0 (omega (arith, count_is)), read_is i (omega arith) held) (yes_lt (parts-lt (entry (celsius i)) r (omega ints)))

-- the °C as the code counts it
index-within : (k : ℕ) → k < 201 → (to_z w64 k) within 200
index-within k l = rw (to_z_pos w64 k (omega arith)) (record { abs = omega arith })

pub counted_is : (k : ℕ) → k < 201 → to_z w64 (of_z w64 (to_z w64 (of_z w64 (to_z w64 k -ℤ pos 50)) *ℤ pos 65536)) ≡ celsius k *ℤ degree
counted_is k l =
    let h = index-within k l in
    plain (search i64s depth 12) tt ∙ ap (λ (z : ℤ). (z -ℤ pos 50) *ℤ pos 65536) (to_z_pos w64 k (omega arith))

pub counted_next : (k : ℕ) → k < 201 → to_z w64 (of_z w64 (celsius k *ℤ degree +ℤ pos 65536)) ≡ celsius k *ℤ degree +ℤ degree
counted_next k l = plain (stored (sum (known (value-within k l)) (literal 65536))) tt

-- ---- TEMP: at and below the first point, above the last

pub temp-first : (r : ℤ) → r ≤ℤ entry (celsius 0) → temp_of r ≡ celsius 0 *ℤ degree
unfolding temp_of
temp-first r h =
    let p = point-is 0 (omega arith) in
    let a : r ≤ℤ place (get_or platinum 0 []) = rw (ap place p) h in
    at_first 1 platinum r (yes_le a) ∙ ap (column 1) p

pub temp-last : (r : ℤ) → entry (celsius 200) <ℤ r → temp_of r ≡ celsius 200 *ℤ degree
unfolding temp_of
temp-last r h =
    let p = point-is 200 (omega arith) in
    interpolated-past 1 platinum 200 platinum-rises (omega (arith, length-is)) (rw (ap place p) h) ∙ at_last 1 platinum r 200 length-is ∙ ap (column 1) p

-- between the point at k and the next, at m
module _ (k m : ℕ) {r : ℤ} (next : m ≡ suc k) (l : m < 201) (above : entry (celsius k) <ℤ r) (upto : r ≤ℤ entry (celsius m)) where
  next-value : celsius k *ℤ degree +ℤ degree ≡ celsius m *ℤ degree
  next-value = eq! ((nat k ⊝ nat 50) ⊗ nat 65536 ⊕ nat 65536) ((nat m ⊝ nat 50) ⊗ nat 65536) (omega arith)

  pub temp-between : temp_of r ≡ line (entry (celsius k)) (celsius k *ℤ degree) (entry (celsius m)) (celsius k *ℤ degree +ℤ degree) r
  unfolding temp_of between
  temp-between =
      let p = point-is k (omega arith) in
      let q = subst (λ (n : ℕ). get_or platinum n [] ≡ point (celsius m)) next (point-is m l) in
      let a : place (get_or platinum k []) <ℤ r = rw (ap place p) above in
      let b : r ≤ℤ place (get_or platinum (suc k) []) = rw (ap place q) upto in
      interpolated-past 1 platinum k platinum-rises (omega (arith, length-is)) a
      ∙ at-between 1 platinum r k (omega (arith, length-is)) (no_le a)
      ∙ rw (yes_le b, p, q, next-value) refl

  pub segment : Segment (entry (celsius k)) (celsius k *ℤ degree) (entry (celsius m)) (celsius k *ℤ degree +ℤ degree) r
  segment = record {
    t₁_in = entry-within k (omega arith);
    v₁_in = value-within k (omega arith);
    t₂_in = entry-within m l;
    v₂_in = rw next-value (value-within m l);
    after = above;
    upto = upto;
  }
