-- The table as the code has it, the first `count` of a list of whatever is a point: the loop that passes those below t, and the value
-- where it stops. Assumes nothing.
use mathlib.Core.Path.{◌≡◌, refl, sym, ap}
use mathlib.Core.Bool.{true, false}
use mathlib.Core.List.{List, [], ◌∷◌, map}
use Prim.Native.Nat.{ℕ, zero, suc, ◌+◌, ◌<◌, ◌≤◌}
use native.Mathlib.Omega.{arith}
use lib.IntN.{ℤ}
use lib.ListN.{length, get_or, take, length-take}
use lib.Seq.{get_or-take}
use borrow.Author.Count.{below_more}
use lib.Signed.{le_z}
use Rattle.std.proofs.lemmas.List.{get_or-map, length-map}
use Rattle.integers.proofs.Order.{le_yes, le-no}
use Rattle.arithmetic.specs.Table.{Point, column, place, between, interpolated}
use Rattle.arithmetic.specs.Around.{Neighbouring}
use Rattle.arithmetic.specs.ForCode.{Computable, Segment}
use Rattle.arithmetic.proofs.Segment.{each_at, at_first}

-- ---- the value, by the points that t lies past

between-past : (j : ℕ) (table : List Point) (t : ℤ) (i : ℕ) → suc i < length table → ((k : ℕ) → k ≤ i → le_z t (place (get_or table k [])) ≡ false) → le_z t (place (get_or table (suc i) [])) ≡ true
    → between j (get_or table i []) (get_or table (suc i) []) t ≡ interpolated j table t
unfolding interpolated
between-past j [] t i l a b = absurd (omega arith)
between-past j (p ∷ []) t i l a b = absurd (omega arith)
between-past j (p ∷ (q ∷ rest)) t zero l a b = rw (a 0 (omega arith), b)
between-past j (p ∷ (q ∷ rest)) t (suc i) l a b = rw (a 0 (omega arith), a 1 (omega arith)) (between-past j (q ∷ rest) t i (omega arith) (λ k h. a (suc k) (omega arith)) b)

value-past : (j : ℕ) (table : List Point) (t : ℤ) (i : ℕ) → length table ≡ suc i → ((k : ℕ) → k ≤ i → le_z t (place (get_or table k [])) ≡ false) → column j (get_or table i []) ≡ interpolated j table t
unfolding interpolated
value-past j [] t i l a = absurd (omega arith)
value-past j (p ∷ []) t zero l a = refl
value-past j (p ∷ []) t (suc i) l a = absurd (omega arith)
value-past j (p ∷ (q ∷ rest)) t zero l a = absurd (omega arith)
value-past j (p ∷ (q ∷ rest)) t (suc i) l a = rw (a 0 (omega arith), a 1 (omega arith)) (value-past j (q ∷ rest) t i (omega arith) (λ k h. a (suc k) (omega arith)))

-- ---- the points as the code reads them, the first `count` of what may be anything

pub record Row (table : List Point) (i : ℕ) (p : Point) : Type 0 where
  pub inside : i < length table
  pub is : p ≡ get_or table i []

pub read : {P : Type 0} (point : P → Point) (points : List P) (count i : ℕ) (p : P) → i < count → i < length points → p ≡ get_or points i p → Row (map point (take count points)) i (point p)
read point points count i p c l e =
    let n : i < length (take count points) = simp length-take (omega arith) in
    record { inside = rw length-map n; is = rw (get_or-map point (take count points) i p [] n, get_or-take count points i p c) (ap point e) }

-- ---- the loop

-- t lies past the first n points, of which p is the last
pub record Passed (table : List Point) (t : ℤ) (n : ℕ) (p : Point) : Type 0 where
  pub at : ℕ
  pub next : n ≡ suc at
  pub row : Row table at p
  pub past : (k : ℕ) → k < n → le_z t (place (get_or table k [])) ≡ false

pub value-first : {table : List Point} {p : Point} (t : ℤ) → Row table 0 p → le_z t (place p) ≡ true → (j : ℕ) → column j p ≡ interpolated j table t
value-first {table} t r e j = rw r.is (sym (at_first j table t (rw r.is at e)))

module _ {table : List Point} {t : ℤ} {p : Point} where
  pub passed_first : Row table 0 p → le_z t (place p) ≡ false → Passed table t 1 p
  passed_first r e = record { at = 0; next = refl; row = r; past = below_more (λ k. le_z t (place (get_or table k [])) ≡ false) 0 (λ k h. absurd (omega arith)) (rw r.is at e) }

  pub value-last : {n : ℕ} → Passed table t n p → length table ≤ n → (j : ℕ) → column j p ≡ interpolated j table t
  value-last {n} a l j =
      let inside = a.row.inside in
      let e = a.next in
      rw a.row.is (value-past j table t a.at (omega arith) (λ k h. a.past k (omega arith)))

  -- q is the next point
  module _ {q : Point} {n : ℕ} (a : Passed table t n p) (r : Row table n q) where
    pub passed-more : le_z t (place q) ≡ false → Passed table t (n + 1) q
    passed-more e = record { at = n; next = omega arith; row = r; past = below_more (λ k. le_z t (place (get_or table k [])) ≡ false) n a.past (rw r.is at e) }

    after : Row table (suc a.at) q
    after = rw a.next at r

    before : (k : ℕ) → k ≤ a.at → le_z t (place (get_or table k [])) ≡ false
    before k h = let e = a.next in a.past k (omega arith)

    pub value-between : le_z t (place q) ≡ true → (j : ℕ) → between j p q t ≡ interpolated j table t
    value-between e j = rw (a.row.is, after.is) (between-past j table t a.at after.inside before (rw after.is at e))

    pub neighbouring : le_z t (place q) ≡ true → Neighbouring table p q t
    neighbouring e = record {
      at = a.at;
      inside = after.inside;
      first_is = a.row.is;
      second_is = after.is;
      after = rw a.row.is (le-no (before a.at (omega arith)));
      upto = le_yes e;
    }

-- ---- the line

pub segment : {j : ℕ} {table : List Point} {p q : Point} {t : ℤ} → Computable j table → Neighbouring table p q t → Segment (place p) (column j p) (place q) (column j q) t
segment {j} {table} f n = record {
  t₁_in = rw n.first_is (each_at _ table n.at f.places (omega (arith, n.inside)));
  v₁_in = rw n.first_is (each_at _ table n.at f.values (omega (arith, n.inside)));
  t₂_in = rw n.second_is (each_at _ table (suc n.at) f.places n.inside);
  v₂_in = rw n.second_is (each_at _ table (suc n.at) f.values n.inside);
  after = n.after;
  upto = n.upto;
}
