-- How `interpolated` moves from one place to a later one, for every table: as it moves in each segment (`moves`). So it never falls where the
-- values do not (`interpolated-climbs`); and where the table is gentle, a place and its value together never fall (`corrected-climbs`). Of
-- rounding they use `round_mono` and `round-apart`, which follow from `round-near` alone. Assumes nothing.
use mathlib.Core.Path.{◌≡◌, ◌∙◌, ap, subst}
use mathlib.Core.Bool.{cond}
use mathlib.Core.List.{List, [], ◌∷◌}
use mathlib.Core.Logic.{⊎_elim}
use Prim.Native.Nat.{ℕ, ◌*◌, ◌≤◌}
use native.Mathlib.Omega.{arith}
use lib.IntN.{ℤ, pos, nat_abs, ◌+ℤ◌, ◌-ℤ◌, ◌*ℤ◌}
use lib.Signed.{le_z, ◌≤ℤ◌, ◌<ℤ◌, ≤ℤ_refl, <ℤ-≤ℤ_trans}
use Rattle.integers.proofs.Parts.{ints, abs-parts, le_parts, lt-parts, nonneg-parts}
use Rattle.integers.proofs.Difference.{⟨◌⟩, nat, ◌⊕◌, ◌⊝◌, ◌⊗◌, le!, lt!, le?, lt?, eq! }
use Rattle.integers.proofs.Order.{pick, le_yes, le-no, yes_le, no_le, product, gap-pos, <-≤, ≤-or->, ≤_trans, ≤-antisym}
use Rattle.arithmetic.specs.Round.{round_div}
use Rattle.arithmetic.specs.Table.{Point, column, place, between, interpolated}
use Rattle.arithmetic.specs.Keeps.{Neighbours, Rising, Gentle}
use Rattle.arithmetic.proofs.Round.{round_mono, round-apart, round_whole}
use Rattle.arithmetic.proofs.Table.{between-at}

-- ---- from a place to a later one

between_first : (j : ℕ) (p q : Point) → place p <ℤ place q → between j p q (place p) ≡ column j p
unfolding between
between_first j p q h =
    let w = place q -ℤ place p in
    let none : (column j q -ℤ column j p) *ℤ (place p -ℤ place p) ≡ pos 0 *ℤ w =
    eq! ((⟨ column j q ⟩ ⊝ ⟨ column j p ⟩) ⊗ (⟨ place p ⟩ ⊝ ⟨ place p ⟩)) (nat 0 ⊗ (⟨ place q ⟩ ⊝ ⟨ place p ⟩)) (omega arith) in
    ap (λ (n : ℤ). column j p +ℤ round_div n w) none
    ∙ ap (λ (r : ℤ). column j p +ℤ r) (round_whole (pos 0) w (gap-pos h))
    ∙ eq! (⟨ column j p ⟩ ⊕ nat 0) ⟨ column j p ⟩ (omega arith)

-- R t u a b is said of two places, t not after u, and their values a and b: it holds where the value stays, and from place to place
record Carried (R : ℤ → ℤ → ℤ → ℤ → Type 0) : Type 0 where
  stays : {t u a : ℤ} → t ≤ℤ u → R t u a a
  goes_on : {t u v a b c : ℤ} → R t u a b → R u v b c → R t v a c

module _ (R : ℤ → ℤ → ℤ → ℤ → Type 0) (law : Carried R) (j : ℕ) where
  -- in a segment
  abbrev Moves : Point → Point → Type 0
  Moves p q = (t u : ℤ) → t ≤ℤ u → R t u (between j p q t) (between j p q u)

  -- from the first point on
  from_first : (p : Point) (rest : List Point) {u : ℤ} → Rising (p ∷ rest) → Neighbours Moves (p ∷ rest) → place p ≤ℤ u → R (place p) u (column j p) (interpolated j (p ∷ rest) u)
  unfolding interpolated
  from_first p [] r m l = law.stays l
  from_first p (q ∷ rest) {u} r m l =
      pick (le_z u (place p)) (column j p) (cond (le_z u (place q)) (between j p q u) (interpolated j (q ∷ rest) u)) (λ (v : ℤ). R (place p) u (column j p) v)
      (λ a. law.stays l)
      (λ a. pick (le_z u (place q)) (between j p q u) (interpolated j (q ∷ rest) u) (λ (v : ℤ). R (place p) u (column j p) v)
      (λ b. from u l)
      (λ b. law.goes_on (subst (λ (v : ℤ). R (place p) (place q) (column j p) v) (between-at j p q r.0) (from (place q) (<-≤ r.0))) (from_first q rest r.1 m.1 (<-≤ (le-no b)))))
    where
      from : (u : ℤ) → place p ≤ℤ u → R (place p) u (column j p) (between j p q u)
      from u l = subst (λ (v : ℤ). R (place p) u v (between j p q u)) (between_first j p q r.0) (m.0 (place p) u l)

  moves : (table : List Point) {t u : ℤ} → Rising table → Neighbours Moves table → t ≤ℤ u → R t u (interpolated j table t) (interpolated j table u)
  unfolding interpolated
  moves [] r m l = law.stays l
  moves (p ∷ []) r m l = law.stays l
  moves (p ∷ (q ∷ rest)) {t} {u} r m l =
      pick (le_z t (place p)) (column j p) (cond (le_z t (place q)) (between j p q t) (interpolated j (q ∷ rest) t)) (λ (v : ℤ). R t u v (interpolated j (p ∷ (q ∷ rest)) u))
      (λ a. ⊎_elim
      (λ (k : u ≤ℤ place p). rw (yes_le k) (law.stays l))
      (λ (k : place p <ℤ u). law.goes_on (law.stays (le_yes a)) (from_first p (q ∷ rest) r m (<-≤ k)))
      (≤-or-> u (place p)))
      (λ a. rw (no_le (<ℤ-≤ℤ_trans (le-no a) l)) (pick (le_z t (place q)) (between j p q t) (interpolated j (q ∷ rest) t) (λ (v : ℤ). R t u v (cond (le_z u (place q)) (between j p q u) (interpolated j (q ∷ rest) u)))
      (λ b. pick (le_z u (place q)) (between j p q u) (interpolated j (q ∷ rest) u) (λ (v : ℤ). R t u (between j p q t) v)
      (λ c. m.0 t u l)
      (λ c. law.goes_on (subst (λ (v : ℤ). R t (place q) (between j p q t) v) (between-at j p q r.0) (m.0 t (place q) (le_yes b))) (from_first q rest r.1 m.1 (<-≤ (le-no c)))))
      (λ b. rw (no_le (<ℤ-≤ℤ_trans (le-no b) l)) (moves (q ∷ rest) r.1 m.1 l))))

-- what two facts of neighbours tell together
both-neighbours : {P Q S : Point → Point → Type 0} → ((p q : Point) → P p q → Q p q → S p q) → (table : List Point) → Neighbours P table → Neighbours Q table → Neighbours S table
both-neighbours f [] g h = tt
both-neighbours f (p ∷ []) g h = tt
both-neighbours f (p ∷ (q ∷ rest)) g h = (f p q g.0 h.0, both-neighbours f (q ∷ rest) g.1 h.1)

-- ---- where the values never fall

-- column j never falls
abbrev pub Climbing : ℕ → List Point → Type 0
Climbing j = Neighbours (λ p q. column j p ≤ℤ column j q)

-- within a segment, by `round_mono`
between-climbs : (j : ℕ) (p q : Point) → place p <ℤ place q → column j p ≤ℤ column j q → (t u : ℤ) → t ≤ℤ u → between j p q t ≤ℤ between j p q u
unfolding between
between-climbs j p q rise climb t u h =
    let P = ⟨ column j p ⟩ in
    let D = ⟨ column j q ⟩ ⊝ P in
    let X = ⟨ place p ⟩ in
    let w = place q -ℤ place p in
    let n = (column j q -ℤ column j p) *ℤ (t -ℤ place p) in
    let m = (column j q -ℤ column j p) *ℤ (u -ℤ place p) in
    let more : n ≤ℤ m = le! (D ⊗ (⟨ t ⟩ ⊝ X)) (D ⊗ (⟨ u ⟩ ⊝ X)) (omega (arith, product (le_parts climb) (le_parts h))) in
    le! (P ⊕ ⟨ round_div n w ⟩) (P ⊕ ⟨ round_div m w ⟩) (omega (arith, le_parts (round_mono n m w (gap-pos rise) more)))

pub interpolated-climbs : (j : ℕ) (table : List Point) {t u : ℤ} → Rising table → Climbing j table → t ≤ℤ u → interpolated j table t ≤ℤ interpolated j table u
interpolated-climbs j table r h l = moves (λ t u a b. a ≤ℤ b) (record { stays = λ {t} {u} {a} k. ≤ℤ_refl a; goes_on = ≤_trans }) j table r (both-neighbours (between-climbs j) table r h) l

-- ---- where they change by at most a quarter of the places

-- within a segment, by `round-apart`: from t to u the value falls by less than u − t before it is rounded. (With "at most" it would not do:
-- round(a − n) is not round(a) − n where halves go away from zero.)
between-corrected : (j : ℕ) (p q : Point) → place p <ℤ place q → 4 * nat_abs (column j q -ℤ column j p) ≤ nat_abs (place q -ℤ place p)
    → (t u : ℤ) → t ≤ℤ u → (t +ℤ between j p q t) ≤ℤ (u +ℤ between j p q u)
unfolding between
between-corrected j p q rise gentle t u h = ⊎_elim (λ k. same (≤-antisym h k)) (λ k. later k) (≤-or-> u t)
  where
    d : ℤ
    d = column j q -ℤ column j p

    w : ℤ
    w = place q -ℤ place p

    n : ℤ → ℤ
    n z = d *ℤ (z -ℤ place p)

    value : ℤ → ℤ
    value z = z +ℤ (column j p +ℤ round_div (n z) w)

    same : t ≡ u → value t ≤ℤ value u
    same e = subst (λ (z : ℤ). value t ≤ℤ value z) e (≤ℤ_refl (value t))

    later : t <ℤ u → value t ≤ℤ value u
    later k =
        let T = ⟨ t ⟩ in
        let U = ⟨ u ⟩ in
        let P = ⟨ column j p ⟩ in
        let X = ⟨ place p ⟩ in
        let R = ⟨ round_div (n t) w ⟩ in
        let S = ⟨ round_div (n u) w ⟩ in
        let slack : pos 0 <ℤ (d +ℤ w) = lt! (nat 0) (⟨ d ⟩ ⊕ ⟨ w ⟩) (omega (arith, abs-parts d, abs-parts w, lt-parts (gap-pos rise), nonneg-parts (<-≤ (gap-pos rise)))) in
        let s = lt? (nat 0) (⟨ d ⟩ ⊕ ⟨ w ⟩) slack in
        let less : (n t -ℤ (u -ℤ t) *ℤ w) <ℤ n u = lt! (⟨ d ⟩ ⊗ (T ⊝ X) ⊝ (U ⊝ T) ⊗ ⟨ w ⟩) (⟨ d ⟩ ⊗ (U ⊝ X)) (omega (ints, product (lt-parts k) s)) in
        le! (T ⊕ (P ⊕ R)) (U ⊕ (P ⊕ S)) (omega (arith, le? (R ⊝ (U ⊝ T)) S (round-apart (n t) (n u) (u -ℤ t) w (gap-pos rise) less)))

pub corrected-climbs : (j : ℕ) (table : List Point) {t u : ℤ} → Rising table → Gentle j table → t ≤ℤ u → (t +ℤ interpolated j table t) ≤ℤ (u +ℤ interpolated j table u)
corrected-climbs j table r g l =
    moves (λ t u a b. (t +ℤ a) ≤ℤ (u +ℤ b)) (record { stays = λ {t} {u} {a} k. le! (⟨ t ⟩ ⊕ ⟨ a ⟩) (⟨ u ⟩ ⊕ ⟨ a ⟩) (omega (ints, k)); goes_on = ≤_trans }) j table r
    (both-neighbours (between-corrected j) table r g) l
