-- The probe's definitions have the properties of specs/Pt100.antt. Assumes nothing.
use mathlib.Core.Path.{◌≡◌, refl, sym, subst, ◌∙◌, ap}
use mathlib.Core.Bool.{Bool, true, false, true≢false}
use mathlib.Core.List.{[], ◌∷◌}
use mathlib.Core.Logic.{◌↔◌}
use Prim.Native.Nat.{ℕ, zero, suc, ◌<◌}
use native.Mathlib.Omega.{arith}
use lib.IntN.{ℤ, pos, negsuc, neg_ℤ, ◌+ℤ◌, ◌-ℤ◌, ◌*ℤ◌}
use lib.Signed.{lt_z, ◌≤ℤ◌, ◌<ℤ◌, clash_ℤ, <ℤ-≤ℤ_trans}
use Rattle.integers.proofs.Parts.{le_parts, lt-parts}
use Rattle.integers.proofs.Difference.{⟨◌⟩, ◌⊕◌, ◌⊝◌, ◌⊗◌, nat, eq!, le!, le?}
use Rattle.integers.proofs.Order.{lt_yes, lt_no, no_lt, gap-pos}
use Rattle.integers.proofs.Ring.{ring, polynomials}
use Rattle.arithmetic.specs.Round.{round_div, Nearest}
use Rattle.arithmetic.specs.Fraction.{◌over◌}
use Rattle.arithmetic.specs.Table.{column, place}
use Rattle.arithmetic.specs.Keeps.{Each}
use Rattle.arithmetic.proofs.Round.{round-nearest}
use Rattle.arithmetic.proofs.Table.{Between, interpolated-at, interpolated-hull}
use Rattle.arithmetic.proofs.Climb.{Climbing, interpolated-climbs}
use Rattle.probe.specs.Platinum.{quadratic, fourth_power, formula, entry, degree, points, platinum}
use Rattle.probe.specs.Probe.{is_beyond, temp_of}
use Rattle.probe.specs.Pt100.{Measures, above, below, celsius, resistance_at, Table, Beyond, too_low, too_high, InRange, Pt100}
use Rattle.probe.proofs.Platinum.{platinum-rises}
use Rattle.probe.proofs.Table.{rises-at, length-is, point-is, temp-between}

-- ---- the standard's figures

by_two : (u t : ℤ) → Measures u (quadratic u t -ℤ pos 0) (above (t over u))
by_two u t = ring (u ∷ t ∷ []) (search polynomials depth 20 fits 9000) refl

by_three : (u t : ℤ) → Measures u (quadratic u t -ℤ fourth_power u t) (below (t over u))
by_three u t = ring (u ∷ t ∷ []) (search polynomials depth 20 fits 9000) refl

at_zero_and_above : (u t : ℤ) → pos 0 ≤ℤ t → Measures u (formula u t) (above (t over u))
unfolding formula
at_zero_and_above u (pos n) h = by_two u (pos n)
at_zero_and_above u (negsuc n) h = absurd h.le

under_zero : (u t : ℤ) → t <ℤ pos 0 → Measures u (formula u t) (below (t over u))
unfolding formula
under_zero u (pos n) h = absurd (omega (arith, lt-parts h))
under_zero u (negsuc n) h = by_three u (negsuc n)

-- ---- the table

table : Table
unfolding entry
table = record {
  count = length-is;
  fits = λ k l. subst (Nearest (formula (pos 1) (celsius k)) (pos 1000000000)) (sym (ap place (point-is k l))) (round-nearest (formula (pos 1) (celsius k)) (pos 1000000000) (record { lt = tt }));
  rises = rises-at;
}

-- ---- TEMP

-- of n points from t on
climbing : (n : ℕ) (t : ℤ) → Climbing 1 (points n t)
climbing zero t = tt
climbing (suc zero) t = tt
climbing (suc (suc n)) t = (le! (⟨ t ⟩ ⊗ nat 65536) ((⟨ t ⟩ ⊕ nat 1) ⊗ nat 65536) (omega arith), climbing (suc n) (t +ℤ pos 1))

ends : (n : ℕ) (t lo hi : ℤ) → lo ≤ℤ t → (t +ℤ pos n) ≤ℤ (hi +ℤ pos 1) → Each (λ p. Between (lo *ℤ degree) (hi *ℤ degree) (column 1 p)) (points n t)
ends zero t lo hi l m = tt
ends (suc n) t lo hi l m = (
  record {
    least = le! (⟨ lo ⟩ ⊗ nat 65536) (⟨ t ⟩ ⊗ nat 65536) (omega (arith, le_parts l));
    most = le! (⟨ t ⟩ ⊗ nat 65536) (⟨ hi ⟩ ⊗ nat 65536) (omega (arith, le? (⟨ t ⟩ ⊕ nat (suc n)) (⟨ hi ⟩ ⊕ nat 1) m));
  },
  ends n (t +ℤ pos 1) lo hi (le! ⟨ lo ⟩ (⟨ t ⟩ ⊕ nat 1) (omega (arith, le_parts l))) (le! (⟨ t ⟩ ⊕ nat 1 ⊕ nat n) (⟨ hi ⟩ ⊕ nat 1) (omega (arith, le? (⟨ t ⟩ ⊕ nat (suc n)) (⟨ hi ⟩ ⊕ nat 1) m))),
)

hull : (r : ℤ) → Between (neg_ℤ (pos 3276800)) (pos 9830400) (temp_of r)
unfolding temp_of platinum
hull r = interpolated-hull 1 _ _ r (ends 201 (neg_ℤ (pos 50)) (neg_ℤ (pos 50)) (pos 150) (record { le = tt }) (record { le = tt }))

-- the rise from v, of the line that goes up by w over d
rise-is : (v w a d : ℤ) → v +ℤ round_div ((v +ℤ w -ℤ v) *ℤ a) d -ℤ v ≡ round_div (w *ℤ a) d
rise-is v w a d =
    ap (λ (z : ℤ). v +ℤ round_div (z *ℤ a) d -ℤ v) (eq! (⟨ v ⟩ ⊕ ⟨ w ⟩ ⊝ ⟨ v ⟩) ⟨ w ⟩ (omega arith)) ∙ eq! (⟨ v ⟩ ⊕ ⟨ round_div (w *ℤ a) d ⟩ ⊝ ⟨ v ⟩) ⟨ round_div (w *ℤ a) d ⟩ (omega arith)

by-step-2 : (k : ℕ) (r : ℤ) → suc k < 201 → resistance_at k <ℤ r → r ≤ℤ resistance_at (suc k) → Nearest (pos 65536 *ℤ (r -ℤ resistance_at k)) (resistance_at (suc k) -ℤ resistance_at k) (temp_of r -ℤ celsius k *ℤ pos 65536)
by-step-2 k r l above upto =
    let p = ap place (point-is k (omega arith)) in
    let q = ap place (point-is (suc k) l) in
    let a : entry (celsius k) <ℤ r = rw p at above in
    let b : r ≤ℤ entry (celsius (suc k)) = rw q at upto in
    let n = pos 65536 *ℤ (r -ℤ entry (celsius k)) in
    let d = entry (celsius (suc k)) -ℤ entry (celsius k) in
    rw (p, q, temp-between k (suc k) refl l a b, rise-is (celsius k *ℤ degree) degree (r -ℤ entry (celsius k)) d) (round-nearest n d (gap-pos (<ℤ-≤ℤ_trans a b)))

at_entry : (k : ℕ) → k < 201 → temp_of (resistance_at k) ≡ celsius k *ℤ pos 65536
unfolding temp_of
at_entry k l = interpolated-at 1 platinum k platinum-rises (omega (arith, length-is)) ∙ ap (column 1) (point-is k l)

never_falls : (r s : ℤ) → r ≤ℤ s → temp_of r ≤ℤ temp_of s
unfolding temp_of platinum
never_falls r s h = interpolated-climbs 1 platinum platinum-rises (climbing 201 (neg_ℤ (pos 50))) h

-- ---- 20

module _ (r : ℤ) where
  in-range : InRange r → is_beyond r ≡ false
  unfolding is_beyond
  in-range h = rw (no_lt h.least, no_lt h.most) refl

  data Found : Type 0 where
    beyond : is_beyond r ≡ true → Beyond r → Found
    inside : InRange r → Found

  found : Found
  unfolding is_beyond
  found = by (lt_z r (pos 803063)) (lt_z (pos 1573251) r) refl refl
    where
      by : (a b : Bool) → lt_z r (pos 803063) ≡ a → lt_z (pos 1573251) r ≡ b → Found
      by true b e f = beyond (rw e refl) (too_low (lt_yes e))
      by false true e f = beyond (rw (e, f) refl) (too_high (lt_yes f))
      by false false e f = inside (record { least = lt_no e; most = lt_no f })

  clash : Beyond r → InRange r → ⊥
  clash (too_low h) g = clash_ℤ h g.least
  clash (too_high h) g = clash_ℤ h g.most

  refused : (is_beyond r ≡ true) ↔ Beyond r
  refused = (there found, back found)
    where
      there : Found → is_beyond r ≡ true → Beyond r
      there (beyond e b) h = b
      there (inside g) h = absurd (true≢false (sym h ∙ in-range g))

      back : Found → Beyond r → is_beyond r ≡ true
      back (beyond e b) h = e
      back (inside g) h = absurd (clash h g)

  taken : (is_beyond r ≡ false) ↔ InRange r
  taken = (there found, in-range)
    where
      there : Found → is_beyond r ≡ false → InRange r
      there (beyond e b) h = absurd (true≢false (sym e ∙ h))
      there (inside g) h = g

pub pt100 : Pt100
pt100 = record { at_zero_and_above = at_zero_and_above; under_zero = under_zero; table = table; temp = record { at_entry = at_entry; between = by-step-2; never_falls = never_falls; least = λ r. (hull r).least; most = λ r. (hull r).most }; refused = refused; taken = taken }
