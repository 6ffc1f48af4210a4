-- `bad_reading` is what specs/BadReading.antt says. Assumes nothing.
use mathlib.Core.Path.{◌≡◌, refl, sym, ◌∙◌}
use mathlib.Core.Logic.{◌↔◌}
use mathlib.Core.Bool.{Bool, true, false, true≢false}
use Prim.Native.Nat.{ℕ}
use native.Mathlib.Omega.{arith}
use borrow.Author.Tests.{ltb-true, ltb-false, le-ltb}
use lib.Dec.{ltb}
use lib.IntN.{ℤ, pos, neg_ℤ}
use lib.Signed.{lt_z, clash_ℤ}
use Rattle.integers.proofs.Order.{lt_yes, lt_no, no_lt}
use Rattle.state.specs.Reading.{outside, bad_reading}
use Rattle.state.specs.BadReading.{Bad, elec_under, elec_over, temp_under, temp_over, integrity_over, Good, BadReadings}

module _ (elec temp : ℤ) (integrity : ℕ) where
  good : Good elec temp integrity → bad_reading elec temp integrity ≡ false
  unfolding bad_reading outside
  good g = rw (no_lt g.elec_at_least, no_lt g.elec_at_most, no_lt g.temp_at_least, no_lt g.temp_at_most, le-ltb 1 integrity g.integrity_at_most) refl

  -- the first test that holds; or none does
  data Found : Type 0 where
    bad : bad_reading elec temp integrity ≡ true → Bad elec temp integrity → Found
    none : Good elec temp integrity → Found

  found : Found
  unfolding bad_reading outside
  found = by (lt_z elec (neg_ℤ (pos 19660800))) (lt_z (pos 19660800) elec) (lt_z temp (neg_ℤ (pos 13107200))) (lt_z (pos 13107200) temp) (ltb 1 integrity) refl refl refl refl refl
    where
      by : (a b c d e : Bool) → lt_z elec (neg_ℤ (pos 19660800)) ≡ a → lt_z (pos 19660800) elec ≡ b → lt_z temp (neg_ℤ (pos 13107200)) ≡ c → lt_z (pos 13107200) temp ≡ d → ltb 1 integrity ≡ e → Found
      by true b c d e p q r s t = bad (rw p refl) (elec_under (lt_yes p))
      by false true c d e p q r s t = bad (rw (p, q) refl) (elec_over (lt_yes q))
      by false false true d e p q r s t = bad (rw (p, q, r) refl) (temp_under (lt_yes r))
      by false false false true e p q r s t = bad (rw (p, q, r, s) refl) (temp_over (lt_yes s))
      by false false false false true p q r s t = bad (rw (p, q, r, s, t) refl) (integrity_over (ltb-true 1 integrity t))
      by false false false false false p q r s t = none (record { elec_at_least = lt_no p; elec_at_most = lt_no q; temp_at_least = lt_no r; temp_at_most = lt_no s; integrity_at_most = ltb-false 1 integrity t })

  clash : Bad elec temp integrity → Good elec temp integrity → ⊥
  clash (elec_under h) g = clash_ℤ h g.elec_at_least
  clash (elec_over h) g = clash_ℤ h g.elec_at_most
  clash (temp_under h) g = clash_ℤ h g.temp_at_least
  clash (temp_over h) g = clash_ℤ h g.temp_at_most
  clash (integrity_over h) g = omega (arith, h, g.integrity_at_most)

  refused : (bad_reading elec temp integrity ≡ true) ↔ Bad elec temp integrity
  refused = (there found, back found)
    where
      there : Found → bad_reading elec temp integrity ≡ true → Bad elec temp integrity
      there (bad e b) h = b
      there (none g) h = absurd (true≢false (sym h ∙ good g))

      back : Found → Bad elec temp integrity → bad_reading elec temp integrity ≡ true
      back (bad e b) h = e
      back (none g) h = absurd (clash h g)

  taken : (bad_reading elec temp integrity ≡ false) ↔ Good elec temp integrity
  taken = (there found, good)
    where
      there : Found → bad_reading elec temp integrity ≡ false → Good elec temp integrity
      there (bad e b) h = absurd (true≢false (sym e ∙ h))
      there (none g) h = g

pub bad-readings : BadReadings
bad-readings = record { refused = refused; taken = taken }
