-- What an accepted making gives: a device just started, with acceptable figures. Assumes nothing.
use mathlib.Core.Path.{◌≡◌, refl, sym, ◌∙◌}
use mathlib.Core.Bool.{Bool, true, false, cond}
use mathlib.Core.List.{List}
use Prim.Native.Nat.{ℕ}
use native.Mathlib.Omega.{arith}
use lib.Dec.{eqb}
use borrow.Author.Tests.{eq-eqb, eqb-true}
use Rattle.integers.proofs.Order.{is_false}
use Rattle.panel.proofs.Unused.{unused-in-range, unused-representable}
use Rattle.converter.proofs.Sound.{SetupSound}
use Rattle.sheet.specs.Forms.{read_sheet}
use Rattle.sheet.proofs.Theorems.{read-accepted}
use Rattle.converter.specs.Making.{station_fits, setup_of, started, refused, made}
use Rattle.converter.specs.declared.Outcome.{Outcome}

pub record Accepted (sheet : List ℕ) (station : ℕ) : Type 0 where
  pub station-fits : station_fits station ≡ true
  pub sheet-accepted : (read_sheet sheet).number ≡ 0
  pub starts : (made sheet station).device ≡ started (setup_of sheet station)

pub making-accepted : (sheet : List ℕ) (station : ℕ) → (made sheet station).number ≡ 0 → Accepted sheet station
unfolding made
making-accepted sheet station h = outer (station_fits station) refl h
  where
    inner : Bool → Outcome
    inner b = cond b (record { number = 0; device = started (setup_of sheet station) }) (refused (read_sheet sheet).number)

    number-zero : (b : Bool) → eqb (read_sheet sheet).number 0 ≡ b → (inner b).number ≡ 0 → ((read_sheet sheet).number ≡ 0) × ((inner b).device ≡ started (setup_of sheet station))
    number-zero true e n = (eqb-true _ 0 e, refl)
    number-zero false e n = absurd (is_false (sym (eq-eqb _ 0 n) ∙ e))

    outer : (b : Bool) → station_fits station ≡ b → (cond b (inner (eqb (read_sheet sheet).number 0)) (refused 8)).number ≡ 0 → Accepted sheet station
    outer true e n = let p = number-zero (eqb (read_sheet sheet).number 0) refl n in record { station-fits = e; sheet-accepted = p.0; starts = rw e p.1 }
    outer false e n = absurd (eight n)
      where
        eight : ◌≡◌ {A = ℕ} 8 0 → ⊥
        eight h = omega (arith, h)

pub making-sound : (sheet : List ℕ) (station : ℕ) → (made sheet station).number ≡ 0 → SetupSound (setup_of sheet station)
making-sound sheet station h =
    let a = read-accepted sheet (making-accepted sheet station h).sheet-accepted in
    record {
      acceptable = a.acceptable;
      representable = a.representable;
      copy-representable = unused-representable (read_sheet sheet).figures a.representable;
      copy_in = unused-in-range (read_sheet sheet).figures a.acceptable;
    }
