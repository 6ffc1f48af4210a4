-- A station is judged as specs/Station.antt says. Assumes nothing.
use mathlib.Core.Path.{◌≡◌, refl, sym, ◌∙◌}
use mathlib.Core.Logic.{◌↔◌}
use mathlib.Core.Bool.{Bool, true, false, ◌&&◌, false≢true}
use mathlib.Core.List.{List}
use Prim.Native.Nat.{ℕ}
use native.Mathlib.Omega.{arith}
use borrow.Author.Tests.{leb-true, le-leb, eqb-true}
use lib.Dec.{eqb, leb}
use Rattle.integers.proofs.Order.{pick}
use Rattle.sheet.specs.Forms.{read_sheet, sheet_number}
use Rattle.sheet.proofs.Range.{sheet-numbers}
use Rattle.converter.specs.Making.{station_fits, made}
use Rattle.converter.specs.Station.{Station, StationFirst}
use Rattle.converter.specs.declared.Outcome.{Outcome}

fits : (station : ℕ) → (station_fits station ≡ true) ↔ Station station
unfolding station_fits
fits station = (by (leb 1 station) (leb station 247) refl refl, λ h. rw (le-leb 1 station h.least, le-leb station 247 h.most) refl)
  where
    by : (a b : Bool) → leb 1 station ≡ a → leb station 247 ≡ b → a && b ≡ true → Station station
    by true true p q e = record { least = leb-true 1 station p; most = leb-true station 247 q }
    by true false p q e = absurd (false≢true e)
    by false b p q e = absurd (false≢true e)

module _ (sheet : List ℕ) (station : ℕ) where
  judged : Station station → (made sheet station).number ≡ sheet_number sheet
  unfolding made read_sheet
  judged h = rw ((fits station).1 h) (pick (eqb (read_sheet sheet).number 0) _ _ (λ (r : Outcome). r.number ≡ sheet_number sheet) (λ e. sym (eqb-true _ 0 e)) (λ e. refl))

  other : (Station station → ⊥) → (made sheet station).number ≡ 8
  unfolding made read_sheet
  other h = by (station_fits station) refl
    where
      by : (b : Bool) → station_fits station ≡ b → (made sheet station).number ≡ 8
      by true e = absurd (h ((fits station).0 e))
      by false e = rw e refl

  eight : (made sheet station).number ≡ 8 → Station station → ⊥
  eight e h = omega (arith, sym (judged h) ∙ e, sheet-numbers sheet)

pub station-first : StationFirst
station-first = record { fits = fits; refused = λ sheet station. (eight sheet station, other sheet station); judged = judged }
