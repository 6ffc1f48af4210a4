-- `converter::Device::make` meets its contract: the station, then the sheet, then a start. Assumes nothing.
use mathlib.Core.Path.{◌≡◌, sym, ap, ◌∙◌, subst}
use mathlib.Core.Bool.{true, false}
use mathlib.Core.List.{List}
use Prim.Native.Nat.{ℕ}
use native.Mathlib.Omega.{arith}
use borrow.Author.Tests.{ne_eqb}
use Rattle.std.proofs.lemmas.Result.{err_from_is_err_and}
use Rattle.figures.specs.declared.Calibration.{Calibration}
use Rattle.sheet.specs.Forms.{read_sheet}
use Rattle.sheet.proofs.Theorems.{read-accepted}
use Rattle.refusal.proofs.Numbers.{number_above}
use Rattle.state.specs.Request.{fresh}
use Rattle.state.specs.declared.State.{State}
use Rattle.refusal.specs.Refusal.{number}
use Rattle.refusal.specs.declared.Refusal.{Refusal}
use Rattle.converter.specs.Making.{station_fits, refused, made, outcome_of}
use Rattle.converter.specs.Reached.{Reached, Making}
use Rattle.converter.specs.declared.Outcome.{Outcome}
use Rattle.converter.proofs.Reached.{reached-made}
use Rattle.converter.proofs.Device.make.Goals as goal

makes : (sheet : List ℕ) (station : ℕ) {r : Outcome} → r ≡ made sheet station → Making sheet station r
makes sheet station e = record { is = e; reached = λ h. subst (λ (o : Outcome). Reached o.device) (sym e) (reached-made sheet station (sym (ap (λ (o : Outcome). o.number) e) ∙ h)) }

wrong-station : (sheet : List ℕ) (station : ℕ) → station_fits station ≡ false → refused 8 ≡ made sheet station
unfolding made
wrong-station sheet station f = rw f

wrong-sheet : (sheet : List ℕ) (station : ℕ) (r : Refusal) → station_fits station ≡ true → number r ≡ (read_sheet sheet).number → refused (number r) ≡ made sheet station
unfolding made
wrong-sheet sheet station r f e = rw (f, ne_eqb (read_sheet sheet).number 0 (λ h. omega (arith, h, e, number_above r)), e)

starts : (sheet : List ℕ) (station : ℕ) {f : Calibration} {t : State} → station_fits station ≡ true → 0 ≡ (read_sheet sheet).number → f ≡ (read_sheet sheet).figures → t ≡ fresh
    → record { number = 0; device = record { setup = record { figures = f; copy = f; station = station }; state = t } } ≡ made sheet station
unfolding made
starts sheet station fits n e t = rw (fits, ← n, e, t, (read-accepted sheet (sym n)).unused)

pub returns-then-not-station_fits : goal.returns-then-not-station_fits
returns-then-not-station_fits c = makes _ _ (wrong-station c.args.sheet.now c.args.station (sym c.station_fits.ensures ∙ c.if-not-station_fits.true))

pub returns-in_err-figures : goal.returns-in_err-figures
returns-in_err-figures c =
    let fits = sym c.station_fits.ensures ∙ c.if-not-station_fits.false in
    let p = err_from_is_err_and c.from_residual.result c.from_residual.ensures.1 in
    makes _ _ (ap outcome_of p.1 ∙ ap (λ (r : Refusal). refused (number r)) p.2 ∙ wrong-sheet c.args.sheet.now c.args.station _ fits c.in_err-figures.ensures.number)

pub returns : goal.returns
returns c =
    let fits = sym c.station_fits.ensures ∙ c.if-not-station_fits.false in
    makes _ _ (starts c.args.sheet.now c.args.station fits c.in_ok-figures.ensures.number c.in_ok-figures.ensures.figures c.fresh.ensures)
