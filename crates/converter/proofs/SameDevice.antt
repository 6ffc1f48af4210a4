-- Both forms of a sheet are read alike, and a making goes by what is read. Assumes nothing.
use mathlib.Core.Path.{◌≡◌, refl, sym, ◌∙◌, ap}
use mathlib.Core.List.{List, ◌∷◌}
use Prim.Native.Nat.{ℕ}
use Rattle.sheet.specs.Forms.{sheet_number, read_sheet}
use Rattle.sheet.proofs.EitherForm.{in-given, reads_old}
use Rattle.sheet.proofs.NewForm.{new-read, same_read}
use Rattle.converter.specs.Making.{made}
use Rattle.converter.specs.Call.{run}
use Rattle.converter.specs.SameDevice.{SameDevice, SameDevices}
use Rattle.converter.specs.declared.Outcome.{Outcome}
use Rattle.converter.proofs.Made.{making-accepted}

module _ (new old : List ℕ) (station : ℕ) (alike : read_sheet new ≡ read_sheet old) where
  same-making : made new station ≡ made old station
  unfolding made
  same-making = rw alike

  same-device : SameDevice new old station
  same-device = record {
    making = same-making;
    running = λ calls. ap (λ (o : Outcome). run o.device calls) same-making;
    logging = λ calls. rw alike;
    shooting = λ calls. rw alike;
  }

-- a sheet that begins with 2 is judged as one of the new form
new_none : (rest : List ℕ) (station : ℕ) → (made (2 ∷ rest) station).number ≡ 0 → (read_sheet (2 ∷ rest)).number ≡ 0
new_none rest station h = (making-accepted (2 ∷ rest) station h).sheet-accepted

pub same-devices : SameDevices
unfolding read_sheet sheet_number
same-devices = record {
  behind_identity = λ i r rest station. same-device _ _ station (new-read i (4 ∷ rest) (in-given i r) ∙ sym (reads_old (4 ∷ rest) refl));
  accepted_new = λ rest station h. same-device _ _ station (sym (same_read (2 ∷ rest) (new_none rest station h)));
}
