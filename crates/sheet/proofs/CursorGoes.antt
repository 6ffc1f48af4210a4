-- The cursor goes as specs/CursorGoes.antt says. Assumes nothing.
use Rattle.std.proofs.Common.{refl, ap}
use Rattle.sheet.specs.CursorGoes.{CursorGoes}
use Rattle.sheet.specs.declared.Cursor.{Cursor}
use Rattle.sheet.proofs.Steps.{count-goes, figure-goes}

pub cursor-goes : CursorGoes
cursor-goes = record {
  starts_over = λ sheet. refl;
  starts_at = λ sheet. refl;
  count = count-goes;
  count_got = λ c. record { same_sheet = refl; past = λ h. ap (λ (n : Cursor). n.at) ((count-goes c).there h).1.1; stays = λ h. ap (λ (n : Cursor). n.at) ((count-goes c).short h).1.1 };
  figure = figure-goes;
  figure_got = λ c. record { same_sheet = refl; past = λ h. ap (λ (n : Cursor). n.at) ((figure-goes c).there h).1.1; stays = λ h. ap (λ (n : Cursor). n.at) ((figure-goes c).short h).1.1 };
}
