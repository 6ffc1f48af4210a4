-- What a sheet says, and 0; or the number of its first fault, and zeros.
use Rattle.std.specs.Prelude.{ℕ}
use Rattle.figures.specs.declared.Calibration.{Calibration}

pub record Sheet : Type 0 where
  pub number : ℕ
  pub figures : Calibration
