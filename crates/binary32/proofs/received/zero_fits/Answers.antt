-- `binary32::received::zero_fits` meets its contract: `Zero` says what the pattern tells. Assumes nothing.
use mathlib.Core.Path.{sym, ap, ◌∙◌, subst}
use Prim.Native.Nat.{ℕ, ◌%◌, ◌^◌}
use lib.Dec.{T, leb}
use lib.Ieee.{binary32, fits}
use Rattle.binary32.proofs.Zero.{zero-taken}
use Rattle.binary32.proofs.received.zero_fits.Goals.{Start}
use Rattle.binary32.proofs.received.zero_fits.Goals as goal

held : (c : Start) → T (fits binary32 c.args.x)
held c = subst T (sym c.well_formed.0.1) tt

pub returns : goal.returns
returns c = ap (λ (b : ℕ). leb (b % 2 ^ 31) 1190789120) c.bits_of_float.ensures ∙ zero-taken c.args.x (held (goal.at.returns c).Start)
