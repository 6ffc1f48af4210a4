-- `Reported` is made of a report or its refusal: beside a refusal stand zeros. Assumes nothing.
use mathlib.Core.Path.{◌≡◌}
use Prim.Native.Nat.{ℕ}
use lib.Ieee.{binary32, of_int, of_bits}
use Rattle.std.specs.Prelude.{Result, Ok, Err}
use Rattle.std.specs.Result.{ResultUnwrapsOrElse}
use Rattle.refusal.specs.Refusal.{number_of}
use Rattle.refusal.specs.declared.Refusal.{Refusal}
use Rattle.state.specs.declared.reporting.Report.{Report}
use Rattle.state.specs.Report.{no_report, reported}
use Rattle.state.proofs.reporting.ReportedFromResultReportRefusal.from.Goals as goal

abbrev Zeros : Report → Type 0
Zeros r = (r.sys ≡ of_bits binary32 0) × ((r.peak ≡ of_bits binary32 0) × ((r.trof ≡ of_bits binary32 0) × (r.cell ≡ of_bits binary32 0)))

zeros : (r : Report) → Zeros r → r ≡ no_report
unfolding of_int of_bits
zeros r z = λ i. record { sys = z.0 i; peak = z.1.0 i; trof = z.1.1.0 i; cell = z.1.1.1 i }

made : (outcome : Result Report Refusal) {n : ℕ} {r : Report} → n ≡ number_of outcome → ResultUnwrapsOrElse outcome Zeros r → record { number = n; report = r } ≡ reported outcome
made (Ok report) n r = rw (n, r)
made (Err refusal) n r = rw (n, zeros _ r)

pub returns : goal.returns
returns c = made c.args.outcome c.number_of.ensures c.unwrap_or_default.ensures
