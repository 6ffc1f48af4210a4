-- `converter::Device::reading` meets its contract: a bad reading leaves the device, a good one joins. Assumes nothing.
use mathlib.Core.Path.{sym, ◌∙◌}
use Rattle.converter.proofs.Entries.{takes}
use Rattle.converter.proofs.Device.reading.Goals as goal

pub returns : goal.returns
returns c = let x = c.args.sample in takes c.requires x.elec x.temp x.integrity (sym c.is_bad.ensures ∙ c.if-is_bad.false) c.join.ensures
