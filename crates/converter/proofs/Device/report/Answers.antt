-- `converter::Device::report` meets its contract. Assumes nothing.
use Rattle.converter.proofs.Reached.{reached-sound}
use Rattle.converter.proofs.Device.report.Goals as goal

pub report-requires : goal.report-requires
report-requires c = (reached-sound c.requires).state-ok.readings-ok.values-in
