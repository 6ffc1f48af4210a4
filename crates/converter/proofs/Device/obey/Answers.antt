-- `converter::Device::obey` meets its contract: what is read is within its bounds. Assumes nothing.
use Rattle.converter.proofs.Sound.{state-within}
use Rattle.converter.proofs.Reached.{reached-sound}
use Rattle.converter.proofs.Device.obey.Goals as goal

pub obey-requires : goal.obey-requires
obey-requires c = λ e. state-within (reached-sound c.requires)
