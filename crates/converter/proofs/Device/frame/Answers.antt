-- `converter::Device::frame` meets its contract: what the frame is due is delivered. Assumes nothing.
use Rattle.converter.proofs.Entries.{serves}
use Rattle.converter.proofs.Device.frame.Goals as goal

pub returns : goal.returns
returns c = serves c.requires c.args.frame.now c.args.reply.now _ c.obey-answer.ensures.answer c.obey-answer.ensures.device c.deliver.ensures
