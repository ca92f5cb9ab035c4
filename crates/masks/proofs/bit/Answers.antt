-- `masks::bit` meets its contract. Assumes nothing.
use Rattle.model.proofs.Masks.{bit-shift}
use Rattle.masks.proofs.bit.Goals as goal

pub returns : goal.returns
returns c = bit-shift c.args.v c.requires
