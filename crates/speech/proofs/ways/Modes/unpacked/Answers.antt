-- `Modes::unpacked`: mode by mode. Assumes nothing.
use Rattle.speech.specs.Both.{unpacked}
use Rattle.speech.proofs.Bits.{pair}
use Rattle.speech.proofs.ways.Modes.unpacked.Goals as goal

pub returns : goal.returns
unfolding unpacked
returns c = pair c.unpacked.ensures c.unpacked-2.ensures
