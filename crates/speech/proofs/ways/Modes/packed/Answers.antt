-- `Modes::packed`: the spoken mode above the quiet one. Assumes nothing.
use Rattle.speech.proofs.Bits.{packed-both}
use Rattle.speech.proofs.ways.Modes.packed.Goals as goal

pub returns : goal.returns
returns c = packed-both _ _ _ _ c.packed.ensures c.packed-2.ensures
