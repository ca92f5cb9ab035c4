-- `put` of a `u64` meets its contract. Assumes nothing.
use mathlib.Core.Path.{◌∙◌}
use Rattle.words.proofs.Words.{le_bytes}
use Rattle.words.proofs.U64LittleEndian.put.Goals as goal

pub returns : goal.returns
returns c = c.copy_from_slice.ensures.after ∙ c.to_le_bytes.ensures ∙ le_bytes 8 c.args.self
