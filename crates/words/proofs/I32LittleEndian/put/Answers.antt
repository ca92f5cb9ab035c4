-- `put` of an `i32` meets its contract. Assumes nothing.
use mathlib.Core.Path.{◌∙◌, ap}
use mir.{Syntax.w32, Val.of_z}
use Rattle.model.specs.Bytes.{bytes_of}
use Rattle.values.proofs.Held.{held, held-is}
use Rattle.words.proofs.Words.{le_bytes, unsigned-is}
use Rattle.words.proofs.I32LittleEndian.put.Goals as goal

pub returns : goal.returns
returns c =
    c.copy_from_slice.ensures.after ∙ c.to_le_bytes.ensures ∙ le_bytes 4 (of_z w32 (held c.args.self))
    ∙ ap (λ z. bytes_of 4 (of_z w32 z)) (held-is c.args.self c.ranges.self.sfits) ∙ ap (bytes_of 4) (unsigned-is c.args.self)
