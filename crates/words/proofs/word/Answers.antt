-- `words::word` meets its contract. Assumes nothing.
use mathlib.Core.Path.{◌∙◌, ap, sym}
use Prim.Native.Nat.{◌*◌, ◌^◌}
use Rattle.model.specs.Bytes.{word_at, signed}
use Rattle.values.proofs.Held.{held-is}
use Rattle.words.proofs.Words.{signed-is, number_at-four}
use Rattle.words.proofs.word.Goals as goal

pub returns : goal.returns
unfolding word_at
returns c =
    held-is _ c.from_le_bytes.type_inv ∙ c.from_le_bytes.ensures ∙ signed-is _ ∙ ap (signed (2 ^ 31)) (sym (number_at-four c.args.s.now (4 * c.args.i)))
