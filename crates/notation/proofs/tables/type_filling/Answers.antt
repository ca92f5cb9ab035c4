use Rattle.notation.specs.Whole.{type_filling}
use Rattle.notation.proofs.tables.type_filling.Goals as goal

pub returns : goal.returns
unfolding type_filling
returns c = rw (← c.type_line-k.ensures, ← c.size-n.ensures) c.filled_with.ensures
