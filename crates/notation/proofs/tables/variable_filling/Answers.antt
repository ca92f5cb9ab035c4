use Rattle.notation.specs.Whole.{variable_filling}
use Rattle.notation.proofs.tables.variable_filling.Goals as goal

pub returns : goal.returns
unfolding variable_filling
returns c = rw (← c.parameter-p.ensures, ← c.variable_type-t.ensures, ← c.variable_line-k.ensures) c.filled_with.ensures
