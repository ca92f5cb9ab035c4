use Rattle.notation.specs.Whole.{row_filling}
use Rattle.notation.proofs.tables.row_filling.Goals as goal

pub returns : goal.returns
unfolding row_filling
returns c = rw (← c.fields-w.ensures)
