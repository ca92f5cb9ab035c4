use Rattle.notation.specs.Whole.{state_filling}
use Rattle.notation.proofs.tables.state_filling.Goals as goal

pub returns : goal.returns
unfolding state_filling
returns c = rw (← c.state_row-row.ensures) c.filled_with.ensures
