use Rattle.notation.specs.Whole.{pointing}
use Rattle.notation.proofs.whole.pointing.Goals as goal

pub returns : goal.returns
unfolding pointing
returns c = rw (← c.row_place-place.ensures, ← c.state_place-state.ensures)
