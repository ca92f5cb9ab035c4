use Rattle.graph.specs.Ways.{state_arrows}
use Rattle.graph.proofs.put_state_arrows.Goals as goal

pub returns : goal.returns
unfolding state_arrows
returns c = rw (← c.state_row-row.ensures) c.walk_row.ensures.text
