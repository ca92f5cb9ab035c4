use Rattle.graph.specs.Ways.{spoken}
use Rattle.graph.proofs.spoken.Goals as goal

pub returns-then-reached : goal.returns-then-reached
unfolding spoken
returns-then-reached c = rw (spoken, ← c.reached.ensures, c.if-reached.true, ← c.with_gate-gates.ensures)

pub returns : goal.returns
unfolding spoken
returns c = rw (spoken, ← c.reached.ensures, c.if-reached.false) c.nowhere.ensures
