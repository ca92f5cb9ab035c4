use Rattle.graph.specs.Ways.{reached}
use Rattle.graph.proofs.reached.Goals as goal

pub returns-then-m : goal.returns-then-m
unfolding reached
returns-then-m c = rw c.if-m.true

pub returns : goal.returns
unfolding reached
returns c = rw (reached, c.if-m.false)
