use borrow.Author.Tests.{ne_eqb}
use Rattle.graph.specs.Ways.{gate_line}
use Rattle.graph.proofs.gate_line.Goals as goal

pub returns-then-g-eq0 : goal.returns-then-g-eq0
unfolding gate_line
returns-then-g-eq0 c = rw c.if-g-eq0.true

pub returns : goal.returns
unfolding gate_line
returns c = rw (gate_line, ne_eqb c.args.g 0 c.if-g-eq0.false)
