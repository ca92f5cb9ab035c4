use Rattle.notation.specs.Texts.{line_end}
use Rattle.notation.proofs.marks.put_end.Goals as goal

pub returns-then-graph : goal.returns-then-graph
unfolding line_end
returns-then-graph c = rw c.if-graph.true c.emit.ensures

pub returns-else-graph : goal.returns-else-graph
unfolding line_end
returns-else-graph c = rw c.if-graph.false c.emit_byte.ensures
