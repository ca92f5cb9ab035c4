use Rattle.text.proofs.Writing.{written-then}
use Rattle.graph.specs.Ways.{label_text}
use Rattle.graph.proofs.put_label.Goals as goal

pub returns-then-reached : goal.returns-then-reached
unfolding label_text
returns-then-reached c = rw (label_text, ← c.reached.ensures, c.if-reached.true) (written-then c.put_quiet.ensures c.put_gates.ensures)

pub returns-else-reached : goal.returns-else-reached
unfolding label_text
returns-else-reached c = rw (label_text, ← c.reached.ensures, c.if-reached.false) c.emit.ensures
