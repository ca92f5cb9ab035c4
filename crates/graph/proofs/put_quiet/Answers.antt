use Rattle.text.proofs.Writing.{written-none}
use Rattle.graph.specs.Ways.{quiet_text}
use Rattle.graph.proofs.put_quiet.Goals as goal

pub returns-then-quiet : goal.returns-then-quiet
unfolding quiet_text
returns-then-quiet c = rw c.if-quiet.true c.emit.ensures

pub returns-else-quiet : goal.returns-else-quiet
unfolding quiet_text
returns-else-quiet c = rw c.if-quiet.false (written-none _)
