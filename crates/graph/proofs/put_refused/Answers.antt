use Rattle.text.proofs.Writing.{written-then}
use Rattle.graph.specs.Ways.{refused_text}
use Rattle.graph.proofs.put_refused.Goals as goal

pub returns : goal.returns
unfolding refused_text
returns c = written-then (written-then (written-then (written-then c.put_said.ensures c.put_said-2.ensures) c.put_refusal.ensures) c.put_said-3.ensures) c.put_said-4.ensures
