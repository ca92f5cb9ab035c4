use Rattle.text.proofs.Writing.{written-then}
use Rattle.graph.specs.Ways.{graph_text}
use Rattle.graph.proofs.put_graph.Goals as goal

pub returns : goal.returns
unfolding graph_text
returns c = written-then (written-then (written-then c.put_said.ensures c.put_table.ensures) c.put_arrows.ensures) c.put_said-2.ensures
