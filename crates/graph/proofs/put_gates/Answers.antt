use Rattle.notation.proofs.Steps.{each_next, each_none}
use Rattle.graph.specs.Ways.{gate_text}
use Rattle.graph.proofs.put_gates.Goals as goal

pub loop-g-init : goal.loop-g-init
loop-g-init c = each_none _ _

pub loop-g-preserved : goal.loop-g-preserved
loop-g-preserved c = each_next (gate_text c.args.gates) c.loop-g.g c.loop-g.invariant c.put_gate.ensures
