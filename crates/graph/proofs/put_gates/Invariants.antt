use Rattle.text.specs.Written.{Written}
use Rattle.notation.specs.Texts.{each}
use Rattle.graph.specs.Ways.{gate_text}
use Rattle.graph.proofs.put_gates.Given as goal

abbrev pub invariant-loop-g : goal.invariant-loop-g
invariant-loop-g l = Written (each (gate_text l.gates) l.g) l.initial.page l.page
