use borrow.Author.Rules.{rules}
use borrow.Author.Tests.{lt-ltb, le-ltb}
use Rattle.model.specs.Masks.{join}
use Rattle.graph.specs.Ways.{with_gate}
use Rattle.graph.proofs.with_gate.Goals as goal

pub returns-then-g-lt64 : goal.returns-then-g-lt64
unfolding with_gate join
returns-then-g-lt64 c = rw (with_gate, lt-ltb c.args.g 64 (search rules), ← c.bit.ensures)

pub returns : goal.returns
unfolding with_gate
returns c = rw (with_gate, le-ltb c.args.g 64 (search rules))
