use Rattle.text.proofs.Writing.{written-none}
use Rattle.graph.specs.Ways.{gate_text}
use Rattle.graph.proofs.put_gate.Goals as goal

pub returns-then-inside : goal.returns-then-inside
unfolding gate_text
returns-then-inside c = rw (gate_text, ← c.bit-one.ensures, ← c.inside.ensures, c.if-inside.true, ← c.gate_line.ensures, ← c.plain_style.ensures) c.put_said.ensures

pub returns-else-inside : goal.returns-else-inside
unfolding gate_text
returns-else-inside c = rw (gate_text, ← c.bit-one.ensures, ← c.inside.ensures, c.if-inside.false) (written-none _)
