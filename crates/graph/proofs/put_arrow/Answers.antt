use borrow.Author.Tests.{eq-eqb, ne_eqb}
use Rattle.text.proofs.Writing.{written-none, written-then}
use Rattle.graph.specs.Ways.{arrow_text}
use Rattle.graph.proofs.put_arrow.Goals as goal

pub returns-then-w-eq53 : goal.returns-then-w-eq53
unfolding arrow_text
returns-then-w-eq53 c = rw (arrow_text, eq-eqb c.args.w.code 53 c.if-w-eq53.true, ← c.plain_style-st.ensures) (written-then (written-then c.put_said.ensures c.put_label.ensures) c.put_said-then-w-eq53.ensures)

pub returns-else-w-eq53 : goal.returns-else-w-eq53
unfolding arrow_text
returns-else-w-eq53 c = rw (arrow_text, ne_eqb c.args.w.code 53 c.if-w-eq53.false) (written-none _)
