use borrow.Author.Tests.{ne_eqb}
use Rattle.notation.specs.Texts.{type_name}
use Rattle.text.proofs.Writing.{written-then}
use Rattle.notation.proofs.marks.put_type.Goals as goal

pub returns-then-t-eq0 : goal.returns-then-t-eq0
unfolding type_name
returns-then-t-eq0 c = rw c.if-t-eq0.true c.emit.ensures

pub returns-then-t-eq1 : goal.returns-then-t-eq1
unfolding type_name
returns-then-t-eq1 c = rw c.if-t-eq1.true c.emit-then-t-eq1.ensures

pub returns-else-t-eq1 : goal.returns-else-t-eq1
unfolding type_name
returns-else-t-eq1 c = rw (type_name, ne_eqb c.args.t 0 c.if-t-eq0.false, ne_eqb c.args.t 1 c.if-t-eq1.false) (written-then c.emit_byte.ensures c.emit_number.ensures)
