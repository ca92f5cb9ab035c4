use borrow.Author.Tests.{ne_eqb}
use Rattle.notation.specs.Whole.{type_line}
use Rattle.notation.proofs.tables.type_line.Goals as goal

pub returns-then-t-eq0 : goal.returns-then-t-eq0
unfolding type_line
returns-then-t-eq0 c = rw c.if-t-eq0.true

pub returns-then-t-eq1 : goal.returns-then-t-eq1
unfolding type_line
returns-then-t-eq1 c = rw c.if-t-eq1.true

pub returns : goal.returns
unfolding type_line
returns c = rw (type_line, ne_eqb c.args.t 0 c.if-t-eq0.false, ne_eqb c.args.t 1 c.if-t-eq1.false)
