use borrow.Author.Tests.{ne_eqb}
use Rattle.notation.specs.Whole.{variable_line}
use Rattle.notation.proofs.tables.variable_line.Goals as goal

pub returns-then-p-eq0 : goal.returns-then-p-eq0
unfolding variable_line
returns-then-p-eq0 c = rw c.if-p-eq0.true

pub returns-then-p-eq1 : goal.returns-then-p-eq1
unfolding variable_line
returns-then-p-eq1 c = rw c.if-p-eq1.true

pub returns : goal.returns
unfolding variable_line
returns c = rw (variable_line, ne_eqb c.args.p 0 c.if-p-eq0.false, ne_eqb c.args.p 1 c.if-p-eq1.false)
