use borrow.Author.Tests.{ne_eqb}
use Rattle.notation.specs.Texts.{row_line}
use Rattle.notation.proofs.marks.row_line.Goals as goal

pub returns-in-2 : goal.returns-in-2
unfolding row_line
returns-in-2 c = rw c.in-2.is c.constant_line.ensures

pub returns-in-34 : goal.returns-in-34
unfolding row_line
returns-in-34 c = rw c.in-34.is c.constant_line-in-34.ensures

pub returns-in-52 : goal.returns-in-52
unfolding row_line
returns-in-52 c = rw c.in-52.is c.gate_line.ensures

pub returns-in_default : goal.returns-in_default
unfolding row_line
returns-in_default c = rw (row_line, ne_eqb c.args.w.code 2 c.in_default.in_default-own.rest.0.0.1, ne_eqb c.args.w.code 34 c.in_default.in_default-own.rest.0.1, ne_eqb c.args.w.code 52 c.in_default.in_default-own.rest.1)
