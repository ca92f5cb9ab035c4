use borrow.Author.Tests.{ne_eqb, eq-eqb}
use Rattle.notation.specs.Texts.{margin}
use Rattle.notation.proofs.marks.put_margin.Goals as goal

pub returns-then-row-place : goal.returns-then-row-place
unfolding margin
returns-then-row-place c = rw (margin, eq-eqb c.args.row c.args.place c.if-row-place.true) c.emit.ensures

pub returns-else-row-place : goal.returns-else-row-place
unfolding margin
returns-else-row-place c = rw (margin, ne_eqb c.args.row c.args.place c.if-row-place.false) c.emit-else-row-place.ensures
