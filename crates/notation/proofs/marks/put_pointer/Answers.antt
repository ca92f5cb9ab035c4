use borrow.Author.Tests.{ne_eqb, eq-eqb}
use Rattle.notation.specs.Texts.{pointer}
use Rattle.text.proofs.Writing.{written-none}
use Rattle.notation.proofs.marks.put_pointer.Goals as goal

pub returns-then-row-place : goal.returns-then-row-place
unfolding pointer
returns-then-row-place c = rw (pointer, eq-eqb c.args.row c.args.place c.if-row-place.true) c.emit.ensures

pub returns-else-row-place : goal.returns-else-row-place
unfolding pointer
returns-else-row-place c = rw (pointer, ne_eqb c.args.row c.args.place c.if-row-place.false) (written-none _)
