use Rattle.text.proofs.Writing.{written-then}
use Rattle.notation.specs.Texts.{line_start}
use Rattle.notation.proofs.marks.put_start.Goals as goal

pub returns : goal.returns
unfolding line_start
returns c = rw (← c.padding.ensures) (written-then (written-then (written-then c.put_margin.ensures c.emit_number.ensures) c.put_blanks.ensures) c.put_blanks-2.ensures)
