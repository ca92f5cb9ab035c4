use Rattle.text.proofs.Writing.{written-then}
use Rattle.notation.proofs.marks.put_indent.Goals as goal

pub returns : goal.returns
returns c = written-then c.put_blanks.ensures c.put_blanks-2.ensures
