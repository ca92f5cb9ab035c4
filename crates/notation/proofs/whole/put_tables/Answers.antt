use Rattle.text.proofs.Writing.{written-then}
use Rattle.notation.specs.Whole.{tables_text}
use Rattle.notation.proofs.whole.put_tables.Goals as goal

pub returns : goal.returns
unfolding tables_text
returns c = written-then (written-then (written-then (written-then (written-then c.put_trailer.ensures c.put_said.ensures) c.put_table.ensures) c.put_said-2.ensures) c.put_table-2.ensures) c.put_said-3.ensures
