use Rattle.text.proofs.Writing.{written-then}
use Rattle.notation.specs.Whole.{raw_text}
use Rattle.notation.proofs.whole.put_raw.Goals as goal

pub returns : goal.returns
unfolding raw_text
returns c = written-then (written-then (written-then c.put_tables.ensures c.put_roots.ensures) c.put_said.ensures) c.put_table.ensures
