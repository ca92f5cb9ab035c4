use Rattle.notation.specs.Whole.{entry_text}
use Rattle.notation.proofs.tables.put_entry.Goals as goal

pub returns : goal.returns
unfolding entry_text
returns c = rw (← c.filling_of-f.ensures) c.put_line.ensures
