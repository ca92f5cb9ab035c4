use Rattle.notation.specs.Texts.{line_text}
use Rattle.notation.proofs.tables.put_line.Goals as goal

pub returns : goal.returns
unfolding line_text
returns c = c.put_filled.ensures
