use mathlib.Core.Path.{◌∙◌}
use Rattle.notation.proofs.Noted.{noted}
use Rattle.notation.proofs.marks.line.Goals as goal

pub returns : goal.returns
returns c = c.text_at.ensures ∙ noted c.args.k
