use Rattle.text.proofs.Writing.{written-then}
use Rattle.notation.specs.Whole.{trailer_text}
use Rattle.notation.proofs.whole.put_trailer.Goals as goal

pub returns : goal.returns
unfolding trailer_text
returns c = written-then (written-then c.put_said.ensures c.put_said-2.ensures) c.put_said-3.ensures
