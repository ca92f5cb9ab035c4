use Rattle.notation.specs.Whole.{length_text}
use Rattle.notation.proofs.whole.put_length.Goals as goal

pub returns : goal.returns
unfolding length_text
returns c = rw (← c.short_length-n.ensures) c.put_said.ensures
