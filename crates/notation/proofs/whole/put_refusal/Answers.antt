use Rattle.notation.specs.Whole.{refusal_text}
use Rattle.notation.proofs.whole.put_refusal.Goals as goal

pub returns : goal.returns
unfolding refusal_text
returns c = rw (← c.number-n.ensures, ← c.place-p.ensures) c.put_said.ensures
