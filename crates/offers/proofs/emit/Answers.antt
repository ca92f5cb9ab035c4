use Rattle.offers.proofs.Accepted.{emits-value, emits-unknown}
use Rattle.offers.proofs.emit.Goals as goal

pub returns-in-Some : goal.returns-in-Some
returns-in-Some c = rw c.gave.ensures (emits-value c.requires c.eval.ensures _ _ c.in-Some.is)

pub returns-in-None : goal.returns-in-None
returns-in-None c = rw c.refused.ensures (emits-unknown c.requires c.eval.ensures _ _ c.in-None.is)
