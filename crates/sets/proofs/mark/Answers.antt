-- `mark` meets its contract. Assumes nothing.
use Rattle.sets.proofs.Turning.{marked-fine, marked-wrong}
use Rattle.sets.proofs.mark.Goals as goal

pub returns-then-fine : goal.returns-then-fine
returns-then-fine c = marked-fine _ _ _ c.bit.ensures c.without.ensures c.if-fine.true

pub returns : goal.returns
returns c = marked-wrong _ _ _ c.bit-2.ensures c.if-fine.false
