use Rattle.expressions.proofs.Ways.{test-fails, test-holds, test-unsure}
use Rattle.expressions.proofs.test.Goals as goal

pub returns-then-a-eq0 : goal.returns-then-a-eq0
returns-then-a-eq0 c = test-fails c.requires c.eval.ensures c.in-Some.is c.if-a-eq0.true

pub returns-else-a-eq0 : goal.returns-else-a-eq0
returns-else-a-eq0 c = test-holds c.requires c.eval.ensures c.in-Some.is c.if-a-eq0.false

pub returns-in-None : goal.returns-in-None
returns-in-None c = test-unsure _ _ _ c.eval.ensures c.in-None.is
