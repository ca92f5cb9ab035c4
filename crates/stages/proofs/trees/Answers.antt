use Rattle.stages.proofs.Stages.{trees-stays, trees-flow}
use Rattle.model.proofs.Order.{passed-on}
use Rattle.stages.proofs.trees.Goals as goal

pub returns-in_err-rules : goal.returns-in_err-rules
returns-in_err-rules c = rw (passed-on _ _ c.from_residual.ensures.1, ← c.in_err-rules.was) (trees-stays _ _ _ c.rules.ensures c.in_err-rules.was)

pub returns : goal.returns
returns c = trees-flow _ _ c.rules.ensures c.in_ok-rules.was c.flow.ensures
