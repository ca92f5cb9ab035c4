use Rattle.stages.proofs.Stages.{flow-stays, flow-speech}
use Rattle.model.proofs.Order.{passed-on}
use Rattle.stages.proofs.flow.Goals as goal

pub returns-in_err-found : goal.returns-in_err-found
returns-in_err-found c = rw (passed-on _ _ c.from_residual.ensures.1, ← c.in_err-found.was) (flow-stays _ _ c.found.ensures c.in_err-found.was)

pub returns : goal.returns
returns c = flow-speech _ _ c.found.ensures c.in_ok-found.was c.speech_verdict.ensures
