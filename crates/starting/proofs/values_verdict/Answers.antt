-- `starting::values_verdict` meets its contract. Assumes nothing.
use Rattle.model.proofs.Order.{passed-on}
use Rattle.starting.proofs.Judging.{typed-of, values-stays, values-condition}
use Rattle.starting.proofs.values_verdict.Goals as goal

pub parameter_verdict-requires : goal.parameter_verdict-requires
parameter_verdict-requires c = c.requires.slotted

pub condition-requires : goal.condition-requires
condition-requires c = typed-of c.requires c.parameter_verdict.ensures c.in_ok-parameter_verdict.was

pub returns-in_err-parameter_verdict : goal.returns-in_err-parameter_verdict
returns-in_err-parameter_verdict c = rw (passed-on _ _ c.from_residual.ensures.1, ← c.in_err-parameter_verdict.was) (values-stays _ _ c.parameter_verdict.ensures _ c.in_err-parameter_verdict.was)

pub returns : goal.returns
returns c = values-condition _ _ c.parameter_verdict.ensures c.in_ok-parameter_verdict.was c.condition.ensures
