-- `starting::begin_on` meets its contract. Assumes nothing.
use Rattle.starting.proofs.Judging.{filled_of, begun-refused, begun-accepted}
use Rattle.model.proofs.Order.{passed-on}
use Rattle.starting.proofs.begin_on.Goals as goal

pub values_verdict-requires : goal.values_verdict-requires
values_verdict-requires c = filled_of c.requires.filling c.fill.auto.work c.fill.ensures

pub returns-in_err-values_verdict : goal.returns-in_err-values_verdict
returns-in_err-values_verdict c = rw (passed-on _ _ c.from_residual.ensures.1, ← c.in_err-values_verdict.was) (begun-refused _ _ _ c.fill.ensures c.values_verdict.ensures _ c.in_err-values_verdict.was)

pub returns : goal.returns
returns c = rw (← c.in_ok-values_verdict.was) (begun-accepted _ _ _ c.fill.ensures c.values_verdict.ensures c.in_ok-values_verdict.was c.copy_from_slice.ensures.after)
