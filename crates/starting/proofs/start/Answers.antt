-- `starting::start` meets its contract. Assumes nothing.
use Rattle.model.proofs.Order.{passed-on}
use Rattle.stages.proofs.Cleared.{cleared-long, to-cleared}
use Rattle.starting.proofs.Judging.{start-refused, start-counted}
use native.Mathlib.Omega.{arith}
use Rattle.starting.proofs.start.Goals as goal

pub trailer-requires : goal.trailer-requires
trailer-requires c = cleared-long _ c.image_verdict.ensures c.in_ok-image_verdict.was

pub count-requires : goal.count-requires
count-requires c = to-cleared (λ j. omega (arith, c.shared_slice_known-1.given j)) c.image_verdict.ensures c.in_ok-image_verdict.was c.trailer.ensures

pub returns-in_err-image_verdict : goal.returns-in_err-image_verdict
returns-in_err-image_verdict c = rw (passed-on _ _ c.from_residual.ensures.1, ← c.in_err-image_verdict.was) (start-refused _ _ _ c.image_verdict.ensures _ c.in_err-image_verdict.was)

pub returns : goal.returns
returns c = start-counted _ _ _ c.image_verdict.ensures c.in_ok-image_verdict.was c.count.ensures
