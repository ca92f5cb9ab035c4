use Rattle.offers.proofs.Accepted.{emission, accepts-emission, receipt, accepts-receipt}
use Rattle.offers.proofs.accept.Goals as goal

pub emit-requires : goal.emit-requires
emit-requires c = emission c.requires c.if-w-eq-EMIT.true

pub returns-then-w-eq-EMIT : goal.returns-then-w-eq-EMIT
returns-then-w-eq-EMIT c = accepts-emission c.requires c.if-w-eq-EMIT.true _ _ _ c.emit.ensures

pub receive-requires : goal.receive-requires
receive-requires c = receipt c.requires c.if-w-eq-EMIT.false

pub returns : goal.returns
returns c = accepts-receipt c.requires c.if-w-eq-EMIT.false _ _ _ c.receive.ensures
