use Rattle.simple.proofs.Acts.{items_at, assigned-ends, assigned-fails}
use Rattle.simple.proofs.run_assign.Goals as goal

pub assign-requires : goal.assign-requires
assign-requires c = items_at c.requires

pub returns-then-assign : goal.returns-then-assign
returns-then-assign c =
    assigned-ends c.requires c.assign.ensures c.if-assign.true

pub returns : goal.returns
returns c =
    assigned-fails c.requires c.assign.ensures c.if-assign.false c.stopped.ensures
