use Rattle.stages.proofs.Stages.{trailer-there, rooted-there, to-sized, judge-stays, judge-trees}
use Rattle.model.proofs.Order.{passed-on}
use Rattle.stages.proofs.judge.Goals as goal

pub trailer-requires : goal.trailer-requires
trailer-requires c = trailer-there _ c.tables.ensures c.in_ok-tables.was

pub sized-requires : goal.sized-requires
sized-requires c = to-sized (rooted-there _ _ c.trailer.ensures c.tables.ensures c.in_ok-tables.was) c.requires

pub returns-in_err-tables : goal.returns-in_err-tables
returns-in_err-tables c = rw (passed-on _ _ c.from_residual.ensures.1, ← c.in_err-tables.was) (judge-stays _ _ _ _ c.tables.ensures c.in_err-tables.was)

pub returns : goal.returns
returns c = judge-trees _ _ _ c.tables.ensures c.in_ok-tables.was c.sized.ensures
