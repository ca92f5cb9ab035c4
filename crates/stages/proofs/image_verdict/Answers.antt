use Rattle.stages.proofs.Stages.{trailer-there, rooted-there, to-ruling, image-stays, image-rules}
use Rattle.model.proofs.Order.{passed-on}
use Rattle.stages.proofs.image_verdict.Goals as goal

pub trailer-requires : goal.trailer-requires
trailer-requires c = trailer-there _ c.tables.ensures c.in_ok-tables.was

pub rules_sized-requires : goal.rules_sized-requires
rules_sized-requires c = to-ruling (rooted-there _ _ c.trailer.ensures c.tables.ensures c.in_ok-tables.was)

pub returns-in_err-tables : goal.returns-in_err-tables
returns-in_err-tables c = rw (passed-on _ _ c.from_residual.ensures.1, ← c.in_err-tables.was) (image-stays _ _ c.tables.ensures c.in_err-tables.was)

pub returns : goal.returns
returns c = image-rules _ _ c.tables.ensures c.in_ok-tables.was c.rules_sized.ensures
