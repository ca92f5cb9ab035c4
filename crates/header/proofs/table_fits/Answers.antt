use Rattle.header.proofs.Laws.{table-order, table-part, table-few, table-many}
use Rattle.header.proofs.table_fits.Goals as goal

pub returns-then-end-start : goal.returns-then-end-start
returns-then-end-start c = table-order _ _ _ _ _ c.if-end-start.true

pub returns-then-n-size-ne0 : goal.returns-then-n-size-ne0
returns-then-n-size-ne0 c = table-part _ _ _ _ _ c.if-end-start.false c.if-n-size-ne0.true

pub returns-then-n-size : goal.returns-then-n-size
returns-then-n-size c = table-few _ _ _ _ _ c.if-end-start.false c.if-n-size-ne0.false c.if-n-size.true

pub returns : goal.returns
returns c = table-many _ _ _ _ _ c.if-end-start.false c.if-n-size-ne0.false c.if-n-size.false
