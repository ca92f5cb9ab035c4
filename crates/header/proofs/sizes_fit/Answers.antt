use Rattle.header.proofs.Laws.{bool-type, int-type, sizes-bool, sizes-int, sizes-others}
use Rattle.header.proofs.sizes_fit.Goals as goal

pub size-requires : goal.size-requires
size-requires c = bool-type c.requires

pub returns-then-size-ne2 : goal.returns-then-size-ne2
returns-then-size-ne2 c = sizes-bool c.requires c.size.ensures c.if-size-ne2.true

pub size-requires-2 : goal.size-requires-2
size-requires-2 c = int-type c.requires

pub returns-then-size-ne0 : goal.returns-then-size-ne0
returns-then-size-ne0 c = sizes-int c.requires c.size.ensures c.if-size-ne2.false c.size-2.ensures c.if-size-ne0.true

pub returns : goal.returns
returns c = sizes-others c.requires c.size.ensures c.if-size-ne2.false c.size-2.ensures c.if-size-ne0.false c.others_fit.ensures
