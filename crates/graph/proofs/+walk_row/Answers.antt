use native.Mathlib.Omega.{arith}
use Rattle.model.specs.Image.{tables_of}
use Rattle.graph.proofs.Walks.{walked-spent, walked_none, walked-some}
use Rattle.graph.proofs.+walk_row.Goals as goal

pub returns-then-left-eq0 : goal.returns-then-left-eq0
returns-then-left-eq0 t c = rw c.nowhere.ensures (walked-spent (tables_of c.args.x.now.image.now) c.args.q c.args.r c.args.m c.args.left _ c.if-left-eq0.true)

pub returns-then-r-eq-NONE : goal.returns-then-r-eq-NONE
returns-then-r-eq-NONE t c = rw c.nowhere-then-r-eq-NONE.ensures (walked_none (tables_of c.args.x.now.image.now) c.args.q c.args.r c.args.m c.args.left _ c.if-r-eq-NONE.true)

pub walk_row-two-requires : goal.walk_row-two-requires
walk_row-two-requires t c = (omega (arith, c.decreases, c.if-left-eq0.false), c.requires)

pub returns : goal.returns
returns t c = walked-some (tables_of c.args.x.now.image.now) c.args.q c.args.r c.args.m c.args.left c.row_fields-w.result c.parts_of-p.result c.enters-n.result _ c.walk_row-one.result c.walk_row-two.result c.if-left-eq0.false c.if-r-eq-NONE.false c.row_fields-w.ensures c.parts_of-p.ensures c.put_arrow.ensures c.walk_row-one.ensures c.enters-n.ensures c.walk_row-two.ensures c.leaves.ensures
