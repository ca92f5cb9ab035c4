-- `rows::once::count_rows` meets its contract. Assumes nothing.
use native.Mathlib.Omega.{arith}
use Rattle.model.specs.Image.{tables_of}
use Rattle.rows.proofs.Fields.{row_in}
use Rattle.rows.proofs.Counting.{rows_start, rows-turn, rows_end}
use Rattle.rows.proofs.once.count_rows.Goals as goal

pub loop-r-init : goal.loop-r-init
loop-r-init c = rows_start (tables_of c.args.x.now.image.now) _

pub fields-requires : goal.fields-requires
fields-requires c = row_in c.requires.1.located _ (omega (arith, c.row_count-n.ensures))

pub count_row-requires : goal.count_row-requires
count_row-requires c =
    (omega (arith, c.loop-r.invariant.exact, c.requires.0), c.requires.1.lines)

pub loop-r-preserved : goal.loop-r-preserved
loop-r-preserved c =
    rows-turn (tables_of c.args.x.now.image.now) _ c.loop-r.invariant
    (omega (arith, c.loop-r-test.true, c.row_count-n.ensures)) c.fields.ensures c.count_row.ensures

pub shape_of-counts : goal.shape_of-counts
shape_of-counts c = c.loop-r.invariant.exact

pub returns : goal.returns
returns c =
    rows_end (tables_of c.args.x.now.image.now) c.loop-r.r c.loop-r.invariant (omega (arith, c.loop-r-test.false, c.row_count-n.ensures))
