-- `rows::once::count_row` meets its contract. Assumes nothing.
use Rattle.rows.proofs.Counting.{counted-row}
use Rattle.rows.proofs.once.count_row.Goals as goal

pub returns : goal.returns
returns c =
    let t = c.line_of-l.ensures in
    counted-row _ (c.count_field.ensures _ t.a) (c.count_field-2.ensures _ t.b) (c.count_field-3.ensures _ t.c)
