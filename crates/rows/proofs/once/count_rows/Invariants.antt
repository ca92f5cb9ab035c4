-- `rows::once::count_rows` meets its contract. Assumes nothing.
use lib.ListN.{take}
use Rattle.model.specs.Image.{tables_of}
use Rattle.model.specs.Rows.{named_by_rows}
use Rattle.rows.specs.Counts.{Counted}
use Rattle.rows.proofs.once.count_rows.Given as goal

abbrev pub invariant-loop-r : goal.invariant-loop-r
invariant-loop-r l = Counted l.initial.counts l.counts (named_by_rows (take l.r (tables_of l.x.image.now).rows))
