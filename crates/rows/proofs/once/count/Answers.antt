-- `rows::once::count` meets its contract. Assumes nothing.
use Rattle.rows.proofs.Counting.{counted-in, counted-out}
use Rattle.rows.proofs.once.count.Goals as goal

pub returns-then-at-counts : goal.returns-then-at-counts
returns-then-at-counts c = counted-in _ _ _ c.if-at-counts.true c.more.ensures

pub returns-else-at-counts : goal.returns-else-at-counts
returns-else-at-counts c = counted-out _ _ c.if-at-counts.false
