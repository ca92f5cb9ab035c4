-- `judge`: the invariant is that the pattern here, unless it holds, else the result kept, is what the whole pattern gives. Assumes nothing.
use Rattle.values.proofs.Held.{held-is}
use mathlib.Core.Path.{refl}
use Rattle.expressions.proofs.Ways.{row_from}
use Rattle.patterns.proofs.Walks.{along-first, along-less, along-condition, along-step, along-base}
use Rattle.patterns.proofs.judge.Goals as goal

pub loop-kept-init : goal.loop-kept-init
loop-kept-init c = along-first c.requires

pub row-w-requires : goal.row-w-requires
row-w-requires c = row_from refl c.loop-kept.invariant.runs

pub at_base-requires : goal.at_base-requires
at_base-requires c = tt

pub returns-then-w-ne-WHERE : goal.returns-then-w-ne-WHERE
returns-then-w-ne-WHERE c = along-base c.loop-kept.invariant c.row-w.ensures (held-is c.args.z c.ranges.z.sfits) c.if-w-ne-WHERE.true c.at_base.ensures

pub test-requires : goal.test-requires
test-requires c = along-condition c.loop-kept.invariant c.row-w.ensures c.if-w-ne-WHERE.false

pub inner-kept-requires : goal.inner-kept-requires
inner-kept-requires c = tt

pub loop-kept-smaller : goal.loop-kept-smaller
loop-kept-smaller c = along-less c.loop-kept.invariant c.row-w.ensures c.if-w-ne-WHERE.false

pub loop-kept-preserved : goal.loop-kept-preserved
loop-kept-preserved c = along-step c.loop-kept.invariant c.row-w.ensures c.if-w-ne-WHERE.false c.test.ensures c.inner-kept.ensures
