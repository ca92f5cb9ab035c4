-- `find_arm`: the invariant of the arms is that the search from here on finds what the whole search finds, on the store at entry; that of the
-- conditions is `judge`'s. Assumes nothing.
use lib.ListN.{length}
use mathlib.Core.Path.{refl, ap, ◌∙◌}
use Rattle.values.proofs.Held.{held-is}
use Rattle.expressions.proofs.Ways.{row_from}
use Rattle.patterns.proofs.Tried.{bound-still, bound-runs}
use Rattle.patterns.proofs.Walks.{along-first, along-less, along-condition, along-step, along-base}
use Rattle.patterns.proofs.Arms.{none_found, arm-row, arm-tries, next-less, arm-found, arm-unsure, seek-first, seek-end, seek-next}
use Rattle.patterns.proofs.find_arm.Goals as goal

pub arms-init : goal.arms-init
arms-init c = seek-first (held-is c.args.z c.ranges.z.sfits) c.requires

pub row-w-requires : goal.row-w-requires
row-w-requires c = arm-row c.arms.invariant.finds c.if-arm.false

pub bind-old-requires : goal.bind-old-requires
bind-old-requires c = (arm-tries c.arms.invariant.finds c.if-arm.false c.row-w.ensures).runs

pub loop-kept-init : goal.loop-kept-init
loop-kept-init c = (refl, along-first (bound-runs (arm-tries c.arms.invariant.finds c.if-arm.false c.row-w.ensures) refl c.bind-old.ensures))

pub row-q-requires : goal.row-q-requires
row-q-requires c = row_from refl c.loop-kept.invariant.1.runs

pub at_base-requires : goal.at_base-requires
at_base-requires c = tt

pub enum_told-1 : goal.enum_told-1
enum_told-1 c = c.in-Holds.in-Holds-own.keys1

pub enum_told-in-Fails : goal.enum_told-in-Fails
enum_told-in-Fails c = c.in-Fails.in-Fails-own.keys2

pub enum_told-in-Unsure : goal.enum_told-in-Unsure
enum_told-in-Unsure c = c.in-Unsure.in-Unsure-own.keys3

pub restore-requires : goal.restore-requires
restore-requires c = (bound-still c.bind-old.ensures c.loop-kept.invariant.0).inside

pub test-requires : goal.test-requires
test-requires c = along-condition c.loop-kept.invariant.1 c.row-q.ensures c.if-q-ne-WHERE.false

pub inner-kept-requires : goal.inner-kept-requires
inner-kept-requires c = tt

pub loop-kept-smaller : goal.loop-kept-smaller
loop-kept-smaller c = along-less c.loop-kept.invariant.1 c.row-q.ensures c.if-q-ne-WHERE.false

pub loop-kept-preserved : goal.loop-kept-preserved
loop-kept-preserved c = (c.loop-kept.invariant.0, along-step c.loop-kept.invariant.1 c.row-q.ensures c.if-q-ne-WHERE.false c.test.ensures c.inner-kept.ensures)

pub restore-requires-in-arms : goal.restore-requires-in-arms
restore-requires-in-arms c = (bound-still c.bind-old.ensures c.loop-kept.invariant.0).inside

pub arms-smaller : goal.arms-smaller
arms-smaller c = next-less c.arms.invariant.finds c.if-arm.false c.row-w.ensures

pub arms-preserved : goal.arms-preserved
arms-preserved c = seek-next c.arms.invariant c.if-arm.false c.row-w.ensures (bound-still c.bind-old.ensures c.loop-kept.invariant.0) (along-base c.loop-kept.invariant.1 c.row-q.ensures refl c.if-q-ne-WHERE.true c.at_base.ensures) c.in-Fails.is c.restore-in-arms.ensures

pub returns-then-arm : goal.returns-then-arm
returns-then-arm c = seek-end (held-is c.args.z c.ranges.z.sfits) c.arms.invariant (none_found c.arms.invariant.finds c.if-arm.true)

pub shape_of-store-in-Holds : goal.shape_of-store-in-Holds
shape_of-store-in-Holds c = ap length c.loop-kept.invariant.0 ∙ c.bind-old.auto.store ∙ ap length c.arms.invariant.kept

pub returns-in-Holds : goal.returns-in-Holds
returns-in-Holds c = seek-end (held-is c.args.z c.ranges.z.sfits) c.arms.invariant (arm-found c.arms.invariant.finds c.if-arm.false c.row-w.ensures (bound-still c.bind-old.ensures c.loop-kept.invariant.0) (along-base c.loop-kept.invariant.1 c.row-q.ensures refl c.if-q-ne-WHERE.true c.at_base.ensures) c.in-Holds.is)

pub shape_of-store-in-Unsure : goal.shape_of-store-in-Unsure
shape_of-store-in-Unsure c = c.restore.auto.store ∙ ap length c.loop-kept.invariant.0 ∙ c.bind-old.auto.store ∙ ap length c.arms.invariant.kept

pub returns-in-Unsure : goal.returns-in-Unsure
returns-in-Unsure c = seek-end (held-is c.args.z c.ranges.z.sfits) c.arms.invariant (arm-unsure c.arms.invariant.finds c.if-arm.false c.row-w.ensures (bound-still c.bind-old.ensures c.loop-kept.invariant.0) (along-base c.loop-kept.invariant.1 c.row-q.ensures refl c.if-q-ne-WHERE.true c.at_base.ensures) c.in-Unsure.is c.restore.ensures)
