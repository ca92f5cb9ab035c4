-- `bind`: the invariant is that the pattern here binds what the whole pattern binds. Assumes nothing.
use mathlib.Core.Path.{refl, ap}
use lib.ListN.{length, length-set}
use Rattle.expressions.proofs.Ways.{row_from}
use Rattle.patterns.proofs.Walks.{down-first, down-less, down_step, slot-in, bound-there, bound-none}
use Rattle.patterns.proofs.bind.Goals as goal

pub loop-was-init : goal.loop-was-init
loop-was-init c = (refl, down-first c.requires)

pub row-w-requires : goal.row-w-requires
row-w-requires c = row_from refl c.loop-was.invariant.1.runs

pub slice_copy_out-was : goal.slice_copy_out-was
slice_copy_out-was c = slot-in c.loop-was.invariant.1 c.row-w.ensures c.loop-was.invariant.0 c.if-w-eq-VARIABLE.true

pub bounds-store-w : goal.bounds-store-w
bounds-store-w c = slot-in c.loop-was.invariant.1 c.row-w.ensures c.loop-was.invariant.0 c.if-w-eq-VARIABLE.true

pub shape_of-store-then-w-eq-VARIABLE : goal.shape_of-store-then-w-eq-VARIABLE
shape_of-store-then-w-eq-VARIABLE c = simp length-set (ap length c.loop-was.invariant.0)

pub returns-then-w-eq-VARIABLE : goal.returns-then-w-eq-VARIABLE
returns-then-w-eq-VARIABLE c = bound-there c.loop-was.invariant.1 c.row-w.ensures _ _ c.loop-was.invariant.0 c.if-w-eq-VARIABLE.true c.ranges.z.sfits c.was-1.given

pub shape_of-store-then-w-ne-WHERE : goal.shape_of-store-then-w-ne-WHERE
shape_of-store-then-w-ne-WHERE c = ap length c.loop-was.invariant.0

pub returns-then-w-ne-WHERE : goal.returns-then-w-ne-WHERE
returns-then-w-ne-WHERE c = bound-none c.loop-was.invariant.1 c.row-w.ensures _ _ c.loop-was.invariant.0 c.if-w-eq-VARIABLE.false c.if-w-ne-WHERE.true

pub loop-was-smaller : goal.loop-was-smaller
loop-was-smaller c = down-less c.loop-was.invariant.1 c.row-w.ensures c.if-w-ne-WHERE.false

pub loop-was-preserved : goal.loop-was-preserved
loop-was-preserved c = (c.loop-was.invariant.0, down_step c.loop-was.invariant.1 c.row-w.ensures c.if-w-ne-WHERE.false)
