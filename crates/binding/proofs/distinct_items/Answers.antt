-- `binding::distinct_items` meets its contract. The loop's invariant: the rule of the rest of the list is that of the whole.
-- Assumes nothing.
use mathlib.Core.Path.{◌∙◌}
use Rattle.binding.proofs.Vectors.{vector-over, vector_row, vector-item, vector-bit, vector-next, vector-less, vector-fails, vector-passes}
use Rattle.binding.proofs.distinct_items.Goals as goal

pub fields-w-requires : goal.fields-w-requires
fields-w-requires c = vector_row c.loop-r.invariant.0 c.loop-r-test.true

pub next_item-next-requires : goal.next_item-next-requires
next_item-next-requires c = vector-item c.loop-r.invariant.0 c.loop-r-test.true _ c.fields-w.ensures

pub bit-requires : goal.bit-requires
bit-requires c = vector-bit c.loop-r.invariant.0 c.loop-r-test.true _ c.fields-w.ensures

pub returns-then-not-apart : goal.returns-then-not-apart
returns-then-not-apart c = vector-fails c.loop-r.invariant.0 c.loop-r-test.true _ c.fields-w.ensures _ c.next_item-next.ensures _ _ _ c.bit.ensures c.masks_in.ensures c.apart.ensures c.if-not-apart.true ∙ c.loop-r.invariant.1

pub loop-r-smaller : goal.loop-r-smaller
loop-r-smaller c = vector-less c.loop-r.invariant.0 c.loop-r-test.true _ c.fields-w.ensures _ c.next_item-next.ensures

pub loop-r-preserved : goal.loop-r-preserved
loop-r-preserved c = (vector-next c.loop-r.invariant.0 c.loop-r-test.true _ c.fields-w.ensures _ c.next_item-next.ensures, vector-passes c.loop-r.invariant.0 c.loop-r-test.true _ c.fields-w.ensures _ c.next_item-next.ensures _ _ _ c.bit.ensures c.masks_in.ensures c.apart.ensures c.if-not-apart.false ∙ c.loop-r.invariant.1)

pub returns : goal.returns
returns c = vector-over c.loop-r.invariant.0 c.loop-r-test.false ∙ c.loop-r.invariant.1
