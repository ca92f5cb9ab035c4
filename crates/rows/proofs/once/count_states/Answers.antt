-- `rows::once::count_states` meets its contract. Assumes nothing.
use native.Mathlib.Omega.{arith}
use Rattle.model.specs.Image.{tables_of}
use Rattle.rows.proofs.Fields.{state-in}
use Rattle.rows.proofs.Counting.{counted_none, states-turn, states-end}
use Rattle.rows.proofs.once.count_states.Goals as goal

pub loop-q-init : goal.loop-q-init
loop-q-init c = counted_none _

pub state_row-requires : goal.state_row-requires
state_row-requires c = state-in c.requires _ (omega (arith, c.state_count-n.ensures))

pub loop-q-preserved : goal.loop-q-preserved
loop-q-preserved c =
    states-turn (tables_of c.args.x.now.image.now) _ _ c.loop-q.invariant
    (omega (arith, c.loop-q-test.true, c.state_count-n.ensures)) c.state_row.ensures c.count.ensures

pub shape_of-counts : goal.shape_of-counts
shape_of-counts c = c.loop-q.invariant.exact

pub returns : goal.returns
returns c =
    states-end (tables_of c.args.x.now.image.now) c.loop-q.q c.loop-q.invariant (omega (arith, c.loop-q-test.false, c.state_count-n.ensures))
