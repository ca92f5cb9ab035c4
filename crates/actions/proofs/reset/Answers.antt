use mathlib.Core.Path.{refl, ◌∙◌}
use native.Mathlib.Omega.{arith}
use lib.ListN.{length-set}
use Rattle.expressions.proofs.Ways.{row_from}
use Rattle.actions.proofs.Listed.{here-row}
use Rattle.actions.proofs.Resetting.{reset-none, variable-inside, reset-next, reset-step}
use Rattle.actions.proofs.reset.Goals as goal

pub loop-r-init : goal.loop-r-init
loop-r-init c =
    (refl, c.requires, refl)

pub row-w-requires : goal.row-w-requires
row-w-requires c =
    row_from refl (here-row c.loop-r.invariant.1 c.loop-r-test.true)

pub slice_set_of-store : goal.slice_set_of-store
slice_set_of-store c =
    omega (arith, variable-inside (here-row c.loop-r.invariant.1 c.loop-r-test.true) c.loop-r-test.true c.row-w.ensures, c.loop-r.invariant.0)

pub loop-r-smaller : goal.loop-r-smaller
loop-r-smaller c =
    (reset-next (here-row c.loop-r.invariant.1 c.loop-r-test.true) c.loop-r-test.true c.row-w.ensures).0

pub loop-r-preserved : goal.loop-r-preserved
loop-r-preserved c =
    (length-set c.loop-r.store _ _ ∙ c.loop-r.invariant.0, (reset-next (here-row c.loop-r.invariant.1 c.loop-r-test.true) c.loop-r-test.true c.row-w.ensures).1, reset-step (here-row c.loop-r.invariant.1 c.loop-r-test.true) c.loop-r-test.true c.row-w.ensures c.loop-r.store ∙ c.loop-r.invariant.2)

pub returns : goal.returns
returns c =
    reset-none c.loop-r.invariant.1 c.loop-r-test.false c.loop-r.store ∙ c.loop-r.invariant.2
