-- The walk's functions meet their contracts: each way of the code is a law of Steps or Listing. A row's number falls with every call;
-- a list counts as its first row and one more, none as nothing. Assumes nothing.
use mathlib.Core.Path.{sym, ◌∙◌}
use native.Mathlib.Omega.{arith}
use Rattle.model.specs.Rows.{action, branch, arm}
use Rattle.sets.proofs.Rows.{row-of-kind}
use Rattle.sets.proofs.Steps.{do-plain, walking-all, first-ready, first-low, second-low, walking_on, walking-last, body-ready, body-low, do-loop, as_plain, branches-ready, branches-low, do-select, arms-ready, arms-low, do-case}
use Rattle.sets.proofs.Listing.{here-kind, branches-all, branch-ready, branch-low, branch_less, branches-on, branches-last, arms-all, arm-ready, arm_low, arm-less, arms-on, arms_last}
use Rattle.sets.proofs.flow.+walking.Goals as goal
use Rattle.sets.proofs.flow.+walking.Goals.{walk_single-in_default-via-then-c-lt59, walk_single-in_default-via-else-c-lt59+else-c-lt61}

pub walk-loop-w-init : goal.walk-loop-w-init
walk-loop-w-init t c = walking-all _ c.requires

pub walk-code-requires : goal.walk-code-requires
walk-code-requires t c = row-of-kind action _ c.loop-w.invariant.ready.lent.formed (omega arith) c.loop-w.invariant.ready.kind

pub walk-fields-w-requires : goal.walk-fields-w-requires
walk-fields-w-requires t c = row-of-kind action _ c.loop-w.invariant.ready.lent.formed (omega arith) c.loop-w.invariant.ready.kind

pub walk-walk_first-set-requires : goal.walk-walk_first-set-requires
walk-walk_first-set-requires t c = (omega (arith, c.decreases, first-low c.loop-w.invariant c.fields-w.ensures (sym c.code.ensures ∙ c.loop-w-test.true)), first-ready c.loop-w.invariant c.fields-w.ensures (sym c.code.ensures ∙ c.loop-w-test.true))

pub walk-loop-w-smaller : goal.walk-loop-w-smaller
walk-loop-w-smaller t c = second-low c.loop-w.invariant c.fields-w.ensures (sym c.code.ensures ∙ c.loop-w-test.true)

pub walk-loop-w-preserved : goal.walk-loop-w-preserved
walk-loop-w-preserved t c = walking_on c.loop-w.invariant c.fields-w.ensures (sym c.code.ensures ∙ c.loop-w-test.true) c.walk_first-set.ensures

pub walk-returns : goal.walk-returns
walk-returns t c = walking-last c.loop-w.invariant c.walk_single.ensures

pub walk_arms-loop-here-init : goal.walk_arms-loop-here-init
walk_arms-loop-here-init t c = arms-all _ c.requires

pub walk_arms-fields-w-requires : goal.walk_arms-fields-w-requires
walk_arms-fields-w-requires t c = row-of-kind arm _ c.loop-here.invariant.ready.lent.formed (omega arith) (here-kind _ c.loop-here.invariant c.loop-here-test.true)

pub walk_arms-walk-ends-requires : goal.walk_arms-walk-ends-requires
walk_arms-walk-ends-requires t c = (omega (arith, c.decreases, arm_low _ c.loop-here.invariant c.fields-w.ensures c.loop-here-test.true), arm-ready _ c.loop-here.invariant c.fields-w.ensures c.loop-here-test.true)

pub walk_arms-loop-here-smaller : goal.walk_arms-loop-here-smaller
walk_arms-loop-here-smaller t c = arm-less _ c.loop-here.invariant c.fields-w.ensures c.loop-here-test.true

pub walk_arms-loop-here-preserved : goal.walk_arms-loop-here-preserved
walk_arms-loop-here-preserved t c = arms-on _ c.loop-here.invariant c.fields-w.ensures c.loop-here-test.true _ c.masks_in.ensures c.walk-ends.ensures

pub walk_arms-returns : goal.walk_arms-returns
walk_arms-returns t c = arms_last _ c.loop-here.invariant c.loop-here-test.false

pub walk_branches-loop-here-init : goal.walk_branches-loop-here-init
walk_branches-loop-here-init t c = branches-all _ c.requires

pub walk_branches-fields-w-requires : goal.walk_branches-fields-w-requires
walk_branches-fields-w-requires t c = row-of-kind branch _ c.loop-here.invariant.ready.lent.formed (omega arith) (here-kind _ c.loop-here.invariant c.loop-here-test.true)

pub walk_branches-walk-ends-requires : goal.walk_branches-walk-ends-requires
walk_branches-walk-ends-requires t c = (omega (arith, c.decreases, branch-low _ c.loop-here.invariant c.fields-w.ensures c.loop-here-test.true), branch-ready _ c.loop-here.invariant c.fields-w.ensures c.loop-here-test.true)

pub walk_branches-loop-here-smaller : goal.walk_branches-loop-here-smaller
walk_branches-loop-here-smaller t c = branch_less _ c.loop-here.invariant c.fields-w.ensures c.loop-here-test.true

pub walk_branches-loop-here-preserved : goal.walk_branches-loop-here-preserved
walk_branches-loop-here-preserved t c = branches-on _ c.loop-here.invariant c.fields-w.ensures c.loop-here-test.true c.walk-ends.ensures

pub walk_branches-returns : goal.walk_branches-returns
walk_branches-returns t c = branches-last _ c.loop-here.invariant c.loop-here-test.false

pub walk_first-code-requires : goal.walk_first-code-requires
walk_first-code-requires t c = row-of-kind action _ c.requires.lent.formed (omega arith) c.requires.kind

pub walk_first-returns-then-code-lt53 : goal.walk_first-returns-then-code-lt53
walk_first-returns-then-code-lt53 t c = do-plain c.requires.sets c.plain.ensures

pub walk_loop-fields-w-requires : goal.walk_loop-fields-w-requires
walk_loop-fields-w-requires t c = row-of-kind action _ c.requires.ready.lent.formed (omega arith) c.requires.ready.kind

pub walk_loop-walk-ends-requires : goal.walk_loop-walk-ends-requires
walk_loop-walk-ends-requires t c = (omega (arith, c.decreases, body-low c.requires c.fields-w.ensures), body-ready c.requires c.fields-w.ensures)

pub walk_loop-returns : goal.walk_loop-returns
walk_loop-returns t c = do-loop c.requires c.fields-w.ensures _ _ _ _ c.masks_in-head.ensures c.walk-ends.ensures c.inside.ensures c.inside-2.ensures

pub walk_single-fields-w-requires : goal.walk_single-fields-w-requires
walk_single-fields-w-requires t c = row-of-kind action _ c.requires.ready.lent.formed (omega arith) c.requires.ready.kind

pub walk_single-walk_branches-requires : goal.walk_single-walk_branches-requires
walk_single-walk_branches-requires t c = (
  omega (arith, c.decreases, branches-low c.requires c.fields-w.ensures c.in-55.is),
  branches-ready c.requires c.fields-w.ensures c.in-55.is,
)

pub walk_single-walk_arms-requires : goal.walk_single-walk_arms-requires
walk_single-walk_arms-requires t c = (
  omega (arith, c.decreases, arms-low c.requires c.fields-w.ensures c.in-56.is),
  arms-ready c.requires c.fields-w.ensures c.in-56.is,
)

pub walk_single-plain-requires : goal.walk_single-plain-requires
walk_single-plain-requires t c = as_plain c.requires c.fields-w.ensures c.in_default-1.rest.0.0.1 c.in_default-1.rest.0.1 c.in_default-1.rest.1
    (λ p. elim c.in_default.branch [ walk_single-in_default-via-then-c-lt59 w ↦ omega (arith, p.0, w.if-c-lt59-1.true) | walk_single-in_default-via-else-c-lt59+else-c-lt61 w ↦ omega (arith, p.1, w.if-c-lt61-1.false) ])

pub walk_single-returns-in-55 : goal.walk_single-returns-in-55
walk_single-returns-in-55 t c = do-select c.requires c.fields-w.ensures c.in-55.is _ c.walk_branches.ensures

pub walk_single-returns-in-56 : goal.walk_single-returns-in-56
walk_single-returns-in-56 t c = do-case c.requires c.fields-w.ensures c.in-56.is _ _ _ _ c.walk_arms.ensures c.masks_in.ensures c.masks_in-in-56.ensures c.inside.ensures

pub walk_single-returns-in_default : goal.walk_single-returns-in_default
walk_single-returns-in_default t c = do-plain c.requires.ready.sets c.plain.ensures
