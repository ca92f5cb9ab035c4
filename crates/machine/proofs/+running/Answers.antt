-- The run of an action and of what it holds meets its contracts: units and rows fall. Assumes nothing.
use Prim.Native.Nat.{◌/◌}
use mathlib.Core.Path.{refl, sym, ◌∙◌, ap}
use native.Mathlib.Omega.{arith}
use borrow.Author.Rules.{rules}
use Rattle.actions.specs.declared.Run.{Run}
use Rattle.told.specs.Told.{ran_of}
use Rattle.told.proofs.Coded.{ends_at, out-over, told-by, out-ends, told-ends}
use Rattle.machine.proofs.Parts.{row_of, moved, both-parts, select-parts, case-parts, while-parts, for-parts, simple-parts, runs, same_store, first-row}
use Rattle.machine.proofs.Ways.{spent-way, simple-way, both-way, select-way, case-way, while-way, for-way, left-of, ends-typed, both_ends, both-stops, paid-left, branch-action, heard-left, branch-over, branch-rest, branch-first, branch-next, select-none, select-ended, select-negative, select-branch}
use Rattle.machine.proofs.Helpers.{told-as, run-same, from-same, null-told}
use borrow.Author.Tests.{leb-true, leb-false}
use lib.ListN.{length, length-set}
use Rattle.values.proofs.Held.{held-is}
use Rattle.machine.proofs.Arms.{case-arms, case-is, case-unknown, arm-finds, arm-action, arm-found, arm-none, arm-unsure}
use Rattle.machine.proofs.Loops.{while-first, while-test, while-ends, while-unsure, while-stops, while-less, while-more, for-range, for-slot, for-first, for-is, for-ends, for-unsure, slot_of, for-stops, for-less, for-more}
use Rattle.machine.proofs.+running.Goals as goal

pub run_action-stopped-requires : goal.run_action-stopped-requires
run_action-stopped-requires t c = omega arith

pub run_action-returns-then-run-eq0 : goal.run_action-returns-then-run-eq0
run_action-returns-then-run-eq0 t c = record {
  told = told-by c.stopped.ensures;
  result = spent-way c.requires _ c.args.run.now c.if-run-eq0.true (told-as c.args.run.now c.stopped.ensures.outcome);
  store = refl;
  values = refl;
}

pub run_action-charge-requires : goal.run_action-charge-requires
run_action-charge-requires t c = omega (arith, c.if-run-eq0.false)

pub run_action-row-w-requires : goal.run_action-row-w-requires
run_action-row-w-requires t c = row_of c.requires refl

pub run_action-run_both-requires : goal.run_action-run_both-requires
run_action-run_both-requires t c = (omega (arith, c.decreases, paid-left c.charge.ensures c.if-run-eq0.false), both-parts c.requires c.row-w.ensures c.in-54.is)

pub run_action-run_select-requires : goal.run_action-run_select-requires
run_action-run_select-requires t c = (omega (arith, c.decreases, paid-left c.charge.ensures c.if-run-eq0.false), select-parts c.requires c.row-w.ensures c.in-55.is)

pub run_action-run_case-requires : goal.run_action-run_case-requires
run_action-run_case-requires t c = (omega (arith, c.decreases, paid-left c.charge.ensures c.if-run-eq0.false), case-parts c.requires c.row-w.ensures c.in-56.is)

pub run_action-run_while-requires : goal.run_action-run_while-requires
run_action-run_while-requires t c = (omega (arith, c.decreases, paid-left c.charge.ensures c.if-run-eq0.false), while-parts c.requires c.row-w.ensures c.in-59.is)

pub run_action-run_for-requires : goal.run_action-run_for-requires
run_action-run_for-requires t c = (omega (arith, c.decreases, paid-left c.charge.ensures c.if-run-eq0.false), for-parts c.requires c.row-w.ensures c.in-60.is)

pub run_action-run_simple-requires : goal.run_action-run_simple-requires
run_action-run_simple-requires t c = simple-parts c.requires c.row-w.ensures c.in_default.in_default-own.rest.0.0.0.0.1 c.in_default.in_default-own.rest.0.0.0.1 c.in_default.in_default-own.rest.0.0.1 c.in_default.in_default-own.rest.0.1 c.in_default.in_default-own.rest.1

pub run_action-returns-in-54 : goal.run_action-returns-in-54
run_action-returns-in-54 t c = record {
  told = c.run_both.ensures.told;
  result = both-way c.requires _ c.args.run.now c.if-run-eq0.false c.charge.ensures c.row-w.ensures c.in-54.is c.run_both.ensures.result;
  store = c.run_both.ensures.store;
  values = c.run_both.ensures.values;
}

pub run_action-returns-in-55 : goal.run_action-returns-in-55
run_action-returns-in-55 t c = record {
  told = c.run_select.ensures.told;
  result = select-way c.requires _ c.args.run.now c.if-run-eq0.false c.charge.ensures c.row-w.ensures c.in-55.is c.run_select.ensures.result;
  store = c.run_select.ensures.store;
  values = c.run_select.ensures.values;
}

pub run_action-returns-in-56 : goal.run_action-returns-in-56
run_action-returns-in-56 t c = record {
  told = c.run_case.ensures.told;
  result = case-way c.requires _ c.args.run.now c.if-run-eq0.false c.charge.ensures c.row-w.ensures c.in-56.is c.run_case.ensures.result;
  store = c.run_case.ensures.store;
  values = c.run_case.ensures.values;
}

pub run_action-returns-in-59 : goal.run_action-returns-in-59
run_action-returns-in-59 t c = record {
  told = c.run_while.ensures.told;
  result = while-way c.requires _ c.args.run.now c.if-run-eq0.false c.charge.ensures c.row-w.ensures c.in-59.is c.run_while.ensures.result;
  store = c.run_while.ensures.store;
  values = c.run_while.ensures.values;
}

pub run_action-returns-in-60 : goal.run_action-returns-in-60
run_action-returns-in-60 t c = record {
  told = c.run_for.ensures.told;
  result = for-way c.requires _ c.args.run.now c.if-run-eq0.false c.charge.ensures c.row-w.ensures c.in-60.is c.run_for.ensures.result;
  store = c.run_for.ensures.store;
  values = c.run_for.ensures.values;
}

pub run_action-returns-in_default : goal.run_action-returns-in_default
run_action-returns-in_default t c = record {
  told = c.run_simple.ensures.told;
  result = simple-way c.requires _ c.args.run.now c.if-run-eq0.false c.charge.ensures c.run_simple.ensures.result;
  store = c.run_simple.ensures.store;
  values = c.run_simple.ensures.values;
}

pub run_both-run_action-n-requires : goal.run_both-run_action-n-requires
run_both-run_action-n-requires t c = (omega (arith, c.decreases), c.requires.0)

pub run_both-returns-then-n-ne-ENDS : goal.run_both-returns-then-n-ne-ENDS
run_both-returns-then-n-ne-ENDS t c = record {
  told = c.run_action-n.ensures.told;
  result = both-stops _ c.run_action-n.ensures.result (out-over _ c.if-n-ne-ENDS.true);
  store = c.run_action-n.ensures.store;
  values = c.run_action-n.ensures.values;
}

pub run_both-run_action-requires : goal.run_both-run_action-requires
run_both-run_action-requires t c = (omega (arith, c.decreases, left-of c.requires.0 _ c.args.run.now (ran_of c.run_action-n.result c.run_action-n.new.run) _ _ c.run_action-n.ensures.result), moved c.requires.1 (ends-typed c.requires.0 _ c.args.run.now (ran_of c.run_action-n.result c.run_action-n.new.run) _ _ c.run_action-n.ensures.result (sym (ends_at _ c.if-n-ne-ENDS.false))) c.run_action-n.ensures.values)

pub run_both-returns : goal.run_both-returns
run_both-returns t c = record {
  told = c.run_action.ensures.told;
  result = both_ends _ c.run_action-n.ensures.result (sym (ends_at _ c.if-n-ne-ENDS.false)) c.run_action.ensures.result;
  store = c.run_action.ensures.store ∙ c.run_action-n.ensures.store;
  values = c.run_action.ensures.values ∙ c.run_action-n.ensures.values;
}

pub run_select-blocked-requires : goal.run_select-blocked-requires
run_select-blocked-requires t c = search rules

pub run_select-returns-then-a-eq-NONE : goal.run_select-returns-then-a-eq-NONE
run_select-returns-then-a-eq-NONE t c = record {
  told = told-by c.blocked.ensures;
  result = select-none c.requires _ _ c.args.run.now c.if-a-eq-NONE.true (told-as c.args.run.now c.blocked.ensures.outcome);
  store = refl;
  values = refl;
}

pub run_select-no_word-requires : goal.run_select-no_word-requires
run_select-no_word-requires t c = search rules

pub run_select-stopped-requires : goal.run_select-stopped-requires
run_select-stopped-requires t c = omega arith

pub run_select-returns-then-no_word : goal.run_select-returns-then-no_word
run_select-returns-then-no_word t c = record {
  told = told-by c.stopped.ensures;
  result = select-ended c.requires _ _ c.args.run.now c.if-a-eq-NONE.false (omega (arith, (leb-true (length c.args.script.now.now / 4) c.args.run.now.words (sym c.no_word.ensures.0 ∙ c.if-no_word.true)))) (told-as c.args.run.now c.stopped.ensures.outcome);
  store = refl;
  values = refl;
}

pub run_select-word-z-requires : goal.run_select-word-z-requires
run_select-word-z-requires t c = omega (arith, (leb-false (length c.args.script.now.now / 4) c.args.run.now.words (sym c.no_word.ensures.0 ∙ c.if-no_word.false)))

pub run_select-hear-requires : goal.run_select-hear-requires
run_select-hear-requires t c = omega (arith, (leb-false (length c.args.script.now.now / 4) c.args.run.now.words (sym c.no_word.ensures.0 ∙ c.if-no_word.false)), c.no_word.ensures.1)

pub run_select-stopped-requires-then-z-lt0 : goal.run_select-stopped-requires-then-z-lt0
run_select-stopped-requires-then-z-lt0 t c = omega arith

pub run_select-returns-then-z-lt0 : goal.run_select-returns-then-z-lt0
run_select-returns-then-z-lt0 t c = record {
  told = told-by c.stopped-then-z-lt0.ensures;
  result = select-negative c.requires _ _ c.args.run.now c.if-a-eq-NONE.false (omega (arith, (leb-false (length c.args.script.now.now / 4) c.args.run.now.words (sym c.no_word.ensures.0 ∙ c.if-no_word.false)))) (held-is c.word-z.result c.word-z.type_inv ∙ c.word-z.ensures) c.hear.ensures c.if-z-lt0.true (told-as c.hear.new.run c.stopped-then-z-lt0.ensures.outcome);
  store = refl;
  values = refl;
}

pub run_select-size-requires : goal.run_select-size-requires
run_select-size-requires t c = search rules

pub run_select-run_branches-requires : goal.run_select-run_branches-requires
run_select-run_branches-requires t c = (omega (arith, c.decreases, heard-left c.args.run.now c.hear.ensures), c.requires)

pub run_select-returns : goal.run_select-returns
run_select-returns t c = record {
  told = c.run_branches.ensures.told;
  result = select-branch c.requires _ _ c.args.run.now c.if-a-eq-NONE.false (omega (arith, (leb-false (length c.args.script.now.now / 4) c.args.run.now.words (sym c.no_word.ensures.0 ∙ c.if-no_word.false)))) (held-is c.word-z.result c.word-z.type_inv ∙ c.word-z.ensures) c.hear.ensures c.if-z-lt0.false c.size.ensures c.run_branches.ensures.result;
  store = c.run_branches.ensures.store;
  values = c.run_branches.ensures.values;
}

pub run_branches-loop-here-init : goal.run_branches-loop-here-init
run_branches-loop-here-init t c = (refl, refl, refl, c.requires, refl)

pub run_branches-stopped-requires : goal.run_branches-stopped-requires
run_branches-stopped-requires t c = omega arith

pub run_branches-returns-then-here : goal.run_branches-returns-then-here
run_branches-returns-then-here t c = record {
  told = told-by c.stopped.ensures;
  result = branch-over c.loop-here.invariant.3 _ _ _ _ c.if-here.true (run-same (told-as _ c.stopped.ensures.outcome) c.loop-here.invariant.0 c.loop-here.invariant.1 c.loop-here.invariant.2) ∙ c.loop-here.invariant.4;
  store = ap length c.loop-here.invariant.0;
  values = ap length c.loop-here.invariant.1;
}

pub run_branches-row-w-requires : goal.run_branches-row-w-requires
run_branches-row-w-requires t c = first-row c.loop-here.invariant.3 refl c.if-here.false

pub run_branches-run_action-requires : goal.run_branches-run_action-requires
run_branches-run_action-requires t c = (omega (arith, c.decreases, ap (λ (run : Run). run.left) c.loop-here.invariant.2), same_store (branch-action c.loop-here.invariant.3 c.if-here.false c.row-w.ensures) c.loop-here.invariant.0 c.loop-here.invariant.1)

pub run_branches-returns-then-ahead-eq0 : goal.run_branches-returns-then-ahead-eq0
run_branches-returns-then-ahead-eq0 t c = record {
  told = c.run_action.ensures.told;
  result = branch-first c.loop-here.invariant.3 _ _ _ c.if-here.false c.row-w.ensures c.if-ahead-eq0.true (c.run_action.ensures.result ∙ from-same _ _ _ c.loop-here.invariant.0 c.loop-here.invariant.1 c.loop-here.invariant.2) ∙ c.loop-here.invariant.4;
  store = c.run_action.ensures.store ∙ ap length c.loop-here.invariant.0;
  values = c.run_action.ensures.values ∙ ap length c.loop-here.invariant.1;
}

pub run_branches-overflow_sub-ahead : goal.run_branches-overflow_sub-ahead
run_branches-overflow_sub-ahead t c = omega (arith, c.if-ahead-eq0.false)

pub run_branches-loop-here-smaller : goal.run_branches-loop-here-smaller
run_branches-loop-here-smaller t c = (branch-rest c.loop-here.invariant.3 c.if-here.false c.row-w.ensures).0

pub run_branches-loop-here-preserved : goal.run_branches-loop-here-preserved
run_branches-loop-here-preserved t c = (c.loop-here.invariant.0, c.loop-here.invariant.1, c.loop-here.invariant.2, (branch-rest c.loop-here.invariant.3 c.if-here.false c.row-w.ensures).1, branch-next c.loop-here.invariant.3 _ _ _ c.if-here.false c.row-w.ensures _ c.if-ahead-eq0.false ∙ c.loop-here.invariant.4)

pub run_case-slice_bounds-eval_on-end : goal.run_case-slice_bounds-eval_on-end
run_case-slice_bounds-eval_on-end t c = search rules

pub run_case-eval_on-requires : goal.run_case-eval_on-requires
run_case-eval_on-requires t c = runs c.requires.subject

pub run_case-enum_known-z : goal.run_case-enum_known-z
run_case-enum_known-z t c = search rules

pub run_case-run_arms-requires : goal.run_case-run_arms-requires
run_case-run_arms-requires t c = (omega (arith, c.decreases), rw c.eval_on.ensures.1 (case-arms c.requires c.eval_on.ensures.0 c.in-Some.is))

pub run_case-enum_told-1 : goal.run_case-enum_told-1
run_case-enum_told-1 t c = search rules

pub run_case-stopped-requires : goal.run_case-stopped-requires
run_case-stopped-requires t c = omega arith

pub run_case-returns-in-Some : goal.run_case-returns-in-Some
run_case-returns-in-Some t c = record {
  told = c.run_arms.ensures.told;
  result = case-is c.requires _ _ c.args.run.now c.eval_on.ensures.0 c.in-Some.is (rw c.eval_on.ensures.1 at c.run_arms.ensures.result);
  store = c.run_arms.ensures.store ∙ ap length c.eval_on.ensures.1;
  values = c.run_arms.ensures.values;
}

pub run_case-returns-in-None : goal.run_case-returns-in-None
run_case-returns-in-None t c = record {
  told = told-by c.stopped.ensures;
  result = rw c.eval_on.ensures.1 (case-unknown c.requires _ _ c.args.run.now c.eval_on.ensures.0 c.in-None.is (told-as c.args.run.now c.stopped.ensures.outcome));
  store = ap length c.eval_on.ensures.1;
  values = refl;
}

pub run_arms-slice_bounds-find_arm-end : goal.run_arms-slice_bounds-find_arm-end
run_arms-slice_bounds-find_arm-end t c = search rules

pub run_arms-find_arm-requires : goal.run_arms-find_arm-requires
run_arms-find_arm-requires t c = arm-finds c.requires

pub run_arms-enum_known-a : goal.run_arms-enum_known-a
run_arms-enum_known-a t c = search rules

pub run_arms-run_action-requires : goal.run_arms-run_action-requires
run_arms-run_action-requires t c = (omega (arith, c.decreases), arm-action c.requires c.find_arm.ensures c.in-Arm.is)

pub run_arms-enum_told-1 : goal.run_arms-enum_told-1
run_arms-enum_told-1 t c = search rules

pub run_arms-blocked-requires : goal.run_arms-blocked-requires
run_arms-blocked-requires t c = search rules

pub run_arms-enum_told-in-Unsure : goal.run_arms-enum_told-in-Unsure
run_arms-enum_told-in-Unsure t c = search rules

pub run_arms-stopped-requires : goal.run_arms-stopped-requires
run_arms-stopped-requires t c = omega arith

pub run_arms-returns-in-Arm : goal.run_arms-returns-in-Arm
run_arms-returns-in-Arm t c = record {
  told = c.run_action.ensures.told;
  result = arm-found c.requires c.find_arm.ensures _ _ c.args.run.now c.in-Arm.is c.run_action.ensures.result;
  store = c.run_action.ensures.store ∙ c.find_arm.auto.store;
  values = c.run_action.ensures.values;
}

pub run_arms-returns-in-NoArm : goal.run_arms-returns-in-NoArm
run_arms-returns-in-NoArm t c = record {
  told = told-by c.blocked.ensures;
  result = arm-none c.requires c.find_arm.ensures _ _ c.args.run.now c.in-NoArm.is (told-as c.args.run.now c.blocked.ensures.outcome);
  store = c.find_arm.auto.store;
  values = refl;
}

pub run_arms-returns-in-Unsure : goal.run_arms-returns-in-Unsure
run_arms-returns-in-Unsure t c = record {
  told = told-by c.stopped.ensures;
  result = arm-unsure c.requires c.find_arm.ensures _ _ c.args.run.now c.in-Unsure.is (told-as c.args.run.now c.stopped.ensures.outcome);
  store = c.find_arm.auto.store;
  values = refl;
}

pub run_body-row-w-requires : goal.run_body-row-w-requires
run_body-row-w-requires t c = row_of c.requires refl

pub run_body-run_action-requires : goal.run_body-run_action-requires
run_body-run_action-requires t c = (omega (arith, c.decreases), c.requires)

pub run_body-stopped-requires : goal.run_body-stopped-requires
run_body-stopped-requires t c = omega arith

pub run_body-returns-then-run-eq0 : goal.run_body-returns-then-run-eq0
run_body-returns-then-run-eq0 t c = record {
  told = told-by c.stopped.ensures;
  result = spent-way c.requires _ c.args.run.now c.if-run-eq0.true (told-as c.args.run.now c.stopped.ensures.outcome);
  store = refl;
  values = refl;
}

pub run_body-charge-requires : goal.run_body-charge-requires
run_body-charge-requires t c = omega (arith, c.if-run-eq0.false)

pub run_body-returns : goal.run_body-returns
run_body-returns t c = record {
  told = told-ends;
  result = simple-way c.requires _ c.args.run.now c.if-run-eq0.false c.charge.ensures (null-told (runs c.requires) c.row-w.ensures c.charge.new.run c.args.values.now c.args.script.now.now (omega arith));
  store = refl;
  values = refl;
}

pub run_while-loop-store-init : goal.run_while-loop-store-init
run_while-loop-store-init t c = (while-first c.args.script.now.now c.args.run.now c.requires)

pub run_while-test_on-requires : goal.run_while-test_on-requires
run_while-test_on-requires t c = while-test c.loop-store.invariant

pub run_while-returns-in-Fails : goal.run_while-returns-in-Fails
run_while-returns-in-Fails t c = record {
  told = told-ends;
  result = rw c.test_on.ensures.1 (while-ends c.loop-store.invariant c.test_on.ensures.0 c.in-Fails.is (told-as c.loop-store.run out-ends));
  store = ap length c.test_on.ensures.1 ∙ c.loop-store.invariant.store;
  values = c.loop-store.invariant.buffer;
}

pub run_while-stopped-requires : goal.run_while-stopped-requires
run_while-stopped-requires t c = omega arith

pub run_while-returns-in-Unsure : goal.run_while-returns-in-Unsure
run_while-returns-in-Unsure t c = record {
  told = told-by c.stopped.ensures;
  result = rw c.test_on.ensures.1 (while-unsure c.loop-store.invariant c.test_on.ensures.0 c.in-Unsure.is (told-as c.loop-store.run c.stopped.ensures.outcome));
  store = ap length c.test_on.ensures.1 ∙ c.loop-store.invariant.store;
  values = c.loop-store.invariant.buffer;
}

pub run_while-run_body-p-requires : goal.run_while-run_body-p-requires
run_while-run_body-p-requires t c = (omega (arith, c.decreases, c.loop-store.invariant.less), rw c.test_on.ensures.1 c.loop-store.invariant.going.body)

pub run_while-again-n-requires : goal.run_while-again-n-requires
run_while-again-n-requires t c = c.run_body-p.ensures.told

pub run_while-returns-then-n-ne-ENDS : goal.run_while-returns-then-n-ne-ENDS
run_while-returns-then-n-ne-ENDS t c = record {
  told = c.again-n.ensures.0;
  result = while-stops c.loop-store.invariant c.test_on.ensures.0 c.in-Holds.is _ _ c.again-n.ensures.1 (rw c.test_on.ensures.1 at c.run_body-p.ensures.result) (out-over _ c.if-n-ne-ENDS.true);
  store = c.run_body-p.ensures.store ∙ ap length c.test_on.ensures.1 ∙ c.loop-store.invariant.store;
  values = c.run_body-p.ensures.values ∙ c.loop-store.invariant.buffer;
}

pub run_while-loop-store-smaller : goal.run_while-loop-store-smaller
run_while-loop-store-smaller t c = while-less c.loop-store.invariant c.test_on.ensures.0 c.in-Holds.is _ _ c.again-n.ensures.1 (rw c.test_on.ensures.1 at c.run_body-p.ensures.result) (sym (ends_at _ c.if-n-ne-ENDS.false))

pub run_while-loop-store-preserved : goal.run_while-loop-store-preserved
run_while-loop-store-preserved t c = (while-more c.loop-store.invariant c.test_on.ensures.0 c.in-Holds.is _ _ c.again-n.ensures.1 (rw c.test_on.ensures.1 at c.run_body-p.ensures.result) (sym (ends_at _ c.if-n-ne-ENDS.false)) (c.run_body-p.ensures.store ∙ ap length c.test_on.ensures.1) c.run_body-p.ensures.values)

pub run_for-row-w-requires : goal.run_for-row-w-requires
run_for-row-w-requires t c = for-range c.requires

pub run_for-bounds-store-v : goal.run_for-bounds-store-v
run_for-bounds-store-v t c = for-slot c.requires c.row-w.ensures

pub run_for-loop-store-init : goal.run_for-loop-store-init
run_for-loop-store-init t c = (for-first c.requires c.args.script.now.now c.args.run.now c.row-w.ensures (held-is c.signed.result c.signed.type_inv ∙ c.signed.ensures))

pub run_for-at_most-requires : goal.run_for-at_most-requires
run_for-at_most-requires t c = for-slot c.loop-store.invariant.going c.row-w.ensures

pub run_for-returns-in-Fails : goal.run_for-returns-in-Fails
run_for-returns-in-Fails t c = record {
  told = told-ends;
  result = for-is c.requires _ c.args.run.now c.row-w.ensures (held-is c.signed.result c.signed.type_inv ∙ c.signed.ensures) (rw c.at_most.ensures.1 (for-ends c.loop-store.invariant c.row-w.ensures (held-is c.signed-high.result c.signed-high.type_inv ∙ c.signed-high.ensures) c.at_most.ensures.0 c.in-Fails.is (told-as c.loop-store.run out-ends)));
  store = ap length c.at_most.ensures.1 ∙ c.loop-store.invariant.store ∙ simp length-set;
  values = c.loop-store.invariant.buffer;
}

pub run_for-stopped-requires : goal.run_for-stopped-requires
run_for-stopped-requires t c = omega arith

pub run_for-returns-in-Unsure : goal.run_for-returns-in-Unsure
run_for-returns-in-Unsure t c = record {
  told = told-by c.stopped.ensures;
  result = for-is c.requires _ c.args.run.now c.row-w.ensures (held-is c.signed.result c.signed.type_inv ∙ c.signed.ensures) (rw c.at_most.ensures.1 (for-unsure c.loop-store.invariant c.row-w.ensures (held-is c.signed-high.result c.signed-high.type_inv ∙ c.signed-high.ensures) c.at_most.ensures.0 c.in-Unsure.is (told-as c.loop-store.run c.stopped.ensures.outcome)));
  store = ap length c.at_most.ensures.1 ∙ c.loop-store.invariant.store ∙ simp length-set;
  values = c.loop-store.invariant.buffer;
}

pub run_for-run_body-p-requires : goal.run_for-run_body-p-requires
run_for-run_body-p-requires t c = (omega (arith, c.decreases, c.loop-store.invariant.less), rw c.at_most.ensures.1 c.loop-store.invariant.going.body)

pub run_for-onward-o-requires : goal.run_for-onward-o-requires
run_for-onward-o-requires t c = (c.run_body-p.ensures.told, slot_of c.loop-store.invariant c.row-w.ensures _ _ (ran_of c.run_body-p.result c.run_body-p.new.run) (rw c.at_most.ensures.1 at c.run_body-p.ensures.result) (c.run_body-p.ensures.store ∙ ap length c.at_most.ensures.1))

pub run_for-again-n-requires : goal.run_for-again-n-requires
run_for-again-n-requires t c = c.onward-o.ensures.0

pub run_for-returns-then-n-ne-ENDS : goal.run_for-returns-then-n-ne-ENDS
run_for-returns-then-n-ne-ENDS t c = record {
  told = c.again-n.ensures.0;
  result = for-is c.requires _ c.args.run.now c.row-w.ensures (held-is c.signed.result c.signed.type_inv ∙ c.signed.ensures) (for-stops c.loop-store.invariant c.row-w.ensures _ _ (ran_of c.run_body-p.result c.run_body-p.new.run) (rw c.at_most.ensures.1 at c.run_body-p.ensures.result) (held-is c.signed-high.result c.signed-high.type_inv ∙ c.signed-high.ensures) c.at_most.ensures.0 c.in-Holds.is _ c.onward-o.ensures.1 c.again-n.ensures.1 (out-over _ c.if-n-ne-ENDS.true));
  store = c.onward-o.auto.store ∙ c.run_body-p.ensures.store ∙ ap length c.at_most.ensures.1 ∙ c.loop-store.invariant.store ∙ simp length-set;
  values = c.run_body-p.ensures.values ∙ c.loop-store.invariant.buffer;
}

pub run_for-loop-store-smaller : goal.run_for-loop-store-smaller
run_for-loop-store-smaller t c = for-less c.loop-store.invariant c.row-w.ensures _ _ (ran_of c.run_body-p.result c.run_body-p.new.run) (rw c.at_most.ensures.1 at c.run_body-p.ensures.result) (held-is c.signed-high.result c.signed-high.type_inv ∙ c.signed-high.ensures) c.at_most.ensures.0 c.in-Holds.is _ c.onward-o.ensures.1 c.again-n.ensures.1 (sym (ends_at _ c.if-n-ne-ENDS.false))

pub run_for-loop-store-preserved : goal.run_for-loop-store-preserved
run_for-loop-store-preserved t c = (for-more c.loop-store.invariant c.row-w.ensures _ _ (ran_of c.run_body-p.result c.run_body-p.new.run) (rw c.at_most.ensures.1 at c.run_body-p.ensures.result) (held-is c.signed-high.result c.signed-high.type_inv ∙ c.signed-high.ensures) c.at_most.ensures.0 c.in-Holds.is _ c.onward-o.ensures.1 c.again-n.ensures.1 (sym (ends_at _ c.if-n-ne-ENDS.false)) (c.onward-o.auto.store ∙ c.run_body-p.ensures.store ∙ ap length c.at_most.ensures.1) c.run_body-p.ensures.values)
