use mathlib.Core.Path.{sym, ◌∙◌}
use native.Mathlib.Omega.{arith}
use Rattle.stages.proofs.Cleared.{located}
use Rattle.stepping.proofs.Slots.{no-state, store-wrong, slotted, slot-wrong, label-short, budget-over, nothing-wrong}
use Rattle.model.proofs.Order.{passed-on}
use Rattle.stepping.proofs.run_verdict.Goals as goal

pub state_count-requires : goal.state_count-requires
state_count-requires c =
    located c.requires

pub returns-then-state_count-q : goal.returns-then-state_count-q
returns-then-state_count-q c =
    no-state c.requires c.args.q c.args.store.now c.args.budget c.args.label.now (omega (arith, c.if-state_count-q.true))

pub variable_count-requires : goal.variable_count-requires
variable_count-requires c =
    located c.requires

pub returns-then-store-variable_count : goal.returns-then-store-variable_count
returns-then-store-variable_count c =
    store-wrong c.requires c.args.q c.args.store.now c.args.budget c.args.label.now (omega (arith, c.if-state_count-q.false)) (λ e. c.if-store-variable_count.true (e ∙ sym c.variable_count.ensures))

pub slots_verdict-requires : goal.slots_verdict-requires
slots_verdict-requires c =
    slotted c.requires c.args.q _ 0 c.args.label.now (omega (arith, c.if-state_count-q.false)) (c.if-store-variable_count.false ∙ c.variable_count.ensures)

pub returns-then-label : goal.returns-then-label
returns-then-label c =
    label-short c.requires c.args.q c.args.store.now c.args.budget c.args.label.now (omega (arith, c.if-state_count-q.false)) (c.if-store-variable_count.false ∙ c.variable_count.ensures) c.slots_verdict.ensures c.in_ok-slots_verdict.was c.if-label.true

pub returns-then-budget-gt-BUDGET : goal.returns-then-budget-gt-BUDGET
returns-then-budget-gt-BUDGET c =
    budget-over c.requires c.args.q c.args.store.now c.args.budget c.args.label.now (omega (arith, c.if-state_count-q.false)) (c.if-store-variable_count.false ∙ c.variable_count.ensures) c.slots_verdict.ensures c.in_ok-slots_verdict.was (omega (arith, c.if-label.false)) c.if-budget-gt-BUDGET.true

pub returns-in_err-slots_verdict : goal.returns-in_err-slots_verdict
returns-in_err-slots_verdict c = rw (passed-on _ _ c.from_residual.ensures.1, ← c.in_err-slots_verdict.was) (slot-wrong c.requires c.args.q c.args.store.now c.args.budget c.args.label.now (omega (arith, c.if-state_count-q.false)) (c.if-store-variable_count.false ∙ c.variable_count.ensures) _ c.slots_verdict.ensures c.in_err-slots_verdict.was)

pub returns : goal.returns
returns c =
    nothing-wrong c.requires c.args.q c.args.store.now c.args.budget c.args.label.now (omega (arith, c.if-state_count-q.false)) (c.if-store-variable_count.false ∙ c.variable_count.ensures) c.slots_verdict.ensures c.in_ok-slots_verdict.was (omega (arith, c.if-label.false)) (omega (arith, c.if-budget-gt-BUDGET.false))
