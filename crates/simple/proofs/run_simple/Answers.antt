use borrow.Author.Rules.{rules}
use mathlib.Core.Logic.{inl, inr}
use mathlib.Core.Path.{refl, sym, ap, ◌∙◌}
use Rattle.model.specs.declared.{Fields.Fields}
use Rattle.expressions.proofs.Ways.{row_from}
use Rattle.told.proofs.Coded.{out-ends, told-by, told-ends}
use Rattle.simple.proofs.{Late.act-stops, Acts.simple-runs, Acts.to-worded, Acts.to-assigning, Acts.reset-items, Acts.assign-way, Acts.reset-way, Acts.to-way, Acts.null-way, Acts.code_below, Acts.result_as}
use Rattle.simple.proofs.run_simple.Goals as goal

pub row-w-requires : goal.row-w-requires
row-w-requires c = row_from refl (simple-runs c.requires)

pub run_assign-requires : goal.run_assign-requires
run_assign-requires c =
    to-assigning c.requires c.row-w.ensures c.in-49.is

pub run_worded-requires : goal.run_worded-requires
run_worded-requires c =
    to-worded c.requires (inl (ap (λ (f : Fields). f.code) (sym c.row-w.ensures) ∙ c.in-50.is))

pub reset-requires : goal.reset-requires
reset-requires c =
    reset-items (simple-runs c.requires) c.row-w.ensures c.in-51.is

pub run_worded-requires-in-52 : goal.run_worded-requires-in-52
run_worded-requires-in-52 c =
    to-worded c.requires (inr (ap (λ (f : Fields). f.code) (sym c.row-w.ensures) ∙ c.in-52.is))

pub told-requires : goal.told-requires
told-requires c =
    record { late = act-stops _ _ _ _ _ (to-way (simple-runs c.requires) c.row-w.ensures c.args.run.now c.args.values.now c.args.script.now.now c.in-53.is) }

pub returns-in-49 : goal.returns-in-49
returns-in-49 c =
    record { told = c.run_assign.ensures.told; result = assign-way (simple-runs c.requires) c.row-w.ensures c.args.values.now _ c.in-49.is (c.run_assign.ensures.does c.args.run.now); store = search rules; values = refl }

pub returns-in-50 : goal.returns-in-50
returns-in-50 c =
    c.run_worded.ensures

pub returns-in-51 : goal.returns-in-51
returns-in-51 c =
    record { told = told-ends; result = result_as 0 c.args.run.now _ _ out-ends (reset-way (simple-runs c.requires) c.row-w.ensures c.args.run.now c.args.values.now _ c.in-51.is c.reset.ensures); store = search rules; values = refl }

pub returns-in-52 : goal.returns-in-52
returns-in-52 c =
    c.run_worded-in-52.ensures

pub returns-in-53 : goal.returns-in-53
returns-in-53 c =
    record { told = told-by c.told.ensures; result = result_as _ c.args.run.now _ _ c.told.ensures.outcome (to-way (simple-runs c.requires) c.row-w.ensures c.args.run.now c.args.values.now _ c.in-53.is); store = refl; values = refl }

pub returns-in_default : goal.returns-in_default
returns-in_default c =
    let k = c.in_default.in_default-own.rest in
    record { told = told-ends; result = result_as 0 c.args.run.now _ _ out-ends (null-way (simple-runs c.requires) c.row-w.ensures c.args.run.now c.args.values.now _ (code_below c.requires c.row-w.ensures) k.0.0.0.0.1 k.0.0.0.1 k.0.0.1 k.0.1 k.1); store = refl; values = refl }
