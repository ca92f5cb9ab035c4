-- `starting::count` meets its contract. Assumes nothing.
use Rattle.starting.proofs.Judging.{to-begin, counted-store, counted-params, counted-begun}
use Rattle.stages.proofs.Cleared.{located}
use mathlib.Core.Path.{sym, ◌∙◌}
use Rattle.starting.proofs.count.Goals as goal

pub variable_count-requires : goal.variable_count-requires
variable_count-requires c = located c.requires

pub returns-then-store-variable_count : goal.returns-then-store-variable_count
returns-then-store-variable_count c = counted-store _ _ _ (λ e. c.if-store-variable_count.true (e ∙ sym c.variable_count.ensures))

pub returns-then-params-parameter_count : goal.returns-then-params-parameter_count
returns-then-params-parameter_count c = counted-params _ _ _ (c.if-store-variable_count.false ∙ c.variable_count.ensures) (λ e. c.if-params-parameter_count.true (e ∙ sym c.parameter_count.ensures))

pub begin-requires : goal.begin-requires
begin-requires c = to-begin c.requires (c.if-store-variable_count.false ∙ c.variable_count.ensures) c.parameter_count.ensures c.if-params-parameter_count.false

pub returns : goal.returns
returns c = counted-begun _ _ _ (c.if-store-variable_count.false ∙ c.variable_count.ensures) (c.if-params-parameter_count.false ∙ c.parameter_count.ensures) c.begin.ensures
