-- `typing::type_of_condition` meets its contract. Assumes nothing.
use mathlib.Core.Path.{◌∙◌}
use Rattle.typing.proofs.Types.{no-condition, some-condition, condition-asks}
use Rattle.typing.proofs.type_of_condition.Goals as goal

pub returns-then-r-eq-NONE : goal.returns-then-r-eq-NONE
returns-then-r-eq-NONE c = no-condition _ _ c.if-r-eq-NONE.true

pub type_of_expression-requires : goal.type_of_expression-requires
type_of_expression-requires c = condition-asks c.requires c.if-r-eq-NONE.false

pub returns : goal.returns
returns c = c.type_of_expression.ensures ∙ some-condition _ _ c.if-r-eq-NONE.false
