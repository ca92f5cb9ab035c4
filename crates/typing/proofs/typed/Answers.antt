-- `typing::typed` meets its contract: the trailer's condition first, then the row's rule. Assumes nothing.
use mathlib.Core.{Path.◌∙◌}
use Rattle.typing.proofs.Verdict.{condition-kind, condition-fails, condition-passes, no-condition}
use Rattle.typing.proofs.typed.Goals.{else-r-x-via-then-r-x+else-type_of_expression-ne-BOOL, else-r-x-via-else-r-x}
use Rattle.typing.proofs.typed.Goals as goal

pub type_of_expression-requires : goal.type_of_expression-requires
type_of_expression-requires c = condition-kind c.requires c.if-r-x.true

pub returns-then-type_of_expression-ne-BOOL : goal.returns-then-type_of_expression-ne-BOOL
returns-then-type_of_expression-ne-BOOL c = condition-fails c.requires c.if-r-x.true c.type_of_expression.ensures c.if-type_of_expression-ne-BOOL.true

pub returns : goal.returns
returns c =
    c.row_typed.ensures
    ∙ elim c.else-r-x.branch [
      | else-r-x-via-then-r-x+else-type_of_expression-ne-BOOL w ↦ condition-passes c.requires w.if-r-x.true w.type_of_expression.ensures w.if-type_of_expression-ne-BOOL.false
      | else-r-x-via-else-r-x w ↦ no-condition c.requires w.if-r-x.false
    ]
