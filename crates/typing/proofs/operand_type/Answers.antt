-- `typing::operand_type` meets its contract. Assumes nothing.
use native.Mathlib.Omega.{arith}
use Rattle.typing.proofs.Operators.{logic-operands, equal-operands, int-operands}
use Rattle.typing.proofs.operand_type.Goals as goal

pub returns-in-16-to-18 : goal.returns-in-16-to-18
returns-in-16-to-18 c = logic-operands c.requires (omega arith)

pub returns-in-25 : goal.returns-in-25
returns-in-25 c = equal-operands c.requires c.in-25.is

pub returns-in_default-2 : goal.returns-in_default-2
returns-in_default-2 c = int-operands c.requires (omega arith) (λ e. omega arith)
