-- `typing::result_type` meets its contract. Assumes nothing.
use native.Mathlib.Omega.{arith}
use Rattle.typing.proofs.Operators.{logic-result, int-result, comparison-result}
use Rattle.typing.proofs.result_type.Goals as goal

pub returns-in-19-to-24 : goal.returns-in-19-to-24
returns-in-19-to-24 c = int-result c.requires (omega arith) (omega arith)

pub returns-in_default : goal.returns-in_default
returns-in_default c = logic-result c.requires (omega arith)

pub returns-in_default-2 : goal.returns-in_default-2
returns-in_default-2 c = comparison-result c.requires (omega arith) (omega arith)
