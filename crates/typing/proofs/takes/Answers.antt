-- `typing::takes` meets its contract, test by test. Assumes nothing.
use Rattle.typing.proofs.Types.{of-one-type, second-decides, first-decides}
use Rattle.typing.proofs.takes.Goals as goal

pub returns-then-o : goal.returns-then-o
returns-then-o c = rw (← c.operand_type-o.ensures) (of-one-type _ _ _ c.if-o.true)

pub returns-then-s-o : goal.returns-then-s-o
returns-then-s-o c = rw (← c.operand_type-o.ensures) (second-decides _ _ _ c.if-o.false c.if-s-o.true)

pub returns-else-s-o : goal.returns-else-s-o
returns-else-s-o c = rw (← c.operand_type-o.ensures) (first-decides _ _ _ c.if-o.false c.if-s-o.false)
