-- `at_base`: by the row's code and its constant. Assumes nothing.
use Rattle.patterns.proofs.Tried.{base-other, base_same, base-differs}
use Rattle.patterns.proofs.at_base.Goals as goal

pub returns-then-w-ne-CONSTANT : goal.returns-then-w-ne-CONSTANT
returns-then-w-ne-CONSTANT c = base-other _ _ _ c.if-w-ne-CONSTANT.true

pub returns-then-constant-z : goal.returns-then-constant-z
returns-then-constant-z c = base_same _ _ _ c.if-w-ne-CONSTANT.false c.ranges.z.sfits c.constant.type_inv c.constant.ensures c.if-constant-z.true

pub returns : goal.returns
returns c = base-differs _ _ _ c.if-w-ne-CONSTANT.false c.ranges.z.sfits c.constant.type_inv c.constant.ensures c.if-constant-z.false
