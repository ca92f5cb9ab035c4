-- `expressions::known` meets its contract. Assumes nothing.
use Rattle.expressions.proofs.Operated.{value-undefined, value-defined}
use Rattle.expressions.proofs.known.Goals as goal

pub returns-then-z-eq-UNDEFINED : goal.returns-then-z-eq-UNDEFINED
returns-then-z-eq-UNDEFINED c = value-undefined c.args.z c.ranges.z.sfits c.if-z-eq-UNDEFINED.true

pub returns : goal.returns
returns c = value-defined c.args.z c.ranges.z.sfits c.if-z-eq-UNDEFINED.false
