use native.Mathlib.Omega.{arith}
use Rattle.expressions.proofs.Operated.{int-constant, other_constant}
use Rattle.expressions.proofs.constant.Goals as goal

pub returns-then-a-eq-INT : goal.returns-then-a-eq-INT
returns-then-a-eq-INT c = int-constant c.args.a c.args.b c.if-a-eq-INT.true c.signed.type_inv c.signed.ensures

pub returns : goal.returns
returns c = other_constant c.args.a c.args.b c.if-a-eq-INT.false (omega (arith, c.ranges.b))
