use mathlib.Core.Path.{◌∙◌}
use Rattle.model.specs.Run.{apply_unary}
use Rattle.values.proofs.Held.{held-is}
use Rattle.expressions.specs.Operators.{unary_of}
use Rattle.expressions.proofs.Operated.{zero_is, unary-by, other-code}
use Rattle.expressions.proofs.unary.Goals as goal

pub returns-then-code-eq16 : goal.returns-then-code-eq16
unfolding unary_of apply_unary
returns-then-code-eq16 c = unary-by c.args.code 16 c.args.a c.if-code-eq16.true c.of_bool.type_inv (c.of_bool.ensures ∙ rw (zero_is c.args.a c.ranges.a.sfits))

pub returns : goal.returns
unfolding apply_unary
returns c = held-is _ c.negate.type_inv ∙ c.negate.ensures ∙ rw (other-code c.args.code c.if-code-eq16.false, held-is c.args.a c.ranges.a.sfits)
