-- `expressions::applied`, `apply` and `operand` meet their contracts: the row falls. Assumes nothing.
use Prim.Native.Nat.{◌+◌, ◌*◌}
use Rattle.expressions.proofs.+applied_apply_operand.Given as goal

abbrev pub decreases-operand : goal.decreases-operand
decreases-operand l = 3 * l.r + 2

abbrev pub decreases-apply : goal.decreases-apply
decreases-apply l = 3 * l.r + 1

abbrev pub decreases-applied : goal.decreases-applied
decreases-applied l = 3 * l.r
