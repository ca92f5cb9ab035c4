-- `masks::full` meets its contract. Assumes nothing.
use mathlib.Core.{Path.ap}
use native.Mathlib.Omega.{arith}
use Prim.Native.Nat.{◌-◌}
use lib.Pow.{pow_pos}
use Rattle.model.specs.Masks.{bit, full}
use Rattle.masks.proofs.full.Goals as goal

pub returns-then-n-eq64 : goal.returns-then-n-eq64
unfolding full
returns-then-n-eq64 c = rw c.if-n-eq64.true

pub overflow_sub-result : goal.overflow_sub-result
unfolding bit
overflow_sub-result c = omega (arith, c.bit.ensures, pow_pos c.args.n)

pub returns : goal.returns
unfolding bit full
returns c = ap (λ m. m - 1) c.bit.ensures
