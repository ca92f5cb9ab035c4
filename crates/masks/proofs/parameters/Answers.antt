-- `masks::parameters` meets its contract: the mask of the variables passed, halved as often. Assumes nothing.
use native.Mathlib.Omega.{arith}
use Rattle.image.proofs.Laid.{variables-count}
use Rattle.masks.proofs.ParameterMask.{from-none, double-fits, one-fits, one_on}
use Rattle.masks.proofs.parameters.Goals as goal

pub loop-v-init : goal.loop-v-init
loop-v-init c = (omega (arith, c.variable_count-v.ensures), from-none c.requires _ c.variable_count-v.ensures)

pub overflow_mul-m : goal.overflow_mul-m
overflow_mul-m c = record { fits = double-fits c.requires _ _ c.loop-v-test.true c.loop-v.invariant.0 c.loop-v.invariant.1 }

pub parameter-requires : goal.parameter-requires
parameter-requires c = record { located = c.requires.located; inside = omega (arith, c.loop-v.invariant.0, variables-count c.requires.located) }

pub overflow_add-m : goal.overflow_add-m
overflow_add-m c = record { fits = one-fits c.requires _ _ c.loop-v-test.true c.loop-v.invariant.0 c.loop-v.invariant.1 _ c.parameter.ensures }

pub loop-v-preserved : goal.loop-v-preserved
loop-v-preserved c = (
  omega arith,
  one_on c.requires _ _ c.loop-v-test.true c.loop-v.invariant.0 c.loop-v.invariant.1 _ c.parameter.ensures,
)
