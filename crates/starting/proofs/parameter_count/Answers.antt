-- `starting::parameter_count` meets its contract. Assumes nothing.
use borrow.Author.Rules.{rules}
use native.Mathlib.Omega.{arith}
use Rattle.stages.proofs.Cleared.{located}
use Rattle.starting.proofs.Clearing.{variable-of, parameter-small}
use Rattle.starting.proofs.Filling.{counted_none, counted_next, counted-all}
use Rattle.starting.proofs.parameter_count.Goals as goal

pub variable_count-count-requires : goal.variable_count-count-requires
variable_count-count-requires c = located c.requires

pub loop-v-init : goal.loop-v-init
loop-v-init c = (omega arith, counted_none _)

pub parameter-requires : goal.parameter-requires
parameter-requires c = variable-of c.requires _ (search rules)

pub loop-v-preserved : goal.loop-v-preserved
loop-v-preserved c =
    let h = c.requires in
    (omega arith, counted_next _ (omega arith) c.parameter.ensures (omega (arith, c.parameter.ensures, parameter-small h c.loop-v.v (omega arith))) c.loop-v.invariant.1)

pub returns : goal.returns
returns c = counted-all (omega arith) c.loop-v.invariant.1
