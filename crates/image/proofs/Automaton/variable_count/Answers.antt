-- `image::variable_count` meets its contract. Assumes nothing.
use native.Mathlib.Omega.{arith}
use mathlib.Core.Path.{sym}
use Rattle.image.proofs.Laid.{laid, variables-count}
use Rattle.image.proofs.Automaton.variable_count.Goals as goal

pub overflow_sub-result : goal.overflow_sub-result
overflow_sub-result c = let l = laid c.requires in omega (arith, l.states)

pub returns : goal.returns
returns c = sym (variables-count c.requires)
