use native.Mathlib.Omega.{arith}
use Rattle.image.proofs.Laid.{laid}
use Rattle.text.proofs.Writing.{written-then}
use Rattle.notation.specs.Whole.{accepted_text}
use Rattle.notation.proofs.whole.put_accepted.Goals as goal

pub overflow_sub-variables : goal.overflow_sub-variables
overflow_sub-variables c = let l = laid c.requires.0 in omega (arith, l.states)

pub overflow_sub-states : goal.overflow_sub-states
overflow_sub-states c = let l = laid c.requires.0 in omega (arith, l.rows)

pub put_sets-requires : goal.put_sets-requires
put_sets-requires c = let l = laid c.requires.0 in (omega (arith, l.variables_most), omega (arith, l.states_most))

pub returns : goal.returns
unfolding accepted_text
returns c = written-then c.put_said.ensures c.put_sets.ensures
