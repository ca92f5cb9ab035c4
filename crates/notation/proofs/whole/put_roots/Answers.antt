use native.Mathlib.Omega.{arith}
use Rattle.image.proofs.Laid.{laid}
use Rattle.text.proofs.Writing.{written-then}
use Rattle.notation.specs.Whole.{roots_text}
use Rattle.notation.proofs.whole.put_roots.Goals as goal

pub overflow_sub-states : goal.overflow_sub-states
overflow_sub-states c = let l = laid c.requires in omega (arith, l.rows)

pub returns : goal.returns
unfolding roots_text
returns c = written-then (written-then c.put_said.ensures c.put_table.ensures) c.put_said-2.ensures
