-- `image::row_count` meets its contract. Assumes nothing.
use native.Mathlib.Omega.{arith}
use mathlib.Core.Path.{sym}
use Rattle.image.proofs.Laid.{laid, rows-count}
use Rattle.image.proofs.Automaton.row_count.Goals as goal

pub overflow_sub-result : goal.overflow_sub-result
overflow_sub-result c = let l = laid c.requires in omega (arith, l.exact, l.long)

pub overflow_sub-result-2 : goal.overflow_sub-result-2
overflow_sub-result-2 c = let l = laid c.requires in omega (arith, l.exact, l.ends)

pub returns : goal.returns
returns c = sym (rows-count c.requires)
