use native.Mathlib.Omega.{arith}
use Rattle.image.proofs.Laid.{laid}
use Rattle.notation.specs.Whole.{count_of}
use Rattle.notation.proofs.tables.count_of.Goals as goal

pub overflow_sub-result : goal.overflow_sub-result
overflow_sub-result c = let l = laid c.requires in omega (arith, l.variables)

pub overflow_sub-result-in-Variables : goal.overflow_sub-result-in-Variables
overflow_sub-result-in-Variables c = let l = laid c.requires in omega (arith, l.states)

pub overflow_sub-result-in-Rows : goal.overflow_sub-result-in-Rows
overflow_sub-result-in-Rows c = let l = laid c.requires in omega (arith, l.exact, l.ends)

pub overflow_sub-result-in-Rows-2 : goal.overflow_sub-result-in-Rows-2
overflow_sub-result-in-Rows-2 c = let l = laid c.requires in omega (arith, l.exact, l.ends)

pub overflow_sub-result-in-States : goal.overflow_sub-result-in-States
overflow_sub-result-in-States c = let l = laid c.requires in omega (arith, l.rows)

pub returns-in-Types : goal.returns-in-Types
unfolding count_of
returns-in-Types c = rw c.in-Types.is

pub returns-in-Variables : goal.returns-in-Variables
unfolding count_of
returns-in-Variables c = rw c.in-Variables.is

pub returns-in-Rows : goal.returns-in-Rows
unfolding count_of
returns-in-Rows c = rw c.in-Rows.is

pub returns-in-States : goal.returns-in-States
unfolding count_of
returns-in-States c = rw c.in-States.is
