use native.Mathlib.Omega.{arith}
use Rattle.header.proofs.Laws.{long-enough, mark-first, mark-second, mark-length}
use Rattle.header.proofs.marked.Goals as goal

pub overflow_sub-n : goal.overflow_sub-n
overflow_sub-n c = omega (arith, long-enough _ c.requires.0)

pub bounds-x-n : goal.bounds-x-n
bounds-x-n c = omega (arith, long-enough _ c.requires.0)

pub returns-then-x-n-ne78 : goal.returns-then-x-n-ne78
returns-then-x-n-ne78 c = mark-first _ c.if-x-n-ne78.true

pub overflow_sub-n-2 : goal.overflow_sub-n-2
overflow_sub-n-2 c = omega (arith, long-enough _ c.requires.0)

pub bounds-x-n-2 : goal.bounds-x-n-2
bounds-x-n-2 c = omega (arith, long-enough _ c.requires.0)

pub returns-then-x-n-ne84 : goal.returns-then-x-n-ne84
returns-then-x-n-ne84 c = mark-second _ c.if-x-n-ne78.false c.if-x-n-ne84.true

pub returns : goal.returns
returns c = rw c.requires.1 (mark-length _ c.if-x-n-ne78.false c.if-x-n-ne84.false)
