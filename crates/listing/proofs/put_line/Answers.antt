use native.Mathlib.Omega.{arith}
use lib.{ListN.length-append}
use Rattle.image.proofs.Laid.{laid}
use Rattle.text.proofs.Decimal.{decimal-after}
use Rattle.text.proofs.Writing.{written-then}
use Rattle.listing.proofs.Lines.{line-numbers}
use Rattle.listing.proofs.put_line.Goals as goal

pub overflow_sub-x : goal.overflow_sub-x
overflow_sub-x c = let l = laid c.requires.located in omega (arith, l.states)

pub returns-clause-most : goal.returns-clause-most
returns-clause-most c =
    rw (line-numbers, ← c.state_row-row.ensures, ← c.count-defined.ensures, length-append, length-append)
    (omega (arith, decimal-after c.args.q 32 (omega arith), decimal-after c.state_row-row.result 32 (omega arith), decimal-after c.count-defined.result 10 (omega arith)))

pub returns-clause-line : goal.returns-clause-line
returns-clause-line c =
    rw (line-numbers, ← c.state_row-row.ensures, ← c.count-defined.ensures)
    (written-then (written-then c.put_number.ensures c.put_number-2.ensures) c.put_number-3.ensures)
