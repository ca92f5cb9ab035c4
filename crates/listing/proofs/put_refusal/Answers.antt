use native.Mathlib.Omega.{arith}
use lib.{ListN.length-append}
use Rattle.text.proofs.Decimal.{decimal-after}
use Rattle.text.proofs.Writing.{written-then}
use Rattle.listing.proofs.Lines.{two-numbers}
use Rattle.listing.proofs.put_refusal.Goals as goal

pub returns-clause-most : goal.returns-clause-most
returns-clause-most c = rw (two-numbers, length-append, ← c.number.ensures, ← c.place.ensures) (omega (arith, decimal-after c.number.result 32 (omega arith), decimal-after c.place.result 10 (omega arith)))

pub returns-clause-line : goal.returns-clause-line
returns-clause-line c = rw (two-numbers, ← c.number.ensures, ← c.place.ensures) (written-then c.put_number.ensures c.put_number-2.ensures)
