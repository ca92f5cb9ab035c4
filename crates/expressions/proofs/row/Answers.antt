use native.Mathlib.Omega.{arith}
use Rattle.expressions.proofs.Rows.{inside-from, read-from}
use Rattle.expressions.proofs.row.Goals as goal

pub half-requires : goal.half-requires
half-requires c = omega (arith, inside-from c.requires)

pub half-requires-2 : goal.half-requires-2
half-requires-2 c = omega (arith, inside-from c.requires)

pub half-requires-3 : goal.half-requires-3
half-requires-3 c = omega (arith, inside-from c.requires)

pub half-requires-4 : goal.half-requires-4
half-requires-4 c = omega (arith, inside-from c.requires)

pub returns : goal.returns
returns c = rw (read-from c.requires, ← c.half.ensures, ← c.half-2.ensures, ← c.half-3.ensures, ← c.half-4.ensures)
