use native.Mathlib.Omega.{arith}
use Rattle.image.proofs.Laid.{row_inside, row_read}
use Rattle.image.proofs.Automaton.fields.Goals as goal

pub half-requires : goal.half-requires
half-requires c = omega (arith, row_inside c.requires)

pub half-requires-2 : goal.half-requires-2
half-requires-2 c = omega (arith, row_inside c.requires)

pub half-requires-3 : goal.half-requires-3
half-requires-3 c = omega (arith, row_inside c.requires)

pub half-requires-4 : goal.half-requires-4
half-requires-4 c = omega (arith, row_inside c.requires)

pub returns : goal.returns
returns c = rw (row_read c.requires, ← c.half.ensures, ← c.half-2.ensures, ← c.half-3.ensures, ← c.half-4.ensures)
