-- `rows::fits::names` meets its contract. Assumes nothing.
use native.Mathlib.Omega.{arith}
use Rattle.rows.proofs.Fields.{row_in, names-kind, names-above}
use Rattle.rows.proofs.fits.names.Goals as goal

pub kind-requires : goal.kind-requires
kind-requires c = (row_in c.requires.reading.located _ (omega arith), c.requires.reading.lines)

pub returns-then-n-r : goal.returns-then-n-r
returns-then-n-r c j e = names-kind _ _ j _ _ _ c.if-n-r.true c.kind.ensures e

pub returns-else-n-r : goal.returns-else-n-r
returns-else-n-r c j e = names-above _ _ j _ c.if-n-r.false
