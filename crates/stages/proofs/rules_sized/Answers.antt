-- `stages::rules_sized` meets its contract: by the number of rows. Assumes nothing.
use native.Mathlib.Omega.{arith}
use Rattle.image.proofs.Laid.{rows-count}
use Rattle.stages.proofs.rules_sized.Goals as goal

pub rules_on-requires-clause-ruling : goal.rules_on-requires-clause-ruling
rules_on-requires-clause-ruling c = record { rooted = c.requires.rooted; rows = omega (arith, rows-count c.requires.rooted.formed.located) }

pub rules_on-requires-then-n-le512-clause-ruling : goal.rules_on-requires-then-n-le512-clause-ruling
rules_on-requires-then-n-le512-clause-ruling c = record { rooted = c.requires.rooted; rows = omega (arith, rows-count c.requires.rooted.formed.located) }
