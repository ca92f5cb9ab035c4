-- `stages::sized` meets its contract: by the number of rows. Assumes nothing.
use native.Mathlib.Omega.{arith}
use Rattle.image.proofs.Laid.{rows-count}
use Rattle.stages.proofs.sized.Goals as goal

pub judged_on-requires-clause-sized : goal.judged_on-requires-clause-sized
judged_on-requires-clause-sized c = record { rooted = c.requires.rooted; rows = omega (arith, rows-count c.requires.rooted.formed.located); room = c.requires.room }

pub judged_on-requires-then-n-le512-clause-sized : goal.judged_on-requires-then-n-le512-clause-sized
judged_on-requires-then-n-le512-clause-sized c = record { rooted = c.requires.rooted; rows = omega (arith, rows-count c.requires.rooted.formed.located); room = c.requires.room }
