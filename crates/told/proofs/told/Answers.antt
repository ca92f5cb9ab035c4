use borrow.Author.Rules.{rules}
use Rattle.told.proofs.Coded.{tells_as, tells-ends, tells-jump}
use mathlib.Core.Path.{sym}
use Rattle.told.proofs.told.Goals as goal

pub stopped-requires : goal.stopped-requires
stopped-requires c = c.requires.late _ c.in-Stops.is

pub returns-in-Ends : goal.returns-in-Ends
returns-in-Ends c = tells_as tells-ends (sym c.in-Ends.is)

pub returns-in-Jumps : goal.returns-in-Jumps
returns-in-Jumps c = tells_as (tells-jump _ (search rules)) (sym c.in-Jumps.is)

pub returns-in-Stops : goal.returns-in-Stops
returns-in-Stops c = tells_as c.stopped.ensures (sym c.in-Stops.is)
