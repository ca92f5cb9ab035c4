-- `typing::all_pass` meets its contract: what the rest of the list passes, the list passes. The measure is the row, none
-- counting 0. Assumes nothing.
use Prim.Native.Nat.{◌+◌, ◌%◌}
use Rattle.typing.proofs.Lists.{Along}
use Rattle.typing.proofs.all_pass.Given as goal

abbrev pub invariant-loop-at : goal.invariant-loop-at
invariant-loop-at g l = Along l.x.image.now l.x.trailer (goal.F-pre g l.test) (goal.F-post g l.test) l.first l.at

abbrev pub decreases-loop-at : goal.decreases-loop-at
decreases-loop-at g l = (l.at + 1) % 65536
