-- The walk's functions meet their contracts: each way of the code is a law of Steps or Listing. A row's number falls with every call;
-- a list counts as its first row and one more, none as nothing. Assumes nothing.
use Prim.Native.Nat.{◌+◌, ◌*◌, ◌%◌}
use Rattle.model.specs.Rows.{branch, arm}
use Rattle.sets.proofs.Steps.{Walking}
use Rattle.sets.proofs.Listing.{Listing, branching, arming}
use Rattle.sets.proofs.flow.+walking.Given as goal

abbrev pub decreases-walk_single : goal.decreases-walk_single
decreases-walk_single l = 4 * l.row + 1

abbrev pub decreases-walk_loop : goal.decreases-walk_loop
decreases-walk_loop l = 4 * l.row

abbrev pub decreases-walk_first : goal.decreases-walk_first
decreases-walk_first l = 4 * l.row + 3

abbrev pub decreases-walk_branches : goal.decreases-walk_branches
decreases-walk_branches l = 4 * ((l.row + 1) % 65536)

abbrev pub decreases-walk_arms : goal.decreases-walk_arms
decreases-walk_arms l = 4 * ((l.row + 1) % 65536)

abbrev pub decreases-walk : goal.decreases-walk
decreases-walk l = 4 * l.row + 2

abbrev pub invariant-walk-loop-w : goal.invariant-walk-loop-w
invariant-walk-loop-w l = Walking l.lent.x.image.now l.lent.x.trailer l.lent.masks.now l.row l.entering l.lent.top l.initial.out l.out l.initial.found.moved l.found.moved l.initial.found.fine l.found.fine l.here l.set

abbrev pub decreases-walk-loop-w : goal.decreases-walk-loop-w
decreases-walk-loop-w l = l.here

abbrev pub invariant-walk_arms-loop-here : goal.invariant-walk_arms-loop-here
invariant-walk_arms-loop-here l = Listing arm (arming l.lent.x.image.now l.lent.top l.entering) l.lent.x.image.now l.lent.x.trailer l.lent.masks.now l.row l.lent.top l.initial.out l.out l.initial.found.moved l.found.moved l.initial.found.fine l.found.fine l.here l.ends

abbrev pub decreases-walk_arms-loop-here : goal.decreases-walk_arms-loop-here
decreases-walk_arms-loop-here l = (l.here + 1) % 65536

abbrev pub invariant-walk_branches-loop-here : goal.invariant-walk_branches-loop-here
invariant-walk_branches-loop-here l = Listing branch (branching l.lent.x.image.now l.lent.top l.entering) l.lent.x.image.now l.lent.x.trailer l.lent.masks.now l.row l.lent.top l.initial.out l.out l.initial.found.moved l.found.moved l.initial.found.fine l.found.fine l.here l.ends

abbrev pub decreases-walk_branches-loop-here : goal.decreases-walk_branches-loop-here
decreases-walk_branches-loop-here l = (l.here + 1) % 65536
