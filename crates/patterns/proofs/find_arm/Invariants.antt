-- `find_arm`: the invariant of the arms is that the search from here on finds what the whole search finds, on the store at entry; that of the
-- conditions is `judge`'s. Assumes nothing.
use mathlib.Core.Path.{◌≡◌}
use Prim.Native.Nat.{◌+◌, ◌%◌}
use Rattle.patterns.proofs.Walks.{Along}
use Rattle.patterns.proofs.Arms.{Seek}
use Rattle.patterns.proofs.find_arm.Given as goal

abbrev pub invariant-loop-kept : goal.invariant-loop-kept
invariant-loop-kept l = (l.store ≡ l.initial.store) × Along l.image l.rows l.w.a l.store l.here l.kept

abbrev pub decreases-loop-kept : goal.decreases-loop-kept
decreases-loop-kept l = l.here

abbrev pub invariant-arms : goal.invariant-arms
invariant-arms l = Seek l.image l.rows l.first l.z l.initial.store l.arm l.store

abbrev pub decreases-arms : goal.decreases-arms
decreases-arms l = (l.arm + 1) % 65536
