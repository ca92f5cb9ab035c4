-- `judge`: the invariant is that the pattern here, unless it holds, else the result kept, is what the whole pattern gives. Assumes nothing.
use Rattle.patterns.proofs.Walks.{Along}
use Rattle.patterns.proofs.judge.Given as goal

abbrev pub invariant-loop-kept : goal.invariant-loop-kept
invariant-loop-kept l = Along l.image l.rows l.p l.store l.here l.kept

abbrev pub decreases-loop-kept : goal.decreases-loop-kept
decreases-loop-kept l = l.here
