-- `bind`: the invariant is that the pattern here binds what the whole pattern binds. Assumes nothing.
use mathlib.Core.Path.{◌≡◌}
use Rattle.patterns.proofs.Walks.{Down}
use Rattle.patterns.proofs.bind.Given as goal

abbrev pub invariant-loop-was : goal.invariant-loop-was
invariant-loop-was l = (l.store ≡ l.initial.store) × Down l.image l.rows l.p l.initial.store l.here

abbrev pub decreases-loop-was : goal.decreases-loop-was
decreases-loop-was l = l.here
