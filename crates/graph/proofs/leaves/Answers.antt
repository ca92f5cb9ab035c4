use Rattle.graph.specs.Ways.{leaves}
use Rattle.graph.proofs.leaves.Goals as goal

pub returns-in-Leaf : goal.returns-in-Leaf
unfolding leaves
returns-in-Leaf c = rw c.in-Leaf.is c.after_leaf.ensures

pub returns-in-InTurn : goal.returns-in-InTurn
unfolding leaves
returns-in-InTurn c = rw c.in-InTurn.is

pub returns-in-Either : goal.returns-in-Either
unfolding leaves
returns-in-Either c = rw c.in-Either.is c.either.ensures

pub returns-in-Again : goal.returns-in-Again
unfolding leaves
returns-in-Again c = rw c.in-Again.is c.either-in-Again.ensures
