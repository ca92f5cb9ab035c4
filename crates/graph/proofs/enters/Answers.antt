use Rattle.graph.specs.Ways.{enters}
use Rattle.graph.proofs.enters.Goals as goal

pub returns-in-Leaf : goal.returns-in-Leaf
unfolding enters
returns-in-Leaf c = rw c.in-Leaf.is

pub returns-in-InTurn : goal.returns-in-InTurn
unfolding enters
returns-in-InTurn c = rw c.in-InTurn.is

pub returns-in-Either : goal.returns-in-Either
unfolding enters
returns-in-Either c = rw c.in-Either.is

pub returns-in-Again : goal.returns-in-Again
unfolding enters
returns-in-Again c = rw c.in-Again.is
