use borrow.Author.Tests.{ne_eqb}
use Rattle.graph.specs.Ways.{after_leaf}
use Rattle.graph.proofs.after_leaf.Goals as goal

pub returns-then-w-eq52 : goal.returns-then-w-eq52
unfolding after_leaf
returns-then-w-eq52 c = rw c.if-w-eq52.true c.spoken.ensures

pub returns-then-w-eq53 : goal.returns-then-w-eq53
unfolding after_leaf
returns-then-w-eq53 c = rw c.if-w-eq53.true c.nowhere.ensures

pub returns : goal.returns
unfolding after_leaf
returns c = rw (after_leaf, ne_eqb c.args.w.code 52 c.if-w-eq52.false, ne_eqb c.args.w.code 53 c.if-w-eq53.false)
