use borrow.Author.Rules.{rules}
use borrow.Author.Tests.{ne_eqb, lt-ltb, le-ltb}
use Rattle.notation.specs.Whole.{state_place}
use Rattle.notation.proofs.whole.state_place.Goals as goal

pub returns-then-n-eq6 : goal.returns-then-n-eq6
unfolding state_place
returns-then-n-eq6 c = rw c.if-n-eq6.true

pub returns-then-n-lt11 : goal.returns-then-n-lt11
unfolding state_place
returns-then-n-lt11 c = rw (state_place, ne_eqb c.args.n 6 c.if-n-eq6.false, lt-ltb c.args.n 11 (search rules))

pub returns : goal.returns
unfolding state_place
returns c = rw (state_place, ne_eqb c.args.n 6 c.if-n-eq6.false, le-ltb c.args.n 11 (search rules))
