use borrow.Author.Rules.{rules}
use borrow.Author.Tests.{ne_eqb, lt-ltb, le-ltb}
use Rattle.notation.specs.Whole.{row_place}
use Rattle.notation.proofs.whole.row_place.Goals as goal

pub returns-then-n-lt5 : goal.returns-then-n-lt5
unfolding row_place
returns-then-n-lt5 c = rw (row_place, lt-ltb c.args.n 5 (search rules))

pub returns-then-n-eq6 : goal.returns-then-n-eq6
unfolding row_place
returns-then-n-eq6 c = rw c.if-n-eq6.true

pub returns-then-n-lt10 : goal.returns-then-n-lt10
unfolding row_place
returns-then-n-lt10 c = rw (row_place, le-ltb c.args.n 5 (search rules), ne_eqb c.args.n 6 c.if-n-eq6.false, lt-ltb c.args.n 10 (search rules))

pub returns : goal.returns
unfolding row_place
returns c = rw (row_place, le-ltb c.args.n 5 (search rules), ne_eqb c.args.n 6 c.if-n-eq6.false, le-ltb c.args.n 10 (search rules))
