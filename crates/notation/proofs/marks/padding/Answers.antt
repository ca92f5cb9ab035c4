use borrow.Author.Rules.{rules}
use borrow.Author.Tests.{lt-ltb, le-ltb}
use Rattle.notation.specs.Texts.{padding}
use Rattle.notation.proofs.marks.padding.Goals as goal

pub returns-then-r-lt10 : goal.returns-then-r-lt10
unfolding padding
returns-then-r-lt10 c = rw (padding, lt-ltb c.args.r 10 (search rules))

pub returns-then-r-lt100 : goal.returns-then-r-lt100
unfolding padding
returns-then-r-lt100 c = rw (padding, le-ltb c.args.r 10 (search rules), lt-ltb c.args.r 100 (search rules))

pub returns-then-r-lt1000 : goal.returns-then-r-lt1000
unfolding padding
returns-then-r-lt1000 c = rw (padding, le-ltb c.args.r 10 (search rules), le-ltb c.args.r 100 (search rules), lt-ltb c.args.r 1000 (search rules))

pub returns : goal.returns
unfolding padding
returns c = rw (padding, le-ltb c.args.r 10 (search rules), le-ltb c.args.r 100 (search rules), le-ltb c.args.r 1000 (search rules))
