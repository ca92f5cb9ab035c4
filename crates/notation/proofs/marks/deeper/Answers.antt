use borrow.Author.Rules.{rules}
use borrow.Author.Tests.{lt-ltb, le-ltb}
use Rattle.notation.specs.Texts.{deeper}
use Rattle.notation.proofs.marks.deeper.Goals as goal

pub returns-then-d-lt40 : goal.returns-then-d-lt40
unfolding deeper
returns-then-d-lt40 c = rw (deeper, lt-ltb c.args.d 40 (search rules))

pub returns : goal.returns
unfolding deeper
returns c = rw (deeper, le-ltb c.args.d 40 (search rules))
