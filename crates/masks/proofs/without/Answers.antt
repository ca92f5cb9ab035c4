-- `masks::without` meets its contract. Assumes nothing.
use borrow.Author.Rules.{rules}
use Rattle.model.proofs.Masks.{and-not}
use Rattle.masks.proofs.without.Goals as goal

pub returns : goal.returns
returns c = and-not 64 c.args.a c.args.b (search rules) (search rules)
