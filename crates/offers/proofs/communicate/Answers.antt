use Rattle.offers.proofs.Offering.{offers-ask, said-twice, said-first}
use Rattle.offers.proofs.communicate.Goals as goal

pub returns-then-run : goal.returns-then-run
returns-then-run c = said-twice _ _ _ _ _ c.args.run _ _ c.if-run.true

pub accept_all-requires : goal.accept_all-requires
accept_all-requires c = offers-ask c.requires c.args.run c.if-run.false

pub returns : goal.returns
returns c = said-first _ _ _ _ _ c.args.run _ _ c.if-run.false c.accept_all.ensures
