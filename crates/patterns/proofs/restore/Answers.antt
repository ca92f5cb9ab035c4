-- `restore`: the slot of the store holds what it held. Assumes nothing.
use lib.ListN.{length}
use Rattle.patterns.proofs.Tried.{was-in, was-back}
use Rattle.patterns.proofs.restore.Goals as goal

pub bounds-store-v : goal.bounds-store-v
bounds-store-v c = (was-in (length c.args.store.now) c.requires c.in-Some.is).0

pub returns-in-Some : goal.returns-in-Some
returns-in-Some c = was-back _ _ c.requires c.in-Some.is
