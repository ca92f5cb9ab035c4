-- `masks::joined` meets its contract. Assumes nothing.
use Rattle.model.specs.Masks.{join}
use Rattle.masks.proofs.joined.Goals as goal

pub returns : goal.returns
unfolding join
returns c = rw (c.masks_in-x.ensures, c.masks_in-y.ensures)
