-- `masks::apart` meets its contract. Assumes nothing.
use mathlib.Core.Path.{refl}
use Rattle.model.specs.Masks.{meet, apart}
use Rattle.masks.proofs.apart.Goals as goal

pub returns : goal.returns
unfolding meet apart
returns c = refl
