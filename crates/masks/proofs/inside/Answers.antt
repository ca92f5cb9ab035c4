-- `masks::inside` meets its contract. Assumes nothing.
use mathlib.Core.Path.{refl}
use Rattle.model.specs.Masks.{meet, inside}
use Rattle.masks.proofs.inside.Goals as goal

pub returns : goal.returns
unfolding meet inside
returns c = refl
