use mathlib.Core.Path.{refl}
use Rattle.model.specs.Masks.{join}
use Rattle.graph.specs.Ways.{either}
use Rattle.graph.proofs.either.Goals as goal

pub returns : goal.returns
unfolding either join
returns c = refl
