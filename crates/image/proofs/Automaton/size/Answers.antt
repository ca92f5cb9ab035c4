use native.Mathlib.Omega.{arith}
use Rattle.image.proofs.Laid.{type-inside, type-read}
use mathlib.Core.{Path.sym, Path.◌∙◌}
use Rattle.image.proofs.Automaton.size.Goals as goal

pub half-requires : goal.half-requires
half-requires c = omega (arith, type-inside c.requires)

pub returns : goal.returns
returns c = c.half.ensures ∙ sym (type-read c.requires)
