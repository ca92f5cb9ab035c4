use native.Mathlib.Omega.{arith}
use Rattle.model.specs.Image.{Entry}
use Rattle.image.proofs.Laid.{variable-inside, variable-read}
use mathlib.Core.{Path.sym, Path.ap, Path.◌∙◌}
use Rattle.image.proofs.Automaton.variable_type.Goals as goal

pub half-requires : goal.half-requires
half-requires c = omega (arith, variable-inside c.requires)

pub returns : goal.returns
returns c = c.half.ensures ∙ sym (ap (λ (e : Entry). e.type) (variable-read c.requires))
