use native.Mathlib.Omega.{arith}
use Rattle.model.specs.declared.{Fields.Fields}
use Rattle.image.proofs.Laid.{row_inside, row_read}
use mathlib.Core.{Path.sym, Path.ap, Path.◌∙◌}
use Rattle.image.proofs.Automaton.code.Goals as goal

pub half-requires : goal.half-requires
half-requires c = omega (arith, row_inside c.requires)

pub returns : goal.returns
returns c = c.half.ensures ∙ sym (ap (λ (w : Fields). w.code) (row_read c.requires))
