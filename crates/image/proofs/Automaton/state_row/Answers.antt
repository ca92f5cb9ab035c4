use native.Mathlib.Omega.{arith}
use Rattle.image.proofs.Laid.{state-inside, state-read}
use mathlib.Core.{Path.sym, Path.◌∙◌}
use Rattle.image.proofs.Automaton.state_row.Goals as goal

pub half-requires : goal.half-requires
half-requires c = omega (arith, state-inside c.requires)

pub returns : goal.returns
returns c = c.half.ensures ∙ sym (state-read c.requires)
