-- `begin` meets its contract. Assumes nothing.
use native.Mathlib.Omega.{arith}
use Rattle.sets.proofs.Finding.{begin-some, begun-all}
use Rattle.sets.proofs.begin.Goals as goal

pub bounds-sets-0 : goal.bounds-sets-0
bounds-sets-0 c = omega (arith, begin-some c.requires, c.fill.ensures.len)

pub returns : goal.returns
returns c = begun-all c.requires (c.fill.ensures.after (λ y e. e)) c.parameters.ensures
