-- `starting::begin` meets its contract. Assumes nothing.
use Rattle.starting.proofs.Judging.{begins-of}
use Rattle.starting.proofs.Clearing.{variables-few}
use lib.Seq.{length-take-le}
use mathlib.Core.Path.{sym}
use native.Mathlib.Omega.{arith}
use Rattle.starting.proofs.begin.Goals as goal

pub slice_bounds-work-end : goal.slice_bounds-work-end
slice_bounds-work-end c = let h = c.requires.slotted in omega (arith, h.slots, variables-few h.cleared)

pub slice_bounds-begin_on-end : goal.slice_bounds-begin_on-end
slice_bounds-begin_on-end c = let h = c.requires.slotted in sym (length-take-le _ _ (omega (arith, h.slots, variables-few h.cleared)))

pub begin_on-requires : goal.begin_on-requires
begin_on-requires c = let h = c.requires.slotted in begins-of c.requires (length-take-le _ _ (omega (arith, h.slots, variables-few h.cleared)))
