-- `starting::right` meets its contract. Assumes nothing.
use Rattle.starting.proofs.Judging.{right-plain, right-typed}
use Rattle.starting.proofs.Clearing.{variable-of, type-of}
use Rattle.image.proofs.Laid.{half_is}
use native.Mathlib.Omega.{arith}
use Rattle.starting.proofs.right.Goals as goal

pub parameter-requires : goal.parameter-requires
parameter-requires c = let h = c.requires in variable-of h.slotted.cleared _ h.inside

pub returns-then-parameter-ne1 : goal.returns-then-parameter-ne1
returns-then-parameter-ne1 c = right-plain _ _ _ c.parameter.ensures c.if-parameter-ne1.true

pub variable_type-t-requires : goal.variable_type-t-requires
variable_type-t-requires c = let h = c.requires in variable-of h.slotted.cleared _ h.inside

pub size-requires : goal.size-requires
size-requires c = let h = c.requires in type-of h.slotted.cleared _ _ h.inside c.variable_type-t.ensures

pub bounds-work-v : goal.bounds-work-v
bounds-work-v c = let h = c.requires in omega (arith, h.inside, h.slotted.slots)

pub returns : goal.returns
returns c =
    let h = c.requires in
    right-typed _ _ _ c.parameter.ensures (half_is _) c.if-parameter-ne1.false c.variable_type-t.ensures c.size.ensures (omega (arith, h.inside, h.slotted.slots)) c.of_size-arg-1.given c.of_size.ensures
