-- `starting::fill` meets its contract. Assumes nothing.
use borrow.Author.Rules.{rules}
use native.Mathlib.Omega.{arith}
use mathlib.Core.Path.{refl}
use lib.ListN.{length-set}
use Rattle.values.proofs.Held.{held-is}
use Rattle.stages.proofs.Cleared.{located}
use Rattle.starting.proofs.Clearing.{variable-of, parameter-small}
use Rattle.starting.proofs.Filling.{filled_none, given-there, filled_next, filled-all, filled-started}
use Rattle.starting.proofs.fill.Goals as goal

pub variable_count-count-requires : goal.variable_count-count-requires
variable_count-count-requires c = located c.requires.slotted.cleared

pub loop-v-init : goal.loop-v-init
loop-v-init c = (omega arith, refl, filled_none _ _ _ c.requires.values)

pub parameter-p-requires : goal.parameter-p-requires
parameter-p-requires c = variable-of c.requires.slotted.cleared _ (search rules)

pub given-requires : goal.given-requires
given-requires c = record { inside = given-there _ (omega arith) c.parameter-p.ensures c.loop-v.invariant.2 }

pub bounds-work-v : goal.bounds-work-v
bounds-work-v c =
    let h = c.requires.slotted in
    omega (arith, h.slots, c.loop-v.invariant.1)

pub loop-v-preserved : goal.loop-v-preserved
loop-v-preserved c =
    let h = c.requires.slotted in
    let p = c.parameter-p.ensures in
    (omega arith, simp length-set c.loop-v.invariant.1, rw (held-is c.given.result c.given.type_inv) (filled_next _ (omega arith) p c.loop-v.invariant.2 _ (omega (arith, p, parameter-small h.cleared c.loop-v.v (omega arith))) (omega (arith, h.slots, c.loop-v.invariant.1)) c.given.ensures))

pub returns : goal.returns
returns c =
    let h = c.requires.slotted in
    filled-started _ _ (filled-all (omega arith) (omega (arith, h.slots, c.loop-v.invariant.1)) c.loop-v.invariant.2)
