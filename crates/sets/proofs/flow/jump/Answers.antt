-- `flow::jump` meets its contract. Assumes nothing.
use mathlib.Core.Path.{refl}
use native.Mathlib.Omega.{arith}
use Rattle.model.specs.Masks.{meet}
use Rattle.model.specs.Rows.{action}
use Rattle.sets.proofs.Rows.{row-of-kind}
use Rattle.sets.proofs.Steps.{jump-inside, jump_small, still-jump, do-jump}
use Rattle.sets.proofs.flow.jump.Goals as goal

pub fields-w-requires : goal.fields-w-requires
fields-w-requires c = row-of-kind action _ c.requires.formed (omega arith) c.requires.kind

pub bounds-out-q : goal.bounds-out-q
bounds-out-q c = jump-inside c.requires c.fields-w.ensures

pub returns-then-new-old : goal.returns-then-new-old
unfolding meet
returns-then-new-old c = still-jump c.requires c.fields-w.ensures _ _ refl c.if-new-old.true

pub bit-requires : goal.bit-requires
bit-requires c = jump_small c.requires c.fields-w.ensures

pub returns : goal.returns
unfolding meet
returns c = do-jump c.requires c.fields-w.ensures _ _ refl _ c.if-new-old.false c.bit.ensures
