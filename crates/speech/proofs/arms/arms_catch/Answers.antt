-- `arms_catch`: the invariant is what the arms from this row on add; the row falls, none counting as 0. Assumes nothing.
use mathlib.Core.Path.{refl}
use Rattle.speech.proofs.Catching.{arm_is, arm-here, begun, turned, ended}
use Rattle.speech.proofs.Places.{kind_row}
use Rattle.speech.proofs.arms.arms_catch.Goals as goal

pub loop-at-init : goal.loop-at-init
loop-at-init c = begun c.requires

pub fields-w-requires : goal.fields-w-requires
fields-w-requires c = kind_row refl (arm-here c.requires.formed c.loop-at.invariant c.loop-at-test.true)

pub pattern_catches-c-requires : goal.pattern_catches-c-requires
pattern_catches-c-requires c = (arm_is (arm-here c.requires.formed c.loop-at.invariant c.loop-at-test.true) c.fields-w.ensures).pattern

pub loop-at-smaller : goal.loop-at-smaller
loop-at-smaller c = (arm_is (arm-here c.requires.formed c.loop-at.invariant c.loop-at-test.true) c.fields-w.ensures).falls

pub loop-at-preserved : goal.loop-at-preserved
loop-at-preserved c = turned (arm-here c.requires.formed c.loop-at.invariant c.loop-at-test.true) c.fields-w.ensures c.pattern_catches-c.ensures c.loop-at.invariant

pub returns : goal.returns
returns c = ended c.requires.formed c.loop-at-test.false c.loop-at.invariant
