-- `always`: no condition, or the row 2, 0, 1. Assumes nothing.
use mathlib.Core.Path.{refl}
use Rattle.speech.proofs.Expressions.{condition-none, always-row}
use Rattle.speech.proofs.Places.{kind_row, some-row}
use Rattle.speech.proofs.arms.always.Goals as goal

pub returns-then-r-eq-NONE : goal.returns-then-r-eq-NONE
returns-then-r-eq-NONE c = condition-none _ _ c.if-r-eq-NONE.true

pub fields-w-requires : goal.fields-w-requires
fields-w-requires c = kind_row refl (some-row c.requires c.if-r-eq-NONE.false)

pub returns : goal.returns
returns c = always-row (some-row c.requires c.if-r-eq-NONE.false) c.fields-w.ensures c.if-r-eq-NONE.false
