-- `pattern_catches`: by its code. Assumes nothing.
use mathlib.Core.Path.{refl}
use Rattle.speech.proofs.Catching.{pattern-is}
use Rattle.speech.proofs.Places.{kind_row}
use Rattle.speech.proofs.arms.pattern_catches.Goals as goal

pub fields-w-requires : goal.fields-w-requires
fields-w-requires c = kind_row refl c.requires

pub returns : goal.returns
returns c = pattern-is c.requires c.fields-w.ensures c.value_bit.ensures
