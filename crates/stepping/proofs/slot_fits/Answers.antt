use mathlib.Core.Path.{refl}
use Rattle.stepping.proofs.Slots.{variable-there, type-there, slot-undefined, slot-judged}
use Rattle.stepping.proofs.slot_fits.Goals as goal

pub returns-then-z-eq-UNDEFINED : goal.returns-then-z-eq-UNDEFINED
returns-then-z-eq-UNDEFINED c =
    slot-undefined c.requires refl c.z-1.given c.if-z-eq-UNDEFINED.true

pub variable_type-requires : goal.variable_type-requires
variable_type-requires c =
    variable-there c.requires

pub size-requires : goal.size-requires
size-requires c =
    type-there c.requires c.variable_type.ensures

pub returns : goal.returns
returns c =
    slot-judged c.requires refl c.z-1.given c.if-z-eq-UNDEFINED.false c.variable_type.ensures c.size.ensures c.of_size.ensures
