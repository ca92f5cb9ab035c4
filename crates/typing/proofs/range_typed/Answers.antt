-- `typing::range_typed` meets its contract. Assumes nothing.
use mathlib.Core.Path.{refl}
use Rattle.typing.proofs.Rows.{Here, known-row}
use Rattle.typing.proofs.Rules.{range-variable, range-rule}
use Rattle.typing.proofs.range_typed.Goals as goal

pub fields-w-requires : goal.fields-w-requires
fields-w-requires c = known-row refl c.requires

pub variable_type-requires : goal.variable_type-requires
variable_type-requires c =
    let here : Here c.args.x.now.image.now c.args.x.now.trailer c.args.r c.fields-w.result = record { formed = c.requires.formed; fields = c.fields-w.ensures } in
    range-variable (here) c.requires

pub returns : goal.returns
returns c =
    let here : Here c.args.x.now.image.now c.args.x.now.trailer c.args.r c.fields-w.result = record { formed = c.requires.formed; fields = c.fields-w.ensures } in
    range-rule (here) c.variable_type.ensures
