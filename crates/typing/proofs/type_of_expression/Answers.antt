-- `typing::type_of_expression` meets its contract, code by code. Assumes nothing.
use mathlib.Core.Path.{refl, ◌∙◌}
use Rattle.typing.proofs.Rows.{Here, known-row}
use Rattle.typing.proofs.Types.{variable-asks, variable-type, constant-type, operator-asks, operator-type}
use Rattle.typing.proofs.type_of_expression.Goals as goal

pub fields-w-requires : goal.fields-w-requires
fields-w-requires c = known-row refl c.requires

pub variable_type-requires : goal.variable_type-requires
variable_type-requires c =
    let here : Here c.args.x.now.image.now c.args.x.now.trailer c.args.r c.fields-w.result = record { formed = c.requires.formed; fields = c.fields-w.ensures } in
    variable-asks (here) c.in-1.is

pub result_type-requires : goal.result_type-requires
result_type-requires c =
    let here : Here c.args.x.now.image.now c.args.x.now.trailer c.args.r c.fields-w.result = record { formed = c.requires.formed; fields = c.fields-w.ensures } in
    operator-asks (here) c.requires.kind c.in_default.in_default-own.rest.0.1 c.in_default.in_default-own.rest.1

pub returns-in-1 : goal.returns-in-1
returns-in-1 c =
    let here : Here c.args.x.now.image.now c.args.x.now.trailer c.args.r c.fields-w.result = record { formed = c.requires.formed; fields = c.fields-w.ensures } in
    c.variable_type.ensures ∙ variable-type (here) c.in-1.is

pub returns-in-2 : goal.returns-in-2
returns-in-2 c =
    let here : Here c.args.x.now.image.now c.args.x.now.trailer c.args.r c.fields-w.result = record { formed = c.requires.formed; fields = c.fields-w.ensures } in
    constant-type (here) c.in-2.is

pub returns-in_default : goal.returns-in_default
returns-in_default c =
    let here : Here c.args.x.now.image.now c.args.x.now.trailer c.args.r c.fields-w.result = record { formed = c.requires.formed; fields = c.fields-w.ensures } in
    c.result_type.ensures ∙ operator-type (here) c.requires.kind c.in_default.in_default-own.rest.0.1 c.in_default.in_default-own.rest.1
