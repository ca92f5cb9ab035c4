-- `typing::type_of_pattern` meets its contract: the pattern that the loop has come to is of the type asked for. The measure is
-- its row. Assumes nothing.
use mathlib.Core.Path.{refl, ◌∙◌}
use Rattle.typing.proofs.Rows.{Here, known-row, child}
use Rattle.typing.proofs.Types.{bind-asks, bind-type, where-named, where-type, plain_type}
use Rattle.typing.proofs.type_of_pattern.Goals as goal

pub loop-at-init : goal.loop-at-init
loop-at-init c = (c.requires, refl)

pub fields-w-requires : goal.fields-w-requires
fields-w-requires c = known-row refl c.loop-at.invariant.0

pub variable_type-requires : goal.variable_type-requires
variable_type-requires c =
    let here : Here c.args.x.now.image.now c.args.x.now.trailer c.loop-at.at c.fields-w.result = record { formed = c.loop-at.invariant.0.formed; fields = c.fields-w.ensures } in
    bind-asks (here) c.in-33.is

pub returns-in-33 : goal.returns-in-33
returns-in-33 c =
    let here : Here c.args.x.now.image.now c.args.x.now.trailer c.loop-at.at c.fields-w.result = record { formed = c.loop-at.invariant.0.formed; fields = c.fields-w.ensures } in
    c.variable_type.ensures ∙ bind-type (here) c.in-33.is ∙ c.loop-at.invariant.1

pub loop-at-smaller : goal.loop-at-smaller
loop-at-smaller c =
    let here : Here c.args.x.now.image.now c.args.x.now.trailer c.loop-at.at c.fields-w.result = record { formed = c.loop-at.invariant.0.formed; fields = c.fields-w.ensures } in
    (where-named (here) c.in-35.is).below

pub loop-at-preserved : goal.loop-at-preserved
loop-at-preserved c =
    let here : Here c.args.x.now.image.now c.args.x.now.trailer c.loop-at.at c.fields-w.result = record { formed = c.loop-at.invariant.0.formed; fields = c.fields-w.ensures } in
    let h = here in (child h (where-named h c.in-35.is), where-type h c.in-35.is ∙ c.loop-at.invariant.1)

pub returns-in_default : goal.returns-in_default
returns-in_default c =
    let here : Here c.args.x.now.image.now c.args.x.now.trailer c.loop-at.at c.fields-w.result = record { formed = c.loop-at.invariant.0.formed; fields = c.fields-w.ensures } in
    plain_type (here) c.loop-at.invariant.0.kind c.in_default.in_default-own.rest.0.1 c.in_default.in_default-own.rest.1 ∙ c.loop-at.invariant.1
