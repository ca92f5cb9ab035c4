-- `typing::row_typed` meets its contract, code by code. Assumes nothing.
use native.Mathlib.Omega.{arith}
use Rattle.typing.specs.Rules.{Operator}
use Rattle.typing.proofs.Codes.{unary-operator}
use Rattle.typing.proofs.Rows.{Here}
use Rattle.typing.proofs.Rules.{unary-operand, unary-rule, first-operand, second-operand, binary-rule, where-condition, where-rule, assign-items, assign-rule, choose-items, choose-condition, choose-passes, choose-fails, gate-offers, tau-offers, case-subject, case-arms, case-rule, while-condition, while-rule, for-range, for-rule, no-rule}
use Rattle.typing.proofs.row_typed.Goals as goal

pub type_of_expression-requires : goal.type_of_expression-requires
type_of_expression-requires c =
    let here : Here c.args.x.now.image.now c.args.x.now.trailer c.args.r c.fields-w.result = record { formed = c.requires.formed; fields = c.fields-w.ensures } in
    unary-operand (here) c.in-16.is

pub operand_type-requires : goal.operand_type-requires
operand_type-requires c = unary-operator _ c.in-16.is

pub type_of_expression-requires-in-35 : goal.type_of_expression-requires-in-35
type_of_expression-requires-in-35 c =
    let here : Here c.args.x.now.image.now c.args.x.now.trailer c.args.r c.fields-w.result = record { formed = c.requires.formed; fields = c.fields-w.ensures } in
    where-condition (here) c.in-35.is

pub gets_typed-requires : goal.gets_typed-requires
gets_typed-requires c =
    let here : Here c.args.x.now.image.now c.args.x.now.trailer c.args.r c.fields-w.result = record { formed = c.requires.formed; fields = c.fields-w.ensures } in
    assign-items (here) c.in-49.is

pub of_types_typed-requires : goal.of_types_typed-requires
of_types_typed-requires c =
    let here : Here c.args.x.now.image.now c.args.x.now.trailer c.args.r c.fields-w.result = record { formed = c.requires.formed; fields = c.fields-w.ensures } in
    choose-items (here) c.in-50.is

pub type_of_condition-requires : goal.type_of_condition-requires
type_of_condition-requires c =
    let here : Here c.args.x.now.image.now c.args.x.now.trailer c.args.r c.fields-w.result = record { formed = c.requires.formed; fields = c.fields-w.ensures } in
    choose-condition (here) c.in-50.is

pub type_of_expression-requires-in-56 : goal.type_of_expression-requires-in-56
type_of_expression-requires-in-56 c =
    let here : Here c.args.x.now.image.now c.args.x.now.trailer c.args.r c.fields-w.result = record { formed = c.requires.formed; fields = c.fields-w.ensures } in
    case-subject (here) c.in-56.is

pub arms_typed-requires : goal.arms_typed-requires
arms_typed-requires c =
    let here : Here c.args.x.now.image.now c.args.x.now.trailer c.args.r c.fields-w.result = record { formed = c.requires.formed; fields = c.fields-w.ensures } in
    case-arms (here) c.in-56.is

pub type_of_expression-requires-in-59 : goal.type_of_expression-requires-in-59
type_of_expression-requires-in-59 c =
    let here : Here c.args.x.now.image.now c.args.x.now.trailer c.args.r c.fields-w.result = record { formed = c.requires.formed; fields = c.fields-w.ensures } in
    while-condition (here) c.in-59.is

pub range_typed-requires : goal.range_typed-requires
range_typed-requires c =
    let here : Here c.args.x.now.image.now c.args.x.now.trailer c.args.r c.fields-w.result = record { formed = c.requires.formed; fields = c.fields-w.ensures } in
    for-range (here) c.in-60.is

pub type_of_expression-requires-in-17 : goal.type_of_expression-requires-in-17
type_of_expression-requires-in-17 c =
    let here : Here c.args.x.now.image.now c.args.x.now.trailer c.args.r c.fields-w.result = record { formed = c.requires.formed; fields = c.fields-w.ensures } in
    let operator : Operator c.fields-w.result.code = record { low = c.in-17.if-code-lt16-own.false; high = c.in-17.if-code-lt28-own.true } in
    first-operand (here) (operator) c.in-17.in_default-own.rest.0.0.0.0.0.0.0.1

pub type_of_expression-requires-in-17-2 : goal.type_of_expression-requires-in-17-2
type_of_expression-requires-in-17-2 c =
    let here : Here c.args.x.now.image.now c.args.x.now.trailer c.args.r c.fields-w.result = record { formed = c.requires.formed; fields = c.fields-w.ensures } in
    let operator : Operator c.fields-w.result.code = record { low = c.in-17.if-code-lt16-own.false; high = c.in-17.if-code-lt28-own.true } in
    second-operand (here) (operator) c.in-17.in_default-own.rest.0.0.0.0.0.0.0.1

pub returns-in-16 : goal.returns-in-16
returns-in-16 c =
    let here : Here c.args.x.now.image.now c.args.x.now.trailer c.args.r c.fields-w.result = record { formed = c.requires.formed; fields = c.fields-w.ensures } in
    unary-rule (here) c.in-16.is c.type_of_expression.ensures c.operand_type.ensures

pub returns-in-35 : goal.returns-in-35
returns-in-35 c =
    let here : Here c.args.x.now.image.now c.args.x.now.trailer c.args.r c.fields-w.result = record { formed = c.requires.formed; fields = c.fields-w.ensures } in
    where-rule (here) c.in-35.is c.type_of_expression-in-35.ensures

pub returns-in-49 : goal.returns-in-49
returns-in-49 c =
    let here : Here c.args.x.now.image.now c.args.x.now.trailer c.args.r c.fields-w.result = record { formed = c.requires.formed; fields = c.fields-w.ensures } in
    assign-rule (here) c.in-49.is c.gets_typed.ensures

pub returns-then-of_types_typed : goal.returns-then-of_types_typed
returns-then-of_types_typed c =
    let here : Here c.args.x.now.image.now c.args.x.now.trailer c.args.r c.fields-w.result = record { formed = c.requires.formed; fields = c.fields-w.ensures } in
    choose-passes (here) c.in-50.is c.of_types_typed.ensures c.if-of_types_typed.true c.type_of_condition.ensures

pub returns-else-of_types_typed : goal.returns-else-of_types_typed
returns-else-of_types_typed c =
    let here : Here c.args.x.now.image.now c.args.x.now.trailer c.args.r c.fields-w.result = record { formed = c.requires.formed; fields = c.fields-w.ensures } in
    choose-fails (here) c.in-50.is c.of_types_typed.ensures c.if-of_types_typed.false

pub returns-then-w-ne-TAU : goal.returns-then-w-ne-TAU
returns-then-w-ne-TAU c =
    let here : Here c.args.x.now.image.now c.args.x.now.trailer c.args.r c.fields-w.result = record { formed = c.requires.formed; fields = c.fields-w.ensures } in
    gate-offers (here) c.in-52.is c.if-w-ne-TAU.true

pub returns-else-w-ne-TAU : goal.returns-else-w-ne-TAU
returns-else-w-ne-TAU c =
    let here : Here c.args.x.now.image.now c.args.x.now.trailer c.args.r c.fields-w.result = record { formed = c.requires.formed; fields = c.fields-w.ensures } in
    tau-offers (here) c.in-52.is c.if-w-ne-TAU.false

pub returns-in-56 : goal.returns-in-56
returns-in-56 c =
    let here : Here c.args.x.now.image.now c.args.x.now.trailer c.args.r c.fields-w.result = record { formed = c.requires.formed; fields = c.fields-w.ensures } in
    case-rule (here) c.in-56.is c.type_of_expression-in-56.ensures c.arms_typed.ensures

pub returns-in-59 : goal.returns-in-59
returns-in-59 c =
    let here : Here c.args.x.now.image.now c.args.x.now.trailer c.args.r c.fields-w.result = record { formed = c.requires.formed; fields = c.fields-w.ensures } in
    while-rule (here) c.in-59.is c.type_of_expression-in-59.ensures

pub returns-in-60 : goal.returns-in-60
returns-in-60 c =
    let here : Here c.args.x.now.image.now c.args.x.now.trailer c.args.r c.fields-w.result = record { formed = c.requires.formed; fields = c.fields-w.ensures } in
    for-rule (here) c.in-60.is c.range_typed.ensures

pub returns-in-17 : goal.returns-in-17
returns-in-17 c =
    let here : Here c.args.x.now.image.now c.args.x.now.trailer c.args.r c.fields-w.result = record { formed = c.requires.formed; fields = c.fields-w.ensures } in
    let operator : Operator c.fields-w.result.code = record { low = c.in-17.if-code-lt16-own.false; high = c.in-17.if-code-lt28-own.true } in
    binary-rule (here) (operator) c.in-17.in_default-own.rest.0.0.0.0.0.0.0.1 c.takes.ensures c.type_of_expression-in-17.ensures c.type_of_expression-in-17-2.ensures

pub returns-in_default : goal.returns-in_default
returns-in_default c =
    let here : Here c.args.x.now.image.now c.args.x.now.trailer c.args.r c.fields-w.result = record { formed = c.requires.formed; fields = c.fields-w.ensures } in
    no-rule (here) c.in_default.in_default-own.rest (λ o. let low = o.low in omega (arith, c.in_default.if-code-lt16-own.true))

pub returns-in_default-2 : goal.returns-in_default-2
returns-in_default-2 c =
    let here : Here c.args.x.now.image.now c.args.x.now.trailer c.args.r c.fields-w.result = record { formed = c.requires.formed; fields = c.fields-w.ensures } in
    no-rule (here) c.in_default.in_default-own.rest (λ o. let high = o.high in omega (arith, c.in_default.if-code-lt28-own.false))
