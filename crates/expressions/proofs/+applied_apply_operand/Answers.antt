-- `expressions::applied`, `apply` and `operand` meet their contracts: the row falls. Assumes nothing.
use mathlib.Core.Path.{refl, ap, ◌∙◌}
use native.Mathlib.Omega.{arith}
use Rattle.values.proofs.Held.{held-is}
use Rattle.expressions.specs.Operators.{value_of}
use Rattle.expressions.proofs.Ways.{row_from, variable-inside}
use Rattle.expressions.proofs.Numbers.{first, second, first-unknown, first_small, unary-number, second-unknown, second-small, binary-number, an-operator, variable-number, constant_number, whole, anew}
use Rattle.expressions.proofs.+applied_apply_operand.Goals as goal

pub applied-row-w-requires : goal.applied-row-w-requires
applied-row-w-requires t c = row_from refl c.requires.runs

pub applied-operand-a-requires : goal.applied-operand-a-requires
applied-operand-a-requires t c = let p = first c.requires c.row-w.ensures in (omega (arith, p.0, c.decreases), p.1)

pub applied-returns-then-a-eq-UNDEFINED : goal.applied-returns-then-a-eq-UNDEFINED
applied-returns-then-a-eq-UNDEFINED t c = first-unknown c.requires c.row-w.ensures _ c.operand-a.type_inv c.operand-a.ensures c.if-a-eq-UNDEFINED.true

pub applied-unary-requires : goal.applied-unary-requires
applied-unary-requires t c = first_small c.requires c.row-w.ensures _ c.operand-a.type_inv c.operand-a.ensures c.if-a-eq-UNDEFINED.false

pub applied-operand-b-requires : goal.applied-operand-b-requires
applied-operand-b-requires t c = let p = second c.requires c.row-w.ensures c.in_default.in_default-own.rest.1 in (omega (arith, p.0, c.decreases), p.1)

pub applied-returns-then-b-eq-UNDEFINED : goal.applied-returns-then-b-eq-UNDEFINED
applied-returns-then-b-eq-UNDEFINED t c = second-unknown c.requires c.row-w.ensures _ c.operand-a.type_inv c.operand-a.ensures c.if-a-eq-UNDEFINED.false c.in_default.in_default-own.rest.1 _ c.operand-b.type_inv c.operand-b.ensures c.if-b-eq-UNDEFINED.true

pub applied-binary-requires : goal.applied-binary-requires
applied-binary-requires t c = (first_small c.requires c.row-w.ensures _ c.operand-a.type_inv c.operand-a.ensures c.if-a-eq-UNDEFINED.false, second-small c.requires c.row-w.ensures _ c.operand-a.type_inv c.operand-a.ensures c.if-a-eq-UNDEFINED.false c.in_default.in_default-own.rest.1 _ c.operand-b.type_inv c.operand-b.ensures c.if-b-eq-UNDEFINED.false)

pub applied-returns-in-16 : goal.applied-returns-in-16
applied-returns-in-16 t c = unary-number c.requires c.row-w.ensures _ c.operand-a.type_inv c.operand-a.ensures c.if-a-eq-UNDEFINED.false c.in-16.is c.unary.type_inv c.unary.ensures

pub applied-returns-else-b-eq-UNDEFINED : goal.applied-returns-else-b-eq-UNDEFINED
applied-returns-else-b-eq-UNDEFINED t c = binary-number c.requires c.row-w.ensures _ c.operand-a.type_inv c.operand-a.ensures c.if-a-eq-UNDEFINED.false c.in_default.in_default-own.rest.1 _ c.operand-b.type_inv c.operand-b.ensures c.if-b-eq-UNDEFINED.false c.binary.type_inv c.binary.ensures

pub apply-applied-requires : goal.apply-applied-requires
apply-applied-requires t c = (omega (arith, c.decreases), rw (whole c.args.image.now, whole c.args.store.now) c.requires)

pub apply-returns : goal.apply-returns
apply-returns t c = anew c.args.image.now c.args.store.now c.args.r c.applied.result c.applied.type_inv c.applied.ensures

pub operand-row-w-requires : goal.operand-row-w-requires
operand-row-w-requires t c = row_from refl c.requires

pub operand-bounds-store-w : goal.operand-bounds-store-w
operand-bounds-store-w t c = variable-inside c.requires c.row-w.ensures c.in-1.is

pub operand-constant-requires : goal.operand-constant-requires
operand-constant-requires t c = tt

pub operand-apply-requires : goal.operand-apply-requires
operand-apply-requires t c = (omega (arith, c.decreases), an-operator c.requires c.row-w.ensures c.in_default.in_default-own.rest.0.1 c.in_default.in_default-own.rest.1)

pub operand-returns-in-1 : goal.operand-returns-in-1
operand-returns-in-1 t c = ap value_of (held-is _ c.result-1.given)
    ∙ variable-number c.requires c.row-w.ensures c.in-1.is (variable-inside c.requires c.row-w.ensures c.in-1.is)

pub operand-returns-in-2 : goal.operand-returns-in-2
operand-returns-in-2 t c = constant_number c.requires c.row-w.ensures c.constant.type_inv c.in-2.is c.constant.ensures

pub operand-returns-in_default : goal.operand-returns-in_default
operand-returns-in_default t c = ap value_of (held-is _ c.apply.type_inv) ∙ c.apply.ensures
