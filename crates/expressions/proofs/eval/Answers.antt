-- `expressions::eval` meets its contract. Assumes nothing.
use mathlib.Core.Path.{refl, ap, ◌∙◌}
use Rattle.values.proofs.Held.{held-is}
use Rattle.expressions.specs.Operators.{value_of}
use Rattle.expressions.proofs.Ways.{row_from, variable-inside, variable-way, constant-way}
use Rattle.expressions.proofs.Numbers.{an-operator}
use Rattle.expressions.proofs.eval.Goals as goal

pub row-w-requires : goal.row-w-requires
row-w-requires c = row_from refl c.requires

pub value-requires : goal.value-requires
value-requires c = variable-inside c.requires c.row-w.ensures c.in-1.is

pub apply-requires : goal.apply-requires
apply-requires c = an-operator c.requires c.row-w.ensures c.in_default.in_default-own.rest.0.1 c.in_default.in_default-own.rest.1

pub returns-in-1 : goal.returns-in-1
returns-in-1 c = c.value.ensures ∙ variable-way c.requires c.row-w.ensures c.in-1.is

pub returns-in-2 : goal.returns-in-2
returns-in-2 c =
    constant-way c.requires c.row-w.ensures c.in-2.is
    (held-is c.constant.result c.constant.type_inv ∙ c.constant.ensures)

pub returns-in_default : goal.returns-in_default
returns-in_default c = c.known.ensures ∙ ap value_of (held-is _ c.apply.type_inv) ∙ c.apply.ensures
