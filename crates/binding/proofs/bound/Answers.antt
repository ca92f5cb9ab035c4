-- `binding::bound` meets its contract: one line for each arm. Assumes nothing.
use mathlib.Core.Path.{◌∙◌}
use Rattle.binding.proofs.RowRules.{rule-condition, rule-other, rule-vector, rule-offers, rule-for, at-vector, at-communicate, at_low, at_high}
use Rattle.binding.proofs.bound.Goals as goal

pub returns-then-r-x : goal.returns-then-r-x
returns-then-r-x c = rule-condition c.requires _ _ c.if-r-x.true c.masks_in.ensures c.inside.ensures

pub bound_offers-requires : goal.bound_offers-requires
bound_offers-requires c = rule-offers c.requires _ c.fields-w.ensures c.in-52.is

pub distinct_items-requires : goal.distinct_items-requires
distinct_items-requires c = rule-vector c.requires _ c.fields-w.ensures c.in-49-to-51.if-code-lt49-own.false c.in-49-to-51.if-code-lt52-own.true

pub returns-in-52 : goal.returns-in-52
returns-in-52 c = rule-other c.requires _ c.fields-w.ensures _ c.if-r-x.false (c.bound_offers.ensures ∙ at-communicate _ _ c.in-52.is)

pub returns-in-60 : goal.returns-in-60
returns-in-60 c = rule-other c.requires _ c.fields-w.ensures _ c.if-r-x.false (rule-for c.requires _ c.fields-w.ensures _ _ _ c.in-60.is c.masks_in-in-60.ensures c.masks_in-in-60-2.ensures c.apart.ensures)

pub returns-in-49-to-51 : goal.returns-in-49-to-51
returns-in-49-to-51 c = rule-other c.requires _ c.fields-w.ensures _ c.if-r-x.false (c.distinct_items.ensures ∙ at-vector _ _ c.in-49-to-51.if-code-lt49-own.false c.in-49-to-51.if-code-lt52-own.true)

pub returns-in_default : goal.returns-in_default
returns-in_default c = rule-other c.requires _ c.fields-w.ensures _ c.if-r-x.false (at_low _ _ c.in_default.if-code-lt49-own.true)

pub returns-in_default-2 : goal.returns-in_default-2
returns-in_default-2 c = rule-other c.requires _ c.fields-w.ensures _ c.if-r-x.false (at_high _ _ c.in_default.if-code-lt52-own.false c.in_default.in_default-own.rest.0.1 c.in_default.in_default-own.rest.1)
