-- `binding::bound_offers` meets its contract. The loop's invariant: the rule of the rest of the list is that of the whole.
-- Assumes nothing.
use mathlib.Core.Path.{◌∙◌}
use Rattle.binding.proofs.OfferLists.{offers-over, offer-row, offer-next, offer-less, offer-defines, offer-uses, offer-passes}
use Rattle.binding.proofs.bound_offers.Goals as goal

pub fields-w-requires : goal.fields-w-requires
fields-w-requires c = offer-row c.loop-r.invariant.0 c.loop-r-test.true

pub returns-then-not-apart : goal.returns-then-not-apart
returns-then-not-apart c = offer-defines c.loop-r.invariant.0 c.loop-r-test.true _ c.fields-w.ensures _ _ c.masks_in-later.ensures c.masks_in-offer.ensures _ c.apart.ensures c.if-not-apart.true ∙ c.loop-r.invariant.1

pub returns-then-not-apart-2 : goal.returns-then-not-apart-2
returns-then-not-apart-2 c = offer-uses c.loop-r.invariant.0 c.loop-r-test.true _ c.fields-w.ensures _ _ c.masks_in-later.ensures c.masks_in-offer.ensures _ _ c.apart.ensures c.apart-in-loop-r.ensures c.if-not-apart-2.true ∙ c.loop-r.invariant.1

pub loop-r-smaller : goal.loop-r-smaller
loop-r-smaller c = offer-less c.loop-r.invariant.0 c.loop-r-test.true _ c.fields-w.ensures

pub loop-r-preserved : goal.loop-r-preserved
loop-r-preserved c = (offer-next c.loop-r.invariant.0 c.loop-r-test.true _ c.fields-w.ensures, offer-passes c.loop-r.invariant.0 c.loop-r-test.true _ c.fields-w.ensures _ _ c.masks_in-later.ensures c.masks_in-offer.ensures _ _ c.apart.ensures c.apart-in-loop-r.ensures c.if-not-apart.false c.if-not-apart-2.false ∙ c.loop-r.invariant.1)

pub returns : goal.returns
returns c = offers-over c.loop-r.invariant.0 c.loop-r-test.false ∙ c.loop-r.invariant.1
