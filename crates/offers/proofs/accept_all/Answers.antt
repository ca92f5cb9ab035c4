use mathlib.Core.Path.{refl}
use native.Mathlib.Omega.{arith}
use Rattle.expressions.proofs.Ways.{row_from}
use Rattle.actions.proofs.Listed.{here-row}
use Rattle.offers.proofs.Offering.{along-first, along-end, asks, along-less, count-in, along-refused, along-step}
use Rattle.offers.proofs.accept_all.Goals as goal

pub loop-r-init : goal.loop-r-init
loop-r-init c = along-first c.requires _ _

pub row-o-requires : goal.row-o-requires
row-o-requires c = row_from refl (here-row c.loop-r.invariant.items c.loop-r-test.true)

pub accept-offered-requires : goal.accept-offered-requires
accept-offered-requires c = asks c.requires c.loop-r.invariant c.loop-r-test.true c.row-o.ensures

pub returns-in-Err : goal.returns-in-Err
returns-in-Err c = along-refused c.requires c.loop-r.invariant c.loop-r-test.true c.row-o.ensures c.accept-offered.ensures c.in-Err.is

pub bounds-values-count : goal.bounds-values-count
bounds-values-count c = omega (arith, count-in c.requires c.loop-r.invariant c.loop-r-test.true c.row-o.ensures, c.loop-r.invariant.room)

pub loop-r-smaller : goal.loop-r-smaller
loop-r-smaller c = along-less c.requires c.loop-r.invariant c.loop-r-test.true c.row-o.ensures

pub loop-r-preserved : goal.loop-r-preserved
loop-r-preserved c = along-step c.requires c.loop-r.invariant c.loop-r-test.true c.row-o.ensures c.accept-offered.ensures c.in-Ok.is

pub returns : goal.returns
returns c = along-end c.requires c.loop-r.invariant c.loop-r-test.false
