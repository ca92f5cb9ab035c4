-- `typing::all_pass` meets its contract: what the rest of the list passes, the list passes. The measure is the row, none
-- counting 0. Assumes nothing.
use Rattle.typing.proofs.Lists.{begin, place-there, may-there, over, less, fails, goes_on}
use Rattle.typing.proofs.all_pass.Goals as goal

pub loop-at-init : goal.loop-at-init
loop-at-init g c = begin c.requires

pub fields-w-requires : goal.fields-w-requires
fields-w-requires g c = place-there c.loop-at.invariant c.loop-at-test.true

pub test-requires : goal.test-requires
test-requires g c = may-there c.loop-at.invariant c.loop-at-test.true c.fields-w.ensures

pub returns-then-not-test : goal.returns-then-not-test
returns-then-not-test g c = fails c.loop-at.invariant c.loop-at-test.true c.fields-w.ensures c.if-not-test.ensures

pub loop-at-smaller : goal.loop-at-smaller
loop-at-smaller g c = less c.loop-at.invariant c.loop-at-test.true c.fields-w.ensures

pub loop-at-preserved : goal.loop-at-preserved
loop-at-preserved g c = goes_on c.loop-at.invariant c.loop-at-test.true c.fields-w.ensures c.if-not-test.ensures

pub returns : goal.returns
returns g c = over c.loop-at.invariant c.loop-at-test.false
