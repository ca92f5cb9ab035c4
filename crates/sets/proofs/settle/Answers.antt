-- `settle` meets its contract: a state at a time, until none is due. Assumes nothing.
use Rattle.sets.proofs.Visiting.{visiting-first}
use Rattle.sets.proofs.Finding.{due-inside, due-located, due-lead, due-ready, walk-on, walk-less, settled-of}
use Rattle.sets.proofs.settle.Goals as goal

pub loop-due-init : goal.loop-due-init
loop-due-init c = visiting-first c.requires.stage

pub state_row-row-requires : goal.state_row-row-requires
state_row-row-requires c = due-located c.requires.given c.loop-due.invariant c.lowest-s.ensures

pub bounds-lent-row : goal.bounds-lent-row
bounds-lent-row c = due-lead c.requires.given c.loop-due.invariant c.lowest-s.ensures c.state_row-row.ensures

pub bounds-sets-s : goal.bounds-sets-s
bounds-sets-s c = due-inside c.requires.given c.loop-due.invariant c.lowest-s.ensures

pub walk-requires : goal.walk-requires
walk-requires c = due-ready c.requires.given c.loop-due.invariant c.lowest-s.ensures c.state_row-row.ensures

pub loop-due-smaller : goal.loop-due-smaller
loop-due-smaller c = walk-less c.requires.given c.loop-due.invariant c.lowest-s.ensures c.state_row-row.ensures c.bit-here.ensures c.without.ensures c.without-in-loop-due.ensures c.walk.ensures

pub loop-due-preserved : goal.loop-due-preserved
loop-due-preserved c = walk-on c.requires.given c.loop-due.invariant c.lowest-s.ensures c.state_row-row.ensures c.bit-here.ensures c.without.ensures c.without-in-loop-due.ensures c.walk.ensures c.mark-wrong.ensures

pub returns : goal.returns
returns c = settled-of c.requires.given c.loop-due.invariant c.loop-due-test.false
