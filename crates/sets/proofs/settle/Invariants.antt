-- `settle` meets its contract: a state at a time, until none is due. Assumes nothing.
use Rattle.model.specs.Image.{tables_of}
use Rattle.sets.proofs.Visiting.{remaining, Visiting}
use Rattle.sets.proofs.settle.Given as goal

abbrev pub invariant-loop-due : goal.invariant-loop-due
invariant-loop-due l = Visiting (tables_of l.lent.x.image.now) l.sets l.due l.walked l.wrong

abbrev pub decreases-loop-due : goal.decreases-loop-due
decreases-loop-due l = remaining l.sets l.due l.walked
