-- `fill`: the invariant is that the rows below r are filled in. Assumes nothing.
use Rattle.speech.proofs.Pass.{Passing}
use Rattle.speech.proofs.fill.Given as goal

abbrev pub invariant-loop-r : goal.invariant-loop-r
invariant-loop-r l = Passing l.x.image.now l.x.trailer l.initial.ways l.r-end l.ways l.r
