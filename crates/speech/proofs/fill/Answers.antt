-- `fill`: the invariant is that the rows below r are filled in. Assumes nothing.
use mathlib.Core.Path.{◌∙◌}
use Rattle.image.proofs.Laid.{rows-count}
use Rattle.speech.proofs.Pass.{begun, turned}
use Rattle.speech.proofs.fill.Goals as goal

pub loop-r-init : goal.loop-r-init
loop-r-init c = begun (c.row_count-r-end.ensures ∙ rows-count c.requires.rooted.formed.located)

pub loop-r-preserved : goal.loop-r-preserved
loop-r-preserved c = turned c.requires c.loop-r.invariant _ c.loop-r-test.true c.row_ways.ensures c.packed.ensures
