-- `arms_catch`: the invariant is what the arms from this row on add; the row falls, none counting as 0. Assumes nothing.
use Prim.Native.Nat.{◌+◌, ◌%◌}
use Rattle.speech.proofs.Catching.{Going}
use Rattle.speech.proofs.arms.arms_catch.Given as goal

abbrev pub invariant-loop-at : goal.invariant-loop-at
invariant-loop-at l = Going l.x.image.now l.first l.all l.values l.at

abbrev pub decreases-loop-at : goal.decreases-loop-at
decreases-loop-at l = (l.at + 1) % 65536
