-- `masks::fill_rows` meets its contract. The loop's invariant: the masks of the rows below r are filled in. Assumes nothing.
use Rattle.masks.proofs.Filling.{Filling}
use Rattle.masks.proofs.fill_rows.Given as goal

abbrev pub invariant-loop-r : goal.invariant-loop-r
invariant-loop-r l = Filling l.x.image.now l.x.trailer l.r l.masks
