-- What is written ends inside the text.
use Rattle.std.proofs.Common.{arith, sym}
use Rattle.std.proofs.lemmas.List.{length-take-le}
use Rattle.text.proofs.Pages.{emit-inside}
use Rattle.draw.proofs.main.Goals as goal

pub slice_bounds-text-end : goal.slice_bounds-text-end
slice_bounds-text-end c = emit-inside c.draw-end.ensures (omega arith)

pub slice_bounds-write_all-end : goal.slice_bounds-write_all-end
slice_bounds-write_all-end c = sym (length-take-le _ _ (emit-inside c.draw-end.ensures (omega arith)))
