-- `ntif::ntif_start` meets its contract. Assumes nothing.
use lib.Seq.{length-take-le}
use mathlib.Core.Path.{sym, ◌∙◌}
use native.Mathlib.Omega.{arith}
use Rattle.ntif.proofs.ntif_start.Goals as goal

pub slice_bounds-start_bytes_on-end : goal.slice_bounds-start_bytes_on-end
slice_bounds-start_bytes_on-end c = sym (length-take-le _ _ (omega (arith, c.min-n.ensures)))

pub slice_bounds-start_bytes_on-end-2 : goal.slice_bounds-start_bytes_on-end-2
slice_bounds-start_bytes_on-end-2 c = sym (length-take-le _ _ (omega (arith, c.min-m.ensures)))

pub start_bytes_on-requires : goal.start_bytes_on-requires
start_bytes_on-requires c = (length-take-le _ _ (omega (arith, c.min-n.ensures)) ∙ c.min-n.ensures, length-take-le _ _ (omega (arith, c.min-m.ensures)) ∙ c.min-m.ensures)
