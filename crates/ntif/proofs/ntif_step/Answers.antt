use lib.Seq.{length-take-le}
use mathlib.Core.Path.{sym, ◌∙◌}
use native.Mathlib.Omega.{arith}
use Rattle.ntif.proofs.ntif_step.Goals as goal

pub slice_bounds-step_bytes_on-end : goal.slice_bounds-step_bytes_on-end
slice_bounds-step_bytes_on-end c = sym (length-take-le _ _ (omega (arith, c.min-n.ensures)))

pub slice_bounds-step_bytes_on-end-2 : goal.slice_bounds-step_bytes_on-end-2
slice_bounds-step_bytes_on-end-2 c = sym (length-take-le _ _ (omega (arith, c.min-m.ensures)))

pub step_bytes_on-requires : goal.step_bytes_on-requires
step_bytes_on-requires c = (length-take-le _ _ (omega (arith, c.min-n.ensures)) ∙ c.min-n.ensures, length-take-le _ _ (omega (arith, c.min-m.ensures)) ∙ c.min-m.ensures)
