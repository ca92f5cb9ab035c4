use mathlib.Core.Path.{refl}
use native.Mathlib.Omega.{arith}
use lib.ListN.{length-take}
use Rattle.stepping.proofs.Steps.{store-few, to-steps}
use Rattle.stepping.proofs.run_step.Goals as goal

pub slice_bounds-work-end : goal.slice_bounds-work-end
slice_bounds-work-end c = store-few c.requires

pub slice_bounds-step_on-end : goal.slice_bounds-step_on-end
slice_bounds-step_on-end c =
    let l = store-few c.requires in simp length-take (omega (arith, l))

pub step_on-requires : goal.step_on-requires
step_on-requires c =
    let l = store-few c.requires in to-steps _ _ c.requires (simp length-take (omega (arith, l))) refl
