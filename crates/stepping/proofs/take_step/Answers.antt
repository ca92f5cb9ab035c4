use native.Mathlib.Omega.{arith}
use mathlib.Core.Path.{sym, ◌∙◌}
use Rattle.stages.proofs.Cleared.{cleared-long, to-cleared}
use Rattle.stepping.proofs.Steps.{to-runs, image-refuses, run-refuses, step-runs}
use Rattle.model.proofs.Order.{passed-on}
use Rattle.stepping.proofs.take_step.Goals as goal

pub trailer-requires : goal.trailer-requires
trailer-requires c =
    cleared-long _ c.image_verdict.ensures c.in_ok-image_verdict.was

pub run_verdict-requires : goal.run_verdict-requires
run_verdict-requires c =
    to-cleared (λ j. omega (arith, c.shared_slice_known-1.given j)) c.image_verdict.ensures c.in_ok-image_verdict.was c.trailer.ensures

pub run_step-requires : goal.run_step-requires
run_step-requires c =
    to-runs (to-cleared (λ j. omega (arith, c.shared_slice_known-1.given j)) c.image_verdict.ensures c.in_ok-image_verdict.was c.trailer.ensures) c.run_verdict.ensures c.in_ok-run_verdict.was

pub returns-in_err-image_verdict : goal.returns-in_err-image_verdict
returns-in_err-image_verdict c =
    rw (passed-on _ _ c.from_residual.ensures.1) (image-refuses c.args.image.now c.args.q c.args.store.now c.args.script.now c.args.budget c.args.label.now _ c.image_verdict.ensures c.in_err-image_verdict.was)

pub returns-in_err-run_verdict : goal.returns-in_err-run_verdict
returns-in_err-run_verdict c =
    rw (passed-on _ _ c.from_residual-in_err-run_verdict.ensures.1) (run-refuses c.args.image.now c.args.q c.args.store.now c.args.script.now c.args.budget c.args.label.now c.image_verdict.ensures c.in_ok-image_verdict.was _ c.run_verdict.ensures c.in_err-run_verdict.was)

pub returns : goal.returns
returns c =
    step-runs c.args.image.now c.args.q c.args.store.now c.args.script.now c.args.budget c.args.label.now c.image_verdict.ensures c.in_ok-image_verdict.was (sym c.run_verdict.ensures ∙ c.in_ok-run_verdict.was) c.run_step.ensures
