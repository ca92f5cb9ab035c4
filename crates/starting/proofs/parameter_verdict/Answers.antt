-- `starting::parameter_verdict` meets its contract. Assumes nothing.
use native.Mathlib.Omega.{arith}
use Rattle.std.proofs.Common.{rules, tests}
use Rattle.std.proofs.lemmas.Iterator.{serves_from_Range}
use Rattle.model.specs.Image.{tables_of}
use Rattle.model.proofs.Found.{found, found-refused, none-accepted}
use Rattle.stages.proofs.Cleared.{located}
use Rattle.starting.specs.Starting.{right_at, parameters_verdict, SlotOf}
use Rattle.starting.proofs.parameter_verdict.Goals as goal

pub variable_count-count-requires : goal.variable_count-count-requires
variable_count-count-requires c = located c.requires.cleared

pub find-requires-clause-callable : goal.find-requires-clause-callable
find-requires-clause-callable c =
    serves_from_Range (λ x q k. search (rules, tests)) (λ x low high. let h : SlotOf c.args.x.now.image.now c.args.x.now.trailer c.args.work.now x = record { slotted = c.requires; inside = omega (arith, c.variable_count-count.ensures) } in search rules)

pub returns-in-Some : goal.returns-in-Some
unfolding parameters_verdict
returns-in-Some c =
    let p = right_at (tables_of c.args.x.now.image.now) c.args.work.now in
    found-refused p _ _ (found p _ _ _ c.find.ensures.ran (λ x b q k. search (rules, tests)) c.variable_count-count.ensures) c.in-Some.is

pub returns-in-None : goal.returns-in-None
unfolding parameters_verdict
returns-in-None c =
    let p = right_at (tables_of c.args.x.now.image.now) c.args.work.now in
    none-accepted p _ _ (found p _ _ _ c.find.ensures.ran (λ x b q k. search (rules, tests)) c.variable_count-count.ensures) c.in-None.is
