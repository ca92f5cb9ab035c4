-- `stepping::slots_verdict` meets its contract. Assumes nothing.
use native.Mathlib.Omega.{arith}
use Rattle.std.proofs.Common.{rules, tests}
use Rattle.std.proofs.lemmas.Iterator.{serves_from_Range}
use Rattle.model.specs.Image.{tables_of}
use Rattle.model.specs.Calls.{slot_fits}
use Rattle.model.proofs.Found.{found, found-refused, none-accepted}
use Rattle.stages.proofs.Cleared.{located}
use Rattle.stepping.specs.Stepping.{SlotIn}
use Rattle.stepping.proofs.slots_verdict.Goals as goal

pub variable_count-n-requires : goal.variable_count-n-requires
variable_count-n-requires c = located c.requires.cleared

pub find-requires-clause-callable : goal.find-requires-clause-callable
find-requires-clause-callable c =
    serves_from_Range (λ x q k. search (rules, tests)) (λ x low high. let h : SlotIn c.args.x.now.image.now c.args.x.now.trailer c.args.store.now x = record { slotted = c.requires; inside = omega (arith, c.requires.size, c.variable_count-n.ensures) } in search rules)

pub returns-in-Some : goal.returns-in-Some
returns-in-Some c =
    let p = slot_fits (tables_of c.args.x.now.image.now) c.args.store.now in
    found-refused p _ _ (found p _ _ _ c.find.ensures.ran (λ x b q k. search (rules, tests)) c.variable_count-n.ensures) c.in-Some.is

pub returns-in-None : goal.returns-in-None
returns-in-None c =
    let p = slot_fits (tables_of c.args.x.now.image.now) c.args.store.now in
    none-accepted p _ _ (found p _ _ _ c.find.ensures.ran (λ x b q k. search (rules, tests)) c.variable_count-n.ensures) c.in-None.is
