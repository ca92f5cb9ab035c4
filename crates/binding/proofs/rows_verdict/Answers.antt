-- `binding::rows_verdict` meets its contract. Assumes nothing.
use Rattle.std.proofs.Common.{rules, tests}
use native.Mathlib.Omega.{arith}
use Rattle.std.proofs.lemmas.Iterator.{serves_from_Range}
use Rattle.model.specs.Image.{tables_of}
use Rattle.model.specs.Binding.{bound}
use Rattle.model.proofs.Found.{found, found-refused, none-accepted}
use Rattle.image.proofs.Laid.{rows-count}
use Rattle.binding.specs.Bound.{binding_verdict, Rule}
use Rattle.binding.proofs.rows_verdict.Goals as goal

pub find-requires-clause-callable : goal.find-requires-clause-callable
find-requires-clause-callable c =
    serves_from_Range (λ r q k. search (rules, tests)) (λ r low high. let h : Rule c.args.x.now.image.now c.args.x.now.trailer r c.args.masks.now c.parameters-allowed.result = record { ruled = c.requires; inside = omega (arith, rows-count c.requires.rooted.formed.located, c.row_count-n.ensures); parameters = c.parameters-allowed.ensures } in search (rules, tests))

pub returns-in-Some : goal.returns-in-Some
unfolding binding_verdict
returns-in-Some c =
    let p = bound (tables_of c.args.x.now.image.now) in
    found-refused p _ _ (found p _ _ _ c.find.ensures.ran (λ r b q k. search (rules, tests)) c.row_count-n.ensures) c.in-Some.is

pub returns-in-None : goal.returns-in-None
unfolding binding_verdict
returns-in-None c =
    let p = bound (tables_of c.args.x.now.image.now) in
    none-accepted p _ _ (found p _ _ _ c.find.ensures.ran (λ r b q k. search (rules, tests)) c.row_count-n.ensures) c.in-None.is
