-- `typing::typing_verdict` meets its contract. Assumes nothing.
use Rattle.std.proofs.Common.{rules, tests}
use native.Mathlib.Omega.{arith}
use Rattle.std.proofs.lemmas.Iterator.{serves_from_Range}
use Rattle.model.specs.Image.{tables_of}
use Rattle.model.specs.Typing.{typed}
use Rattle.model.proofs.Found.{found, found-refused, none-accepted}
use Rattle.image.proofs.Laid.{rows-count}
use Rattle.typing.specs.Rules.{typing_verdict, RootedRow}
use Rattle.typing.proofs.typing_verdict.Goals as goal

pub find-requires-clause-callable : goal.find-requires-clause-callable
find-requires-clause-callable c =
    serves_from_Range (λ x q k. search (rules, tests)) (λ x low high. let h : RootedRow c.args.x.now.image.now c.args.x.now.trailer x = record { rooted = c.requires; inside = omega (arith, rows-count c.requires.formed.located) } in search rules)

pub returns-in-Some : goal.returns-in-Some
unfolding typing_verdict
returns-in-Some c =
    let p = typed (tables_of c.args.x.now.image.now) in
    found-refused p _ _ (found p _ _ _ c.find.ensures.ran (λ x b q k. search (rules, tests)) c.row_count-n.ensures) c.in-Some.is

pub returns-in-None : goal.returns-in-None
unfolding typing_verdict
returns-in-None c =
    let p = typed (tables_of c.args.x.now.image.now) in
    none-accepted p _ _ (found p _ _ _ c.find.ensures.ran (λ x b q k. search (rules, tests)) c.row_count-n.ensures) c.in-None.is
