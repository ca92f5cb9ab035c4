-- `judged` meets its contract. Assumes nothing.
use Rattle.std.proofs.Common.{rules, tests, ℕ, ◌<◌}
use native.Mathlib.Omega.{arith}
use Rattle.std.proofs.lemmas.Iterator.{serves_from_Range}
use Rattle.model.specs.Image.{tables_of, state_count}
use Rattle.model.specs.Decode.{act}
use Rattle.model.specs.Speech.{well_spoken}
use Rattle.model.proofs.Found.{found, found-refused, none-accepted}
use Rattle.image.proofs.Laid.{states-count}
use Rattle.speech.specs.Verdict.{speech_verdict}
use Rattle.speech.proofs.judged.Goals as goal

pub find-requires-clause-callable : goal.find-requires-clause-callable
find-requires-clause-callable c =
    serves_from_Range (λ s q k. search (rules, tests)) (λ s low high. let h : s < state_count c.args.x.now.trailer = omega (arith, states-count c.requires.lent.rooted.formed.located, c.state_count-n.ensures) in search (rules, tests))

pub returns-in-Some : goal.returns-in-Some
unfolding speech_verdict
returns-in-Some c =
    let p = λ (s : ℕ). well_spoken (tables_of c.args.x.now.image.now) (act (tables_of c.args.x.now.image.now) s) in
    found-refused p _ _ (found p _ _ _ c.find.ensures.ran (λ r b q k. search (rules, tests)) c.state_count-n.ensures) c.in-Some.is

pub returns-in-None : goal.returns-in-None
unfolding speech_verdict
returns-in-None c =
    let p = λ (s : ℕ). well_spoken (tables_of c.args.x.now.image.now) (act (tables_of c.args.x.now.image.now) s) in
    none-accepted p _ _ (found p _ _ _ c.find.ensures.ran (λ r b q k. search (rules, tests)) c.state_count-n.ensures) c.in-None.is
