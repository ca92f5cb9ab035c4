-- What the promises shut out, from the starred cases; and that they determine the answers. Assumes nothing.
use Rattle.std.specs.Prelude.{Ok, Err}
use mathlib.Core.{Path.◌≡◌, Path.refl, Path.sym, Path.ap, Path.◌∙◌, Path.subst, List.List, List.[], List.◌∷◌}
use Prim.Native.Nat.{ℕ}
use native.Mathlib.Omega.{arith}
use lib.{IntN.ℤ, IntN.pos, IntN.negsuc, ListN.get_or}
use Rattle.model.specs.declared.{Refusal.TheVariants.ImageLength}
use Rattle.model.specs.Answers.{state, after, Stepped}
use Rattle.model.specs.Image.{length_fits}
use Rattle.model.specs.Calls.{image_verdict, check_verdict, check, Checked, step, StepDone}
use Rattle.model.specs.Cases.{Case, Right, AllRight, both, cases, writer, old, undefined}
use Rattle.model.specs.Starred.{starred}
use Rattle.demands.specs.Statements.{AnswersAreDetermined, MovesAreTransitions, Transition, ShutOut}

pub answers-are-determined : AnswersAreDetermined
answers-are-determined =
    (λ image sets a b p q. p ∙ sym q, λ image params store a b p q. p ∙ sym q, λ image q store script budget label a b p r. p ∙ sym r)

first : {c : Case} {cs : List Case} → AllRight (c ∷ cs) → Right c
first (both p q) = p

rest : {c : Case} {cs : List Case} → AllRight (c ∷ cs) → AllRight cs
rest (both p q) = q

-- the table writer: accepted, and its first two steps
writer-accepted : (check writer (7 ∷ 7 ∷ 7 ∷ 7 ∷ [])).answer ≡ Ok tt
unfolding cases
writer-accepted = ap (λ (c : Checked). c.answer) (first (rest starred))

first_step : StepDone
first_step = step writer (state 0) (undefined ∷ pos 2 ∷ []) [] 1000000 old

second-step : StepDone
second-step = step writer (state 1) (pos 5 ∷ pos 2 ∷ []) [] 1000000 old

first-label : get_or first_step.label 0 (pos 0) ≡ negsuc 0
unfolding cases first_step
first-label = ap (λ (d : StepDone). get_or d.label 0 (pos 0)) (first (rest (rest (rest (rest (rest starred))))))

second-label : get_or second-step.label 0 (pos 0) ≡ pos 1
unfolding cases second-step
second-label = ap (λ (d : StepDone). get_or d.label 0 (pos 0)) (first (rest (rest (rest (rest (rest (rest starred)))))))

moved-number : Stepped → ℕ
moved-number (Ok m) = 0
moved-number (Err y) = 1

first-moves : moved-number first_step.answer ≡ 0
unfolding cases first_step moved-number
first-moves = ap (λ (d : StepDone). moved-number d.answer) (first (rest (rest (rest (rest (rest starred))))))

empty-refused : (check [] []).answer ≡ Err ImageLength
unfolding check check_verdict image_verdict after length_fits
empty-refused = refl

pub shut_out_lem : MovesAreTransitions → ShutOut
unfolding first_step second-step moved-number
shut_out_lem moves = record {
  refuser = λ f. f writer (7 ∷ 7 ∷ 7 ∷ 7 ∷ []) writer-accepted;
  accepter = λ f. let e : Err ImageLength ≡ Ok tt = sym empty-refused ∙ f [] [] in let k : ◌≡◌ {A = ℕ} 0 1 = cc in omega arith;
  blocker = λ f.
      let b = f writer (state 0) (undefined ∷ pos 2 ∷ []) [] 1000000 old in
      let k : ◌≡◌ {A = ℕ} 0 1 = sym first-moves ∙ ap moved-number b.1 in
      omega arith;
  repeater = λ f.
      let e = f writer (state 0) (state 1) (undefined ∷ pos 2 ∷ []) (pos 5 ∷ pos 2 ∷ []) [] 1000000 old in
      let g : negsuc 0 ≡ pos 1 = sym first-label ∙ ap (λ (l : List ℤ). get_or l 0 (pos 0)) e ∙ second-label in
      let k : ◌≡◌ {A = ℕ} 0 1 = cc in
      omega arith;
  reporter = λ image q store script budget label m d e a.
      subst (Transition _ q store script label m) (sym e) (moves image q store script budget label m (ap (λ (y : StepDone). y.answer) (sym e) ∙ a));
}
