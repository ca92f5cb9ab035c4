-- What a step's answer says of the store and the label after it. Assumes nothing.
use Rattle.std.specs.Prelude.{Ok, Err}
use Rattle.model.specs.Answers.{Verdict}
use mathlib.Core.{Path.◌≡◌, Path.refl, Path.sym, Path.ap, Path.◌∙◌, List.List, List.◌++◌}
use Prim.Native.Nat.{ℕ, ◌-◌, ◌^◌, ◌<◌}
use native.Mathlib.Omega.{arith}
use lib.{IntN.ℤ, ListN.drop}
use Rattle.model.specs.declared.{State.State, Move.Move, Refusal.Refusal, Outcome.Outcome, Outcome.TheVariants.Ends, Outcome.TheVariants.Jumps, Outcome.TheVariants.Stops}
use Rattle.model.specs.Image.{tables_of}
use Rattle.model.specs.Decode.{act}
use Rattle.model.specs.Run.{ε, label_words, St, Res, gives, blocked_at}
use Rattle.model.specs.Calls.{image_verdict, step_verdict, attempt, StepDone, stayed, moved_as, stepped_as, step}
use Rattle.model.proofs.Order.{after_both}
use Rattle.image.proofs.Laid.{laid, rows-count}
use Rattle.demands.specs.Common.{AreBytes}
use Rattle.demands.proofs.Whole.{whole}
use Rattle.machine.proofs.Words.{exec-words, reads-action}
use Rattle.stepping.specs.Stepping.{run_verdict, ran}
use Rattle.image.proofs.Accepted.{accepted-located}
use Rattle.stepping.proofs.Steps.{left_over}
use Rattle.stepping.proofs.Trying.{root-of}

-- by how a run ended
as-out : (o : Outcome) (u : St) (at budget : ℕ) (m label : List ℤ) (y : Refusal) → (moved_as (gives o u) at budget m label).answer ≡ Err y
    → moved_as (gives o u) at budget m label ≡ stayed y m label
unfolding moved_as
as-out Ends u at budget m label y e = let k : blocked_at at u.label ≡ y = cc in rw k
as-out (Jumps q) u at budget m label y e = let k : ◌≡◌ {A = ℕ} 0 1 = cc in absurd (omega arith)
as-out (Stops z) u at budget m label y e = let k : z ≡ y = cc in rw k

same_out : (o : Outcome) (u : St) (at budget : ℕ) (m l k : List ℤ) → (moved_as (gives o u) at budget m l).answer ≡ (moved_as (gives o u) at budget m k).answer
unfolding moved_as
same_out Ends u at budget m l k = refl
same_out (Jumps q) u at budget m l k = refl
same_out (Stops z) u at budget m l k = refl

-- a move
pub record IsMove (u : St) (m label : List ℤ) (k : Move) (d : StepDone) : Type 0 where
  pub words : k.words ≡ u.words
  pub store : d.store ≡ u.store
  pub says : d.label ≡ label_words u.label ++ drop 10 label

move-out : (o : Outcome) (u : St) (at budget : ℕ) (m label : List ℤ) (k : Move) → (moved_as (gives o u) at budget m label).answer ≡ Ok k
    → IsMove u m label k (moved_as (gives o u) at budget m label)
unfolding moved_as
move-out Ends u at budget m label k e = let z : ◌≡◌ {A = ℕ} 0 1 = cc in absurd (omega arith)
move-out (Jumps q) u at budget m label k e =
    let j : ◌≡◌ {A = Move} (record { next = q; words = u.words; units = budget - u.left }) k = cc in
    record { words = ap (λ (n : Move). n.words) (sym j); store = refl; says = refl }
move-out (Stops z) u at budget m label k e = let n : ◌≡◌ {A = ℕ} 0 1 = cc in absurd (omega arith)

module _ (s : List ℕ) (q : State) (m : List ℤ) (script : List ℕ) (budget : ℕ) (label : List ℤ) where
  run : Res
  run = attempt (tables_of s) q.0 m script budget

  by-verdict : (v : Verdict) → step_verdict s q m budget label ≡ v → step s q m script budget label ≡ stepped_as v (ran (tables_of s) q m script budget label) m label
  unfolding step
  by-verdict v e = ap (λ (u : Verdict). stepped_as u (ran (tables_of s) q m script budget label) m label) e

  pub not-moved : (y : Refusal) → (step s q m script budget label).answer ≡ Err y → step s q m script budget label ≡ stayed y m label
  unfolding run
  not-moved y e = go (step_verdict s q m budget label) refl
    where
      go : (v : Verdict) → step_verdict s q m budget label ≡ v → step s q m script budget label ≡ stayed y m label
      go (Ok tt) f =
          let b = by-verdict (Ok tt) f in
          b ∙ as-out run.out run.st _ budget m label y (ap (λ (d : StepDone). d.answer) (sym b) ∙ e)
      go (Err z) f =
          let b = by-verdict (Err z) f in
          let g : Err z ≡ Err y = ap (λ (d : StepDone). d.answer) (sym b) ∙ e in
          let k : z ≡ y = cc in
          b ∙ rw k

  pub record Moves (k : Move) : Type 0 where
    pub passed : step_verdict s q m budget label ≡ Ok tt
    pub move : IsMove (attempt (tables_of s) q.0 m script budget).st m label k (step s q m script budget label)

  pub moves : (k : Move) → (step s q m script budget label).answer ≡ Ok k → Moves k
  unfolding run
  moves k e = go (step_verdict s q m budget label) refl
    where
      go : (v : Verdict) → step_verdict s q m budget label ≡ v → Moves k
      go (Ok tt) f =
          let b = by-verdict (Ok tt) f in
          record { passed = f; move = rw b (move-out run.out run.st _ budget m label k (ap (λ (d : StepDone). d.answer) (sym b) ∙ e)) }
      go (Err z) f =
          let b = by-verdict (Err z) f in
          let g : Err z ≡ Ok k = ap (λ (d : StepDone). d.answer) (sym b) ∙ e in
          let n : ◌≡◌ {A = ℕ} 0 1 = cc in absurd (omega arith)

  -- the words of a move are few
  pub moved-words : AreBytes s → (k : Move) → (step s q m script budget label).answer ≡ Ok k → k.words < 2 ^ 23
  unfolding step_verdict attempt
  moved-words b k e =
      let v = moves k e in
      let a = after_both (image_verdict s) (run_verdict (tables_of s) q m budget label) v.passed in
      let l = accepted-located refl a.0 in
      let f = left_over s q m budget label a.1 in
      let w = exec-words (tables_of s) (act (tables_of s) q.0) script (record { store = m; words = 0; left = budget; label = ε })
      (reads-action (tables_of s) (whole s b a.0) (omega (arith, rows-count l, (laid l).rows_most)) _ (root-of s a.0 q.0 f.state)) in
      omega (arith, w, v.move.words, f.few)

-- the label's buffer decides no answer, where it is long enough
pub same_answer : (s : List ℕ) (q p : State) (m k : List ℤ) (script : List ℕ) (budget : ℕ) (label ten : List ℤ) → step_verdict s p k budget ten ≡ step_verdict s q m budget label
    → (step_verdict s q m budget label ≡ Ok tt → (k ≡ m) × (p ≡ q)) → (step s p k script budget ten).answer ≡ (step s q m script budget label).answer
same_answer s q p m k script budget label ten e h = go (step_verdict s q m budget label) refl
  where
    go : (v : Verdict) → step_verdict s q m budget label ≡ v → (step s p k script budget ten).answer ≡ (step s q m script budget label).answer
    go (Ok tt) f =
        let w = h f in
        let r = attempt (tables_of s) q.0 m script budget in
        ap (λ (d : StepDone). d.answer) (by-verdict s p k script budget ten (Ok tt) (e ∙ f)) ∙ rw (w.0, w.1) (same_out r.out r.st _ budget m ten label)
        ∙ ap (λ (d : StepDone). d.answer) (sym (by-verdict s q m script budget label (Ok tt) f))
    go (Err y) f =
        ap (λ (d : StepDone). d.answer) (by-verdict s p k script budget ten (Err y) (e ∙ f)) ∙ ap (λ (d : StepDone). d.answer) (sym (by-verdict s q m script budget label (Err y) f))
