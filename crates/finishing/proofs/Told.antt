-- What a step answers of its run's result. Assumes nothing.
use Rattle.std.specs.Prelude.{Ok, Err}
use mathlib.Core.{Path.◌≡◌, Path.◌∙◌, Bool.cond, List.List, List.◌++◌}
use Prim.Native.Nat.{ℕ, ◌-◌}
use lib.{IntN.ℤ, ListN.drop}
use Rattle.model.specs.declared.{State.State, Refusal.Refusal, Refusal.TheVariants.Blocked, Refusal.TheVariants.BlockedSpoken, Outcome.TheVariants.Ends, Outcome.TheVariants.Jumps, Outcome.TheVariants.Stops}
use Rattle.model.specs.Answers.{row, Stepped}
use Rattle.model.specs.Run.{label_words}
use Rattle.model.specs.Calls.{StepDone, moved_as}
use Rattle.actions.specs.declared.Ran.{Ran}
use Rattle.actions.specs.State.{label_of, result_of}
use Rattle.actions.proofs.Done.{blocked-is}

abbrev done : Stepped → List ℤ → List ℤ → StepDone
done answer store label = record { answer = answer; store = store; label = label }

module _ (ran : Ran) (at budget : ℕ) (store label work values : List ℤ) where
  pub told-ends : {y : Refusal} → ran.out ≡ Ends → y ≡ cond ran.run.spoken (BlockedSpoken (row at)) (Blocked (row at))
      → done (Err y) store label ≡ moved_as (result_of ran work values) at budget store label
  unfolding moved_as
  told-ends e q = rw (q ∙ blocked-is at ran.run values, e)

  pub told-stops : {y : Refusal} → ran.out ≡ Stops y → done (Err y) store label ≡ moved_as (result_of ran work values) at budget store label
  unfolding moved_as
  told-stops e = rw e

  pub told-jumps : {q : State} {m l : List ℤ} → ran.out ≡ Jumps q → m ≡ work → l ≡ label_words (label_of ran.run values) ++ drop 10 label
      → done (Ok (record { next = q; words = ran.run.words; units = budget - ran.run.left })) m l ≡ moved_as (result_of ran work values) at budget store label
  unfolding moved_as
  told-jumps e p q = rw (p, q, e)
