-- What the run of an action hands on: its state, and how it ended as a number. Assumes nothing.
use mathlib.Core.{Path.◌≡◌, Bool.cond, List.List}
use Rattle.std.specs.Prelude.{ℕ, ◌+◌, ◌-◌, ◌*◌, ◌/◌, ◌%◌, ◌≤◌}
use lib.{Dec.eqb, Dec.ltb, IntN.ℤ, ListN.length}
use Rattle.model.specs.declared.{Row.Row, Refusal.Refusal, Refusal.TheVariants.Blocked, Refusal.TheVariants.Undefined, Refusal.TheVariants.ScriptEnded, Refusal.TheVariants.WordOutOfRange, Refusal.TheVariants.BudgetSpent, Refusal.TheVariants.BlockedSpoken, Refusal.TheVariants.SecondCommunication, Outcome.Outcome, Outcome.TheVariants.Ends, Outcome.TheVariants.Jumps, Outcome.TheVariants.Stops}
use Rattle.model.specs.Answers.{state, row, number, place}
use Rattle.model.specs.Run.{Res}
use Rattle.actions.specs.declared.{Run.Run, Ran.Ran}
use Rattle.actions.specs.State.{result_of}

-- a run with one unit less
abbrev pub charged : Run → Run
charged run = record { words = run.words; left = run.left - 1; spoken = run.spoken; gate = run.gate; count = run.count }

-- 21 to 27, at a row
unfoldable pub refusal_of : ℕ → Row → Refusal
refusal_of n r =
    cond (eqb n 21) (Blocked r)
    (cond (eqb n 22) (Undefined r)
    (cond (eqb n 23) (ScriptEnded r)
    (cond (eqb n 24) (WordOutOfRange r)
    (cond (eqb n 25) (BudgetSpent r) (cond (eqb n 26) (BlockedSpoken r) (SecondCommunication r))))))

-- 0 where it ended, q + 1 where it jumps to q, else 131,072 times a refusal's number and its place
unfoldable pub outcome_of : ℕ → Outcome
outcome_of n =
    cond (eqb n 0) Ends
    (cond (ltb n 131072) (Jumps (state ((n - 1) % 65536))) (Stops (refusal_of (n / 131072) (row (n % 65536)))))

-- and its number
unfoldable pub told_of : Outcome → ℕ
told_of Ends = 0
told_of (Jumps q) = 1 + q.0
told_of (Stops y) = number y * 131072 + place y

-- so that it can be read back
pub record Tells (n : ℕ) (o : Outcome) : Type 0 where
  pub told : n ≡ told_of o
  pub outcome : outcome_of n ≡ o

abbrev pub ran_of : ℕ → Run → Ran
ran_of n run = record { out = outcome_of n; run = run }

-- a refusal of a run
pub record OfRun (o : Outcome) : Type 0 where
  pub late : (y : Refusal) → o ≡ Stops y → 21 ≤ number y

-- a number that tells an outcome as told_of does
abbrev pub Told : ℕ → Type 0
Told n = n ≡ told_of (outcome_of n)

-- what a run told as n leaves, each list as long as it was: its state run, the store in j, the label's values in u
pub record Leaves (n : ℕ) (run : Run) (m j v u : List ℤ) (q : Res) : Type 0 where
  pub told : Told n
  pub result : result_of (ran_of n run) j u ≡ q
  pub store : length j ≡ length m
  pub values : length u ≡ length v
