-- The run's refusals, said of step: which they are, that there is one way a run can go, and which answers are final. Assumes nothing.
use mathlib.Core.{Path.◌≡◌, List.List, List.[], List.◌++◌}
use Rattle.std.specs.Prelude.{ℕ, ◌+◌, ◌≤◌, Ok, Err}
use lib.{IntN.ℤ, ListN.get_or}
use Rattle.model.specs.declared.{State.State, Row.Row, Refusal.Refusal, Refusal.TheVariants.ScriptEnded, Refusal.TheVariants.BudgetSpent, Outcome.Outcome, Outcome.TheVariants.Ends, Outcome.TheVariants.Jumps, Outcome.TheVariants.Stops}
use Rattle.model.specs.Image.{Tables, none, tables_of}
use Rattle.model.specs.Trees.{Action}
use Rattle.model.specs.Decode.{act}
use Rattle.model.specs.Run.{ε}
use Rattle.model.specs.Calls.{step_verdict, step}
use Rattle.model.specs.Figure2.{Next, onto, ended}
use Rattle.demands.specs.Common.{AreBytes}
use Rattle.demands.specs.Halts.{Conf, conf, Went, Blocks, entering, Halts, words_from}

-- nothing read, nothing paid, nothing said
abbrev pub begins : List ℤ → List ℕ → ℕ → Conf
begins store script budget = conf store (words_from script 0) budget ε

-- a state's action halts; or "The end of an action without a jump is 21 or 26 at the state's row"
pub data Refuses (x : Tables) (q : ℕ) (s : Conf) : Refusal → Type 0 where
  halts : {y : Refusal} → Halts x (entering (act x q)) s y → Refuses x q s y
  no_jump : {t : Conf} {y : Refusal} → Went x (act x q) s ended t → Blocks (get_or x.states q none) t.label y → Refuses x q s y

-- 21 to 27: where the call is not refused before the run, step refuses with y exactly where the rules do; and nothing lent changes
pub record RefusalsAreRules : Type 0 where
  pub refused : (image : List ℕ) → AreBytes image → (q : State) (store : List ℤ) (script : List ℕ) (budget : ℕ) (label : List ℤ) (y : Refusal)
      → step_verdict image q store budget label ≡ Ok tt → (step image q store script budget label).answer ≡ Err y
      → Refuses (tables_of image) q.0 (begins store script budget) y
  pub refuses : (image : List ℕ) → AreBytes image → (q : State) (store : List ℤ) (script : List ℕ) (budget : ℕ) (label : List ℤ) (y : Refusal)
      → step_verdict image q store budget label ≡ Ok tt → Refuses (tables_of image) q.0 (begins store script budget) y
      → step image q store script budget label ≡ record { answer = Err y; store = store; label = label }

-- an action moves, or ends without a jump, or halts
pub data Fate (x : Tables) (a : Action) (s : Conf) : Type 0 where
  moves : {q : State} {t : Conf} → Went x a s (onto q) t → Fate x a s
  ends : {t : Conf} → Went x a s ended t → Fate x a s
  stops : {y : Refusal} → Halts x (entering a) s y → Fate x a s

abbrev pub told : {x : Tables} {a : Action} {s : Conf} → Fate x a s → Outcome
told (moves {q} w) = Jumps q
told (ends w) = Ends
told (stops {y} h) = Stops y

-- one of the three, and no two that differ; what went by a derivation went to one place
pub record OneFate : Type 0 where
  pub fate : (image : List ℕ) → AreBytes image → (q : State) (store : List ℤ) (script : List ℕ) (budget : ℕ) (label : List ℤ)
      → step_verdict image q store budget label ≡ Ok tt → Fate (tables_of image) (act (tables_of image) q.0) (begins store script budget)
  pub only : (image : List ℕ) → AreBytes image → (q : State) (store : List ℤ) (script : List ℕ) (budget : ℕ) (label : List ℤ)
      → step_verdict image q store budget label ≡ Ok tt
      → (f g : Fate (tables_of image) (act (tables_of image) q.0) (begins store script budget)) → told f ≡ told g
  pub once : (image : List ℕ) → AreBytes image → (q : State) (store : List ℤ) (script : List ℕ) (budget : ℕ) (label : List ℤ)
      → step_verdict image q store budget label ≡ Ok tt → (o p : Next) (t u : Conf)
      → Went (tables_of image) (act (tables_of image) q.0) (begins store script budget) o t
      → Went (tables_of image) (act (tables_of image) q.0) (begins store script budget) p u → (o ≡ p) × (t ≡ u)

-- final or not yet: with a longer script and a larger budget step gives the same, all of it, but that more words may change "script
-- ended" and more units "budget spent"
abbrev pub AnswersKeep : Type 0
AnswersKeep =
    (image : List ℕ) → AreBytes image → (q : State) (store : List ℤ) (script bytes : List ℕ) (budget more : ℕ) (label : List ℤ)
    → budget + more ≤ 1000000
    → ((r : Row) → (step image q store script budget label).answer ≡ Err (ScriptEnded r) → bytes ≡ [])
    → ((r : Row) → (step image q store script budget label).answer ≡ Err (BudgetSpent r) → more ≡ 0)
    → step image q store (script ++ bytes) (budget + more) label ≡ step image q store script budget label
