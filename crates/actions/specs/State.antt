-- What a run threads in the code, and the state that it stands for (01, "The step"). Assumes nothing.
use mathlib.Core.{Path.◌≡◌, Bool.cond, List.List}
use Rattle.std.specs.Prelude.{ℕ}
use lib.{IntN.ℤ, ListN.take}
use Rattle.model.specs.Answers.{gate}
use Rattle.model.specs.Run.{Label, ε, on, St, Res}
use Rattle.actions.specs.declared.{Run.Run, Ran.Ran}

-- the label said so far: its gate, and its values in their buffer
abbrev pub label_of : Run → List ℤ → Label
label_of run values = cond run.spoken (on (gate run.gate) (take run.count values)) ε

abbrev pub state_of : Run → List ℤ → List ℤ → St
state_of run m values = record { store = m; words = run.words; left = run.left; label = label_of run values }

abbrev pub result_of : Ran → List ℤ → List ℤ → Res
result_of r m values = record { out = r.out; st = state_of r.run m values }

-- a run with so many words read
abbrev pub run_at : Run → ℕ → Run
run_at run n = record { words = n; left = run.left; spoken = run.spoken; gate = run.gate; count = run.count }

-- a run from the store m to the store n that says nothing does what f does, whatever the label's buffer holds
pub record Silent (q : Ran) (run : Run) (m n : List ℤ) (f : St → Res) : Type 0 where
  pub does : (values : List ℤ) → result_of q n values ≡ f (state_of run m values)
