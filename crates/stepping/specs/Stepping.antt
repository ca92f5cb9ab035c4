-- A step's refusals after 1 to 9, and what its functions ask. Assumes nothing.
use mathlib.Core.{Path.◌≡◌, List.List}
use Rattle.std.specs.Prelude.{ℕ, ◌≤◌, ◌<◌, Ok}
use lib.{Dec.eqb, Dec.leb, Dec.ltb, IntN.ℤ, ListN.length, ListN.get_or}
use Rattle.model.specs.declared.{Image.Image, State.State, Refusal.TheVariants.StoreLength, Refusal.TheVariants.NoState, Refusal.TheVariants.SlotValue, Refusal.TheVariants.LabelShort, Refusal.TheVariants.BudgetOver}
use Rattle.model.specs.Limits.{limits}
use Rattle.model.specs.Answers.{variable, after, unless, each, Verdict}
use Rattle.model.specs.Image.{Tables, none, tables_of}
use Rattle.model.specs.Calls.{slot_fits, StepDone, moved_as, attempt}
use Rattle.model.specs.Run.{Res}
use Rattle.expressions.specs.Ready.{Ready}
use Rattle.actions.specs.declared.{Ran.Ran}
use Rattle.actions.specs.State.{result_of}
use Rattle.stages.specs.Judging.{Cleared}

-- an image free of 1 to 9, and a store with a slot for each variable
pub record Slotted (s : List ℕ) (i : Image) (m : List ℤ) : Type 0 where
  pub cleared : Cleared s i
  pub size : length m ≡ length (tables_of s).variables

-- and a slot of it
pub record SlotIn (s : List ℕ) (i : Image) (m : List ℤ) (v : ℕ) : Type 0 where
  pub slotted : Slotted s i m
  pub inside : v < length m

-- 18
abbrev pub slots_verdict : Tables → List ℤ → Verdict
slots_verdict x m = each (slot_fits x m) (length x.variables) (λ v. SlotValue (variable v))

-- 19, 20
abbrev pub room_verdict : ℕ → List ℤ → Verdict
room_verdict budget label = after (unless (leb limits.label (length label)) LabelShort) (unless (leb budget limits.budget) BudgetOver)

-- "17, 13, 18, 19, 20, then the run"
abbrev pub run_verdict : Tables → State → List ℤ → ℕ → List ℤ → Verdict
run_verdict x q store budget label =
    after (unless (ltb q.0 (length x.states)) NoState)
    (after (unless (eqb (length store) (length x.variables)) StoreLength)
    (after (slots_verdict x store) (room_verdict budget label)))

-- the run, once nothing is refused
abbrev pub ran : Tables → State → List ℤ → List ℕ → ℕ → List ℤ → StepDone
ran x q store script budget label = moved_as (attempt x q.0 store script budget) (get_or x.states q.0 none) budget store label

-- a step that runs, with a working copy of its store and room for a label's values
pub record Trying (s : List ℕ) (i : Image) (q : ℕ) (m values : List ℤ) (budget : ℕ) : Type 0 where
  pub cleared : Cleared s i
  pub ready : Ready s m
  pub state : q < length (tables_of s).states
  pub room : length values ≡ 8
  pub few : budget ≤ 1000000

-- what an attempt leaves, in slices as long as they were: the store in j, the label's values in u
pub record Tried (p : Ran) (m j v u : List ℤ) (q : Res) : Type 0 where
  pub result : result_of p j u ≡ q
  pub store : length j ≡ length m
  pub values : length u ≡ length v

-- a step that nothing refuses, with a working copy and room for a label's values
pub record Steps (s : List ℕ) (i : Image) (q : State) (store : List ℤ) (budget : ℕ) (label work values : List ℤ) : Type 0 where
  pub cleared : Cleared s i
  pub passed : run_verdict (tables_of s) q store budget label ≡ Ok tt
  pub copy : length work ≡ length store
  pub room : length values ≡ 8

-- the same without them
pub record Runs (s : List ℕ) (i : Image) (q : State) (store : List ℤ) (budget : ℕ) (label : List ℤ) : Type 0 where
  pub cleared : Cleared s i
  pub passed : run_verdict (tables_of s) q store budget label ≡ Ok tt
