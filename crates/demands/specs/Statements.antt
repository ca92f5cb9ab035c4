-- The demands, said of the definitions: each is a type, and `demands` in proofs/Demands proves them all. Assumes nothing.
use mathlib.Core.{Path.◌≡◌, Bool.Bool, Bool.true, Bool.false, Bool.◌||◌, List.List, List.[], List.◌∷◌, List.◌++◌}
use Rattle.std.specs.Prelude.{ℕ, ◌^◌, ◌≤◌, ◌<◌, Ok, Err}
use lib.{Dec.eqb, IntN.ℤ, ListN.length, ListN.get_or, ListN.drop}
use Rattle.model.specs.declared.{State.State, Variable.Variable, Move.Move, Row.Row, Refusal.TheVariants.Blocked, Outcome.Outcome, Outcome.TheVariants.Ends, Outcome.TheVariants.Jumps, Outcome.TheVariants.Stops}
use Rattle.model.specs.Answers.{state, number, Stepped}
use Rattle.model.specs.Lists.{table}
use Rattle.model.specs.Bytes.{bytes_of, unsigned, word_at}
use Rattle.model.specs.Image.{Tables, tables_of}
use Rattle.model.specs.Decode.{act}
use Rattle.model.specs.Masks.{Has}
use Rattle.model.specs.Largest.{Reached, Largest, top_of, reached_of, sets_of}
use Rattle.model.specs.Trees.{Action}
use Rattle.model.specs.Speech.{well_spoken}
use Rattle.demands.specs.Common.{AreBytes}
use Rattle.demands.specs.Figures.{well_def}
use Rattle.demands.specs.Judgements.{RulesAreJudgements}
use Rattle.model.specs.Run.{Label, spoken, label_words, defined}
use Rattle.model.specs.Calls.{image_verdict, Checked, check, Started, start, slot_of_type, slot_fits, attempt, StepDone, step}
use Rattle.model.specs.Figure2.{onto, Does, cost, choices, ReadsDefined}

-- 1. Where step moves, there is a derivation of Figure 2 from the state's action and the store, with the label given, the next
-- state and the new store; its cost is the units used, its choices are the words read
pub record Transition (x : Tables) (q : State) (store : List ℤ) (script : List ℕ) (label : List ℤ) (m : Move) (d : StepDone) : Type 0 where
  pub said : Label
  pub derivation : Does x (act x q.0) store said (onto m.next) d.store
  pub reads : ReadsDefined derivation
  pub ten : d.label ≡ label_words said ++ drop 10 label
  pub units : m.units ≡ cost derivation
  pub words : table (word_at script) 0 m.words ≡ choices derivation

abbrev pub MovesAreTransitions : Type 0
MovesAreTransitions =
    (image : List ℕ) (q : State) (store : List ℤ) (script : List ℕ) (budget : ℕ) (label : List ℤ) (m : Move)
    → (step image q store script budget label).answer ≡ Ok m
    → Transition (tables_of image) q store script label m (step image q store script budget label)

-- the script read off a derivation: its choices as little-endian words
unfoldable pub script_of : List ℤ → List ℕ
script_of [] = []
script_of (z ∷ zs) = bytes_of 4 (unsigned (2 ^ 31) z) ++ script_of zs

-- 2. Every derivation of Figure 2 from a state's action and a store that passes 13 and 18, ending in a state, that reads nothing
-- undefined and costs at most 1,000,000, is step's answer for its choices as the script, words left over or not, and its cost as
-- the budget
abbrev pub TransitionsAreMoves : Type 0
TransitionsAreMoves =
    (image : List ℕ) → AreBytes image → image_verdict image ≡ Ok tt
    → (q : State) (store label : List ℤ) (said : Label) (t : State) (n : List ℤ)
    → q.0 < length (tables_of image).states → length store ≡ length (tables_of image).variables
    → ((v : ℕ) → v < length (tables_of image).variables → slot_fits (tables_of image) store v ≡ true) → 10 ≤ length label
    → (d : Does (tables_of image) (act (tables_of image) q.0) store said (onto t) n) → ReadsDefined d → cost d ≤ 1000000
    → (rest : List ℕ)
    → step image q store (script_of (choices d) ++ rest) (cost d) label
    ≡ record {
      answer = Ok (record { next = t; words = length (choices d); units = cost d });
      store = n;
      label = label_words said ++ drop 10 label;
    }

-- 3. The states and stores reached: an unrefused start, and steps that are fed the state and store last given out, whatever the
-- scripts, budgets and label buffers. (A step that refuses gives out neither.)
pub data Runs (image : List ℕ) : State → List ℤ → Type 0 where
  begun : (params store : List ℤ) → (start image params store).answer ≡ Ok tt → Runs image (state 0) (start image params store).store
  moved : {q : State} {store : List ℤ} (script : List ℕ) (budget : ℕ) (label : List ℤ) (m : Move) → Runs image q store
      → (step image q store script budget label).answer ≡ Ok m → Runs image m.next (step image q store script budget label).store

unfoldable pub one_of : ℕ → List ℕ → Bool
one_of n [] = false
one_of n (m ∷ ms) = eqb n m || one_of n ms

-- a step from there gives a move or 19, 20, 21, 23, 24 or 25
abbrev pub MayGive : Stepped → Type 0
MayGive (Ok m) = Unit
MayGive (Err y) = one_of (number y) (19 ∷ 20 ∷ 21 ∷ 23 ∷ 24 ∷ 25 ∷ []) ≡ true

-- where the run has communicated, a jump, 23, 24 or 25
abbrev pub MayEnd : Outcome → Type 0
MayEnd Ends = ⊥
MayEnd (Jumps q) = Unit
MayEnd (Stops y) = one_of (number y) (23 ∷ 24 ∷ 25 ∷ []) ≡ true

pub record Safe (image sets : List ℕ) (q : State) (store : List ℤ) : Type 0 where
  pub listed : (v : Variable) → Has (get_or (check image sets).sets q.0 0) v.0 → defined (tables_of image) store v ≡ true
  pub typed : (v : Variable) → v.0 < length (tables_of image).variables → defined (tables_of image) store v ≡ true
      → slot_of_type (tables_of image) store v.0 ≡ true
  pub gives : (script : List ℕ) (budget : ℕ) (label : List ℤ) → MayGive (step image q store script budget label).answer
  pub spoken : (script : List ℕ) (budget : ℕ) → spoken (attempt (tables_of image) q.0 store script budget).st.label ≡ true
      → MayEnd (attempt (tables_of image) q.0 store script budget).out

abbrev pub DemandThree : Type 0
DemandThree =
    (image sets : List ℕ) → AreBytes image → (check image sets).answer ≡ Ok tt → (q : State) (store : List ℤ) → Runs image q store
    → Safe image sets q store

-- 4. The sets are the largest that fit, check gives them, and the reached states are those that jumps lead to
pub record Sets (image : List ℕ) : Type 0 where
  pub largest : Largest (tables_of image) (λ s. get_or (sets_of (tables_of image)) s (top_of (tables_of image)))
  pub reached : (s : ℕ) → Has (reached_of (tables_of image)) s → Reached (tables_of image) s
  pub reaches : (s : ℕ) → Reached (tables_of image) s → Has (reached_of (tables_of image)) s
  pub given : (sets : List ℕ) → (check image sets).answer ≡ Ok tt → (s : ℕ) → s < length (tables_of image).states
      → get_or (check image sets).sets s 0 ≡ get_or (sets_of (tables_of image)) s (top_of (tables_of image))

abbrev pub SetsAreLargest : Type 0
SetsAreLargest = (image : List ℕ) → AreBytes image → image_verdict image ≡ Ok tt → Sets image

-- 5. What a call's promise says of an answer determines it, lent words too
abbrev pub AnswersAreDetermined : Type 0
AnswersAreDetermined =
    ((image sets : List ℕ) (a b : Checked) → a ≡ check image sets → b ≡ check image sets → a ≡ b)
    × ((image : List ℕ) (params store : List ℤ) (a b : Started) → a ≡ start image params store → b ≡ start image params store → a ≡ b)
    × ((image : List ℕ) (q : State) (store : List ℤ) (script : List ℕ) (budget : ℕ) (label : List ℤ) (a b : StepDone)
    → a ≡ step image q store script budget label → b ≡ step image q store script budget label → a ≡ b)

-- 6. What the promises shut out: a checker that refuses everything, one that accepts everything, a step that always gives 21, a
-- step that repeats its label, a step that reports other units than it charged
pub record ShutOut : Type 0 where
  pub refuser : ((image sets : List ℕ) → (check image sets).answer ≡ Ok tt → ⊥) → ⊥
  pub accepter : ((image sets : List ℕ) → (check image sets).answer ≡ Ok tt) → ⊥
  pub blocker : ((image : List ℕ) (q : State) (store : List ℤ) (script : List ℕ) (budget : ℕ) (label : List ℤ)
      → (r : Row) × ((step image q store script budget label).answer ≡ Err (Blocked r))) → ⊥
  pub repeater : ((image : List ℕ) (p q : State) (m n : List ℤ) (script : List ℕ) (budget : ℕ) (label : List ℤ)
      → (step image p m script budget label).label ≡ (step image q n script budget label).label) → ⊥
  pub reporter : (image : List ℕ) (q : State) (store : List ℤ) (script : List ℕ) (budget : ℕ) (label : List ℤ) (m : Move) (d : StepDone)
      → d ≡ step image q store script budget label → d.answer ≡ Ok m → Transition (tables_of image) q store script label m d

-- 7. Speech as 01 reads it is Figures 9 and 10 as printed, on every tree
abbrev pub SpeechIsFigures : Type 0
SpeechIsFigures = (x : Tables) (a : Action) → well_spoken x a ≡ well_def x a true false

pub record Demands : Type 0 where
  pub moves : MovesAreTransitions
  pub transitions : TransitionsAreMoves
  pub three : DemandThree
  pub sets : SetsAreLargest
  pub determined : AnswersAreDetermined
  pub shut_out : ShutOut
  pub speech : SpeechIsFigures
  -- 8. Refusals 8 and 9 are the report's judgements A.2 and A.1
  pub rules : RulesAreJudgements
