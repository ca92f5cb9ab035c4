-- The three calls (01, "What we are building", "Numbers given instead"): for every input the answer and every lent word
-- afterwards. Assumes nothing.
use mathlib.Core.{Bool.Bool, Bool.true, Bool.false, Bool.not, Bool.◌||◌, List.List, List.[], List.◌∷◌, List.◌++◌}
use Rattle.std.specs.Prelude.{ℕ, ◌+◌, ◌-◌, Ok, Err}
use lib.{Dec.eqb, Dec.leb, Dec.ltb, IntN.ℤ, ListN.length, ListN.get_or, ListN.drop}
use Rattle.model.specs.declared.{State.State, Tested.TheVariants.Holds, Tested.TheVariants.Fails, Tested.TheVariants.Unsure, Refusal.Refusal, Refusal.TheVariants.ImageLength, Refusal.TheVariants.MarkOrLength, Refusal.TheVariants.Starts, Refusal.TheVariants.Entries, Refusal.TheVariants.Malformed, Refusal.TheVariants.NoAction, Refusal.TheVariants.NoCondition, Refusal.TheVariants.NotNamedOnce, Refusal.TheVariants.Typing, Refusal.TheVariants.Binding, Refusal.TheVariants.SetsShort, Refusal.TheVariants.Initialisation, Refusal.TheVariants.Speech, Refusal.TheVariants.StoreLength, Refusal.TheVariants.ParameterCount, Refusal.TheVariants.ParameterValue, Refusal.TheVariants.ConditionFalse, Refusal.TheVariants.NoState, Refusal.TheVariants.SlotValue, Refusal.TheVariants.LabelShort, Refusal.TheVariants.BudgetOver, Outcome.TheVariants.Ends, Outcome.TheVariants.Jumps, Outcome.TheVariants.Stops}
use Rattle.model.specs.Limits.{limits}
use Rattle.model.specs.Answers.{state, variable, row, after, unless, each, Verdict, Stepped}
use Rattle.model.specs.Values.{mark, same, of_size}
use Rattle.model.specs.Image.{Tables, Entry, none, length_fits, marked, trailer_of, starts_fit, tables_of, entries_right, size_of, entry_of, type_of}
use Rattle.model.specs.Rows.{action, expression, formed, is_root, named_once}
use Rattle.model.specs.Decode.{act, initial}
use Rattle.model.specs.Typing.{typed}
use Rattle.model.specs.Binding.{bound}
use Rattle.model.specs.Largest.{reached_of, sets_of, initialised}
use Rattle.model.specs.Speech.{well_spoken}
use Rattle.model.specs.Run.{slot, ε, label_words, Res, blocked_at, test, exec}

-- 5 to 7: the rows
unfoldable pub rows_verdict : Tables → Verdict
rows_verdict x =
    after (each (formed x) (length x.rows) (λ r. Malformed (row r)))
    (after (each (λ s. is_root x action (get_or x.states s none)) (length x.states) (λ s. NoAction (state s)))
    (after (unless (is_root x expression x.condition) (NoCondition (length x.states)))
    (each (named_once x) (length x.rows) (λ r. NotNamedOnce (row r)))))

-- 8 and 9: typing, then binding
unfoldable pub rules_verdict : Tables → Verdict
rules_verdict x =
    after (each (typed x) (length x.rows) (λ r. Typing (row r)))
    (each (bound x) (length x.rows) (λ r. Binding (row r)))

-- 1 to 9: what every call refuses first
unfoldable pub image_verdict : List ℕ → Verdict
image_verdict s =
    after (unless (length_fits s) ImageLength)
    (after (unless (marked s) MarkOrLength)
    (after (unless (starts_fit (trailer_of s)) Starts)
    (after (unless (entries_right (tables_of s)) Entries)
    (after (rows_verdict (tables_of s))
    (rules_verdict (tables_of s))))))

-- 11 and 12: the sets and speech, at each state
unfoldable pub flow_verdict : Tables → Verdict
flow_verdict x =
    after (each (initialised x (reached_of x) (sets_of x)) (length x.states) (λ s. Initialisation (state s)))
    (each (λ s. well_spoken x (act x s)) (length x.states) (λ s. Speech (state s)))

-- "Check: 1–12", with room for so many sets
unfoldable pub check_verdict : List ℕ → ℕ → Verdict
check_verdict s room =
    after (image_verdict s)
    (after (unless (leb (length (tables_of s).states) room) SetsShort)
    (flow_verdict (tables_of s)))

-- what check gives and the sets buffer after it
pub record Checked : Type 0 where
  pub answer : Verdict
  pub sets : List ℕ

abbrev pub checked_as : Verdict → List ℕ → List ℕ → Checked
checked_as (Ok _) masks sets = record { answer = Ok tt; sets = masks ++ drop (length masks) sets }
checked_as (Err y) masks sets = record { answer = Err y; sets = sets }

-- check: "entry s holds the mask of variables surely defined on entering state s; later entries keep their content"
unfoldable pub check : List ℕ → List ℕ → Checked
check s sets = checked_as (check_verdict s (length sets)) (sets_of (tables_of s)) sets

-- the number of parameters
unfoldable pub parameter_count : List Entry → ℕ
parameter_count [] = 0
parameter_count (e ∷ es) = e.parameter + parameter_count es

-- "The store then holds the parameters, all other variables undefined": values in variable order
unfoldable pub start_store : ℕ → List Entry → List ℤ → List ℤ
start_store h [] zs = []
start_store h (e ∷ es) [] = mark h ∷ start_store h es []
start_store h (e ∷ es) (z ∷ zs) =
    elim (eqb e.parameter 1) [ true ↦ z ∷ start_store h es zs | false ↦ mark h ∷ start_store h es (z ∷ zs) ]

abbrev pub started : Tables → List ℤ → List ℤ
started x params = start_store x.half x.variables params

-- a slot's content is a value of its variable's type
unfoldable pub slot_of_type : Tables → List ℤ → ℕ → Bool
slot_of_type x m v = of_size x.half (size_of x (type_of x (variable v))) (slot x m (variable v))

abbrev pub is_parameter : Tables → ℕ → Bool
is_parameter x v = eqb (entry_of x (variable v)).parameter 1

-- the initial condition reads parameters only (9), so Unsure is never met
abbrev pub holds : Tables → List ℤ → Bool
holds x m = elim (test x (initial x) m) [ Holds ↦ true | Fails ↦ false | Unsure ↦ false ]

-- "Start: 1–9, 13–16"
unfoldable pub start_verdict : List ℕ → List ℤ → List ℤ → Verdict
start_verdict s params store =
    let x = tables_of s in
    let m = started x params in
    after (image_verdict s)
    (after (unless (eqb (length store) (length x.variables)) StoreLength)
    (after (unless (eqb (length params) (parameter_count x.variables)) ParameterCount)
    (after (each (λ v. not (is_parameter x v) || slot_of_type x m v) (length x.variables) (λ v. ParameterValue (variable v)))
    (unless (holds x m) ConditionFalse))))

-- what start gives and the store after it
pub record Started : Type 0 where
  pub answer : Verdict
  pub store : List ℤ

abbrev pub started_as : Verdict → List ℤ → List ℤ → Started
started_as (Ok _) m store = record { answer = Ok tt; store = m }
started_as (Err y) m store = record { answer = Err y; store = store }

unfoldable pub start : List ℕ → List ℤ → List ℤ → Started
start s params store = started_as (start_verdict s params store) (started (tables_of s) params) store

-- 18: a slot is undefined or of its type
unfoldable pub slot_fits : Tables → List ℤ → ℕ → Bool
slot_fits x m v = same (slot x m (variable v)) (mark x.half) || slot_of_type x m v

-- "Step: 1–9, 17, 13, 18, 19, 20, then the run"
unfoldable pub step_verdict : List ℕ → State → List ℤ → ℕ → List ℤ → Verdict
step_verdict s q store budget label =
    let x = tables_of s in
    after (image_verdict s)
    (after (unless (ltb q.0 (length x.states)) NoState)
    (after (unless (eqb (length store) (length x.variables)) StoreLength)
    (after (each (slot_fits x store) (length x.variables) (λ v. SlotValue (variable v)))
    (after (unless (leb limits.label (length label)) LabelShort)
    (unless (leb budget limits.budget) BudgetOver)))))

-- the run of a state's action, from nothing read, nothing used and nothing said
unfoldable pub attempt : Tables → ℕ → List ℤ → List ℕ → ℕ → Res
attempt x q store script budget = exec x (act x q) script (record { store = store; words = 0; left = budget; label = ε })

-- what step gives, and the store and the label buffer after it
pub record StepDone : Type 0 where
  pub answer : Stepped
  pub store : List ℤ
  pub label : List ℤ

abbrev pub stayed : Refusal → List ℤ → List ℤ → StepDone
stayed y store label = record { answer = Err y; store = store; label = label }

-- "If it moves: next state, words read, units used, store, and ten label words. Later label words stay"; "The end of an
-- action without a jump is 21 or 26 at the state's row"
unfoldable pub moved_as : Res → ℕ → ℕ → List ℤ → List ℤ → StepDone
moved_as r at budget store label =
    elim r.out [
      | Ends ↦ stayed (blocked_at at r.st.label) store label
      | Jumps q ↦ record {
        answer = Ok (record { next = q; words = r.st.words; units = budget - r.st.left });
        store = r.st.store;
        label = label_words r.st.label ++ drop limits.label label;
      }
      | Stops y ↦ stayed y store label
    ]

abbrev pub stepped_as : Verdict → StepDone → List ℤ → List ℤ → StepDone
stepped_as (Ok _) done store label = done
stepped_as (Err y) done store label = stayed y store label

unfoldable pub step : List ℕ → State → List ℤ → List ℕ → ℕ → List ℤ → StepDone
step s q store script budget label =
    let x = tables_of s in
    stepped_as (step_verdict s q store budget label)
    (moved_as (attempt x q.0 store script budget) (get_or x.states q.0 none) budget store label) store label
