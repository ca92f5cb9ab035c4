-- What the run of an action asks, and what its helpers give. Assumes nothing.
use mathlib.Core.{Path.◌≡◌, Logic.◌⊎◌, Bool.true, List.List}
use Rattle.std.specs.Prelude.{ℕ, ◌≤◌, ◌<◌, Some}
use lib.{IntN.ℤ, ListN.length, ListN.get_or, Signed.mag}
use Rattle.model.specs.declared.{Outcome.Outcome, Outcome.TheVariants.Ends, Tested.Tested}
use Rattle.model.specs.Answers.{variable}
use Rattle.model.specs.Values.{half16, mark}
use Rattle.model.specs.Image.{Tables, none, int, trailer_of, tables_of, fields_of, type_of}
use Rattle.model.specs.Rows.{Kind, expression, range, action, arm, is_kind}
use Rattle.model.specs.Decode.{expression_at, list_at, arms_of, action_at}
use Rattle.model.specs.Typing.{type_of_exp, arms_of_type}
use Rattle.model.specs.Run.{test, gives, charge, and_then, assigning, at_most_high, onward}
use Rattle.expressions.specs.Operators.{value_of}
use Rattle.expressions.specs.Ready.{Ready}
use Rattle.actions.specs.declared.{Run.Run, Ran.Ran}
use Rattle.actions.specs.State.{result_of}
use Rattle.patterns.specs.Finding.{Finds}

-- an image free of 1 to 9 with its trailer, a store that passes 13 and 18, a row of a kind, and room for a label's values
pub record Running (k : Kind) (s : List ℕ) (rows : ℕ) (r : ℕ) (m values : List ℤ) : Type 0 where
  pub ready : Ready s m
  pub start : rows ≡ (trailer_of s).rows
  pub kind : is_kind (tables_of s) k r ≡ true
  pub room : 8 ≤ length values

-- the same with a list of rows of a kind, or none
pub record RunningList (k : Kind) (s : List ℕ) (rows : ℕ) (r : ℕ) (m values : List ℤ) : Type 0 where
  pub ready : Ready s m
  pub start : rows ≡ (trailer_of s).rows
  pub here : (r ≡ none) ⊎ (is_kind (tables_of s) k r ≡ true)
  pub room : 8 ≤ length values

-- the arms of the list at a row, of a value's type
pub record RunningArms (s : List ℕ) (rows : ℕ) (r : ℕ) (z : ℤ) (m values : List ℤ) : Type 0 where
  pub finds : Finds s rows r z m
  pub start : rows ≡ (trailer_of s).rows
  pub room : 8 ≤ length values

-- a case of the expression at row e and the arms at row r, of its type
pub record RunningCase (s : List ℕ) (rows : ℕ) (e r : ℕ) (m values : List ℤ) : Type 0 where
  pub subject : Running expression s rows e m values
  pub list : RunningList arm s rows r m values
  pub arms :
      arms_of_type (tables_of s) (type_of_exp (tables_of s) (expression_at (tables_of s) e))
      (arms_of (tables_of s) (action_at (tables_of s)) (list_at (tables_of s) r)) ≡ true

-- a while at row r
pub record RunningLoop (s : List ℕ) (rows : ℕ) (r e a : ℕ) (m values : List ℤ) : Type 0 where
  pub body : Running action s rows a m values
  pub test : is_kind (tables_of s) expression e ≡ true
  pub row : r < none

-- a for at row r, over the range at row g
pub record RunningFor (s : List ℕ) (rows : ℕ) (r g a : ℕ) (m values : List ℤ) : Type 0 where
  pub body : Running action s rows a m values
  pub range : is_kind (tables_of s) range g ≡ true
  pub typed : type_of (tables_of s) (variable (fields_of (tables_of s) g).a) ≡ int
  pub row : r < none

-- one unit for a further test, where q ended
pub record Turned (r : ℕ) (q p : Ran) : Type 0 where
  pub does : (r ≡ none → ⊥) → (m values : List ℤ) → result_of p m values ≡ and_then (result_of q m values) (λ u. charge r u (gives Ends))

-- the slot of v; after a body that ended it holds an int, if it is defined
pub record SlotOf (o : Outcome) (v : ℕ) (m : List ℤ) : Type 0 where
  pub inside : v < length m
  pub int : o ≡ Ends → (z : ℤ) → value_of (get_or m v (mark half16)) ≡ Some z → mag z < 32768

-- V := V + 1 from the store m to the store n, after a body that ended
pub record Onward (r v : ℕ) (o : Outcome) (m : List ℤ) (p : Outcome) (n : List ℤ) : Type 0 where
  pub does : (x : Tables) → x.half ≡ half16 → (run : Run) (values : List ℤ)
      → result_of (record { out = p; run = run }) n values ≡ and_then (result_of (record { out = o; run = run }) m values) (assigning x (onward (variable v)) r)

-- V <= high on the store m
pub record AtMost (v : ℕ) (high : ℤ) (m : List ℤ) (t : Tested) : Type 0 where
  pub is : (x : Tables) → x.half ≡ half16 → t ≡ test x (at_most_high (variable v) high) m
