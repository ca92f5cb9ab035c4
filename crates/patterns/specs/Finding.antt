-- The search for the first arm that matches (01, "The step"). Assumes nothing.
use mathlib.Core.{Path.◌≡◌, Logic.◌⊎◌, Bool.true, List.List, List.[], List.◌∷◌}
use Rattle.std.specs.Prelude.{ℕ, ℤ}
use Rattle.model.specs.declared.{Outcome.TheVariants.Stops, Refusal.TheVariants.Undefined}
use Rattle.model.specs.Answers.{row}
use Rattle.model.specs.Values.{of_size}
use Rattle.model.specs.Image.{Tables, none, trailer_of, tables_of, fields_of, size_of}
use Rattle.model.specs.Rows.{arm, is_kind}
use Rattle.model.specs.Decode.{pattern_at, list_at, arms_of, action_at}
use Rattle.model.specs.Typing.{arms_of_type}
use Rattle.model.specs.Run.{matched, failed, unsure, match, St, Res, gives, stored, blocked, exec}
use Rattle.expressions.specs.Ready.{Ready}
use Rattle.patterns.specs.declared.{Found.Found, Found.TheVariants.Arm, Found.TheVariants.NoArm, Found.TheVariants.Unsure}

-- a list of arms or none, and a value of the type of their patterns
pub record Finds (s : List ℕ) (rows first : ℕ) (z : ℤ) (m : List ℤ) : Type 0 where
  pub ready : Ready s m
  pub start : rows ≡ (trailer_of s).rows
  pub list : (first ≡ none) ⊎ (is_kind (tables_of s) arm first ≡ true)
  pub type : ℕ
  pub typed : arms_of_type (tables_of s) type (arms_of (tables_of s) (action_at (tables_of s)) (list_at (tables_of s) first)) ≡ true
  pub value : of_size (tables_of s).half (size_of (tables_of s) type) z ≡ true

-- what a search finds, and the store after it
pub record Finding : Type 0 where
  pub found : Found
  pub store : List ℤ

abbrev pub finding : Found → List ℤ → Finding
finding f n = record { found = f; store = n }

-- "patterns in order, each on the store at entry": the action of the first of the arms' rows that matches
unfoldable pub find_arm : Tables → List ℕ → ℤ → List ℤ → Finding
find_arm x [] z m = finding NoArm m
find_arm x (i ∷ l) z m =
    elim (match x (pattern_at x (fields_of x i).a) z m) [
      | matched n ↦ finding (Arm (fields_of x i).b) n
      | failed ↦ find_arm x l z m
      | unsure ↦ finding Unsure m
    ]

-- what a case at row r does with what was found
abbrev pub running : Tables → Found → List ℤ → List ℕ → ℕ → St → Res
running x (Arm a) n script r s = exec x (action_at x a) script (stored n s)
running x NoArm n script r s = blocked r s
running x Unsure n script r s = gives (Stops (Undefined (row r))) s
