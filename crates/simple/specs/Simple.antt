-- An action that holds no other (01, "The image": codes 48 to 53). Assumes nothing.
use mathlib.Core.{Path.◌≡◌, Logic.◌⊎◌, Bool.true, List.List}
use Rattle.std.specs.Prelude.{ℕ, ◌≤◌, ◌<◌}
use lib.{IntN.ℤ, ListN.length}
use Rattle.model.specs.declared.{Image.Image}
use Rattle.model.specs.Image.{trailer_of, tables_of, fields_of}
use Rattle.model.specs.Rows.{action, is_kind}
use Rattle.model.specs.Run.{St, Res}
use Rattle.expressions.specs.Ready.{Ready}
use Rattle.actions.specs.declared.{Run.Run}
use Rattle.actions.specs.State.{Silent}
use Rattle.told.specs.Told.{outcome_of, Told}

-- of an image and a store that a step runs, with room for a label's values
pub record Simple (s : List ℕ) (rows r : ℕ) (m values : List ℤ) : Type 0 where
  pub ready : Ready s m
  pub start : rows ≡ (trailer_of s).rows
  pub kind : is_kind (tables_of s) action r ≡ true
  pub code : (fields_of (tables_of s) r).code < 54
  pub room : 8 ≤ length values

-- an any or a communication
pub record Worded (s : List ℕ) (i : Image) (r : ℕ) (m values : List ℤ) : Type 0 where
  pub ready : Ready s m
  pub trailer : i ≡ trailer_of s
  pub kind : is_kind (tables_of s) action r ≡ true
  pub code : ((fields_of (tables_of s) r).code ≡ 50) ⊎ ((fields_of (tables_of s) r).code ≡ 52)
  pub room : 8 ≤ length values

-- an assignment, of the items from the row f on
pub record Assigning (s : List ℕ) (rows r f : ℕ) (m : List ℤ) : Type 0 where
  pub ready : Ready s m
  pub start : rows ≡ (trailer_of s).rows
  pub kind : is_kind (tables_of s) action r ≡ true
  pub code : (fields_of (tables_of s) r).code ≡ 49
  pub first : f ≡ (fields_of (tables_of s) r).a

-- what one told as n does from the store m to the store j, whatever the run
pub record Assigned (n : ℕ) (m j : List ℤ) (f : St → Res) : Type 0 where
  pub told : Told n
  pub does : (run : Run) → Silent (record { out = outcome_of n; run = run }) run m j f
