-- Items of a vector, and an assignment by them. Assumes nothing.
use mathlib.Core.{Path.◌≡◌, Logic.◌⊎◌, Bool.Bool, Bool.true, Bool.false, List.List, List.[], List.◌∷◌}
use Rattle.std.specs.Prelude.{ℕ, ℤ, Some, None}
use Rattle.model.specs.Image.{Tables, none, trailer_of, tables_of}
use Rattle.model.specs.Rows.{Kind, is_kind}
use Rattle.model.specs.Trees.{Gets}
use Rattle.model.specs.Run.{store, eval}
use Rattle.expressions.specs.Ready.{Ready}

-- a list of rows of a kind, or no row, of an image and a store that a step runs
pub record Items (k : Kind) (s : List ℕ) (rows r : ℕ) (m : List ℤ) : Type 0 where
  pub ready : Ready s m
  pub start : rows ≡ (trailer_of s).rows
  pub here : (r ≡ none) ⊎ (is_kind (tables_of s) k r ≡ true)

-- whether every value was known, and the store then
pub record Assigned : Type 0 where
  pub done : Bool
  pub store : List ℤ

-- the items' values are stored, from the last to the first, where all are known; else none is
unfoldable pub assigns : Tables → List Gets → List ℤ → Assigned
assigns x [] m = record { done = true; store = m }
assigns x (i ∷ items) m =
    elim (eval x i.e m) [
      | Some z ↦
          elim (assigns x items m).done [
            | true ↦ record { done = true; store = store (assigns x items m).store i.v z }
            | false ↦ record { done = false; store = m }
          ]
      | None ↦ record { done = false; store = m }
    ]
