-- The states: those reached, their sets, the verdict on them. Assumes nothing.
use mathlib.Core.{Path.◌≡◌, Bool.Bool, Bool.not, List.List, List.◌++◌}
use Rattle.std.specs.Prelude.{ℕ, ◌≤◌, ◌<◌, length, get_or, drop}
use Rattle.model.specs.declared.{Image.Image, Refusal.TheVariants.Initialisation}
use Rattle.model.specs.Answers.{state, each, Verdict}
use Rattle.model.specs.Image.{Tables, tables_of, row_count}
use Rattle.model.specs.Masks.{digit, Has, has}
use Rattle.model.specs.Binding.{parameters_of}
use Rattle.model.specs.Largest.{top_of, Sub, Fits, reached_of, sets_of, initialised}
use Rattle.image.specs.Located.{Formed, Rooted}
use Rattle.masks.specs.declared.Masks.{Masks}
use Rattle.masks.specs.Masks.{Filled}

-- an image free of 1 to 6, its masks
pub record Lending (s : List ℕ) (i : Image) (ms : List Masks) : Type 0 where
  pub rooted : Rooted s i
  pub filled : Filled (tables_of s) (row_count i) ms

-- and no masks after those of its rows
pub record Rows (s : List ℕ) (i : Image) (ms : List Masks) : Type 0 where
  pub lending : Lending s i ms
  pub size : length ms ≡ row_count i

-- ---- the sets
-- a state's set; past the last state all variables, as the definitions read it
abbrev pub set_at : Tables → List ℕ → ℕ → ℕ
set_at x sets s = get_or sets s (top_of x)

-- where the sets are to begin
pub record Beginning (s : List ℕ) (i : Image) (top : ℕ) (sets : List ℕ) : Type 0 where
  pub formed : Formed s i
  pub all : top ≡ top_of (tables_of s)
  pub size : length sets ≡ length (tables_of s).states

-- a set for each state, above all that fit
pub record Above (x : Tables) (sets : List ℕ) : Type 0 where
  pub size : length sets ≡ length x.states
  pub all : (s : ℕ) → Sub (set_at x sets s) (top_of x)
  pub begins : Sub (set_at x sets 0) (parameters_of x.variables)
  pub above : (o : ℕ → ℕ) → Fits x o → (s : ℕ) → Sub (o s) (set_at x sets s)

-- what is lent to find the sets: an image free of 1 to 6, its masks, the mask of all variables
pub record Given (s : List ℕ) (i : Image) (ms : List Masks) (top : ℕ) : Type 0 where
  pub rows : Rows s i ms
  pub all : top ≡ top_of (tables_of s)

pub record Staged (s : List ℕ) (i : Image) (ms : List Masks) (top : ℕ) (sets : List ℕ) : Type 0 where
  pub given : Given s i ms top
  pub stage : Above (tables_of s) sets

-- the lowest in a mask
pub record Lowest (m k : ℕ) : Type 0 where
  pub here : Has m k
  pub below : (j : ℕ) → j < k → digit m j ≡ 0
  pub small : k < 64

-- the mask of the states that err: s as the test says, the others as before
pub record Marked (s : ℕ) (fine : Bool) (was wrong : ℕ) : Type 0 where
  pub here : has wrong s ≡ not fine
  pub there : (q : ℕ) → (q ≡ s → ⊥) → digit wrong q ≡ digit was q

-- the largest sets, and the mask of the states that err with them
pub record Settled (x : Tables) (wrong : ℕ) (sets : List ℕ) : Type 0 where
  pub largest : sets ≡ sets_of x
  pub errs : (s : ℕ) → initialised x (reached_of x) (sets_of x) s ≡ not (has wrong s)
  pub inside : (s : ℕ) → Has wrong s → s < length x.states

-- ---- 11
abbrev pub initialisation : Tables → Verdict
initialisation x = each (initialised x (reached_of x) (sets_of x)) (length x.states) (λ s. Initialisation (state s))

-- the verdict, and the largest sets
pub record Judged (x : Tables) (r : Verdict) (sets : List ℕ) : Type 0 where
  pub verdict : r ≡ initialisation x
  pub largest : sets ≡ sets_of x

-- the masks of its rows and a set for each state
pub record EachState (s : List ℕ) (i : Image) (ms : List Masks) (sets : List ℕ) : Type 0 where
  pub rows : Rows s i ms
  pub size : length sets ≡ length (tables_of s).states

-- its masks, and room for a set for each state
pub record Room (s : List ℕ) (i : Image) (ms : List Masks) (sets : List ℕ) : Type 0 where
  pub lending : Lending s i ms
  pub room : length (tables_of s).states ≤ length sets

-- the verdict, and the largest sets in the first entries
pub record Found (x : Tables) (r : Verdict) (was now' : List ℕ) : Type 0 where
  pub verdict : r ≡ initialisation x
  pub first : now' ≡ sets_of x ++ drop (length x.states) was
