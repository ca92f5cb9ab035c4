-- What the pass over the rows fills in. Assumes nothing.
use mathlib.Core.{Bool.cond, List.List, Path.◌≡◌}
use Rattle.std.specs.Prelude.{ℕ, ◌≤◌, ◌<◌}
use lib.{Dec.eqb, ListN.length, ListN.get_or}
use Rattle.model.specs.declared.{Image.Image}
use Rattle.model.specs.Image.{Tables, none, tables_of, row_count}
use Rattle.model.specs.Rows.{Kind, expression, pattern, offer, gets, of_type, item, range, action, branch, arm, unknown, kind_of, means_at}
use Rattle.model.specs.Trees.{Branches, Arms}
use Rattle.model.specs.Decode.{action_at, list_at, branches_of, arms_of}
use Rattle.model.specs.Speech.{speech, speech_branches, speech_arms}
use Rattle.image.specs.Located.{Rooted}
use Rattle.speech.specs.Both.{Both, both, nowhere_both, unpacked}

-- the branches and the arms of the list that starts at a row, or none
abbrev pub branches_at : Tables → ℕ → Branches
branches_at x r = branches_of x (action_at x) (list_at x r)

abbrev pub arms_at : Tables → ℕ → Arms
arms_at x r = arms_of x (action_at x) (list_at x r)

-- the ways of a row of a kind: of an action's row the action's; of a branch's or an arm's, those of its list from there on
abbrev pub ways_by : Tables → ℕ → Kind → Both
ways_by x r expression = nowhere_both
ways_by x r pattern = nowhere_both
ways_by x r offer = nowhere_both
ways_by x r gets = nowhere_both
ways_by x r of_type = nowhere_both
ways_by x r item = nowhere_both
ways_by x r range = nowhere_both
ways_by x r action = both (λ m. speech x m (action_at x r))
ways_by x r branch = both (λ m. speech_branches x m (branches_at x r))
ways_by x r arm = both (λ m. speech_arms x m (arms_at x r))
ways_by x r unknown = nowhere_both

unfoldable pub ways_at : Tables → ℕ → Both
ways_at x r = ways_by x r (kind_of (means_at x r))

-- the rows below n are filled in
pub record Filled (x : Tables) (n : ℕ) (ways : List ℕ) : Type 0 where
  pub each : (r : ℕ) → r < n → unpacked (get_or ways r 0) ≡ ways_at x r

-- what stands for a list by its first row, or none
abbrev pub first_of : List ℕ → ℕ → Both
first_of ways r = cond (eqb r none) nowhere_both (unpacked (get_or ways r 0))

-- an image free of 1 to 6, with room for all its rows
pub record Lent (s : List ℕ) (i : Image) (ways : List ℕ) : Type 0 where
  pub rooted : Rooted s i
  pub room : row_count i ≤ length ways

-- and row r of it, the lower rows being filled in
pub record Ready (s : List ℕ) (i : Image) (r : ℕ) (ways : List ℕ) : Type 0 where
  pub lent : Lent s i ways
  pub inside : r < row_count i
  pub filled : Filled (tables_of s) r ways
