-- How often rows are named, counted up to 2. Assumes nothing.
use mathlib.Core.{Path.◌≡◌, Bool.Bool, List.List, List.[], List.◌++◌}
use Rattle.std.specs.Prelude.{ℕ, min, ◌<◌}
use lib.{Dec.eqb, ListN.length, ListN.get_or}
use Rattle.model.specs.Rows.{occurs}

-- the count of each row is how often it is named, 2 for more than once
pub record Counts (l ns : List ℕ) : Type 0 where
  pub each : (r : ℕ) → r < length l → get_or l r 0 ≡ min 2 (occurs r ns)

-- the counts m are the counts l and the namings ns
pub record Counted (l m ns : List ℕ) : Type 0 where
  pub exact : length m ≡ length l
  pub also : (ms : List ℕ) → Counts l ms → Counts m (ms ++ ns)

-- counts of n rows before anything is counted
pub record Scratch (l : List ℕ) (n : ℕ) : Type 0 where
  pub exact : length l ≡ n
  pub blank : Counts l []

-- row r is counted once
abbrev pub once_in : List ℕ → ℕ → Bool
once_in l r = eqb (get_or l r 0) 1
