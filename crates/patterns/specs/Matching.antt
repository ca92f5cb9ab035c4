-- What a match answers, and the store after it (01, "The step"). Assumes nothing.
use mathlib.Core.{Path.◌≡◌, Bool.true, List.List}
use Rattle.std.specs.Prelude.{ℕ, ℤ}
use Rattle.model.specs.Values.{of_size}
use Rattle.model.specs.Image.{Tables, tables_of, size_of}
use Rattle.model.specs.Rows.{pattern}
use Rattle.model.specs.Trees.{Pat}
use Rattle.model.specs.Decode.{pattern_at}
use Rattle.model.specs.Typing.{type_of_pat}
use Rattle.model.specs.Run.{matched, failed, unsure, match}
use Rattle.model.specs.Run as run
use Rattle.expressions.specs.Ready.{Runs}
use Rattle.model.specs.declared.{Tested.Tested, Tested.TheVariants.Holds, Tested.TheVariants.Fails, Tested.TheVariants.Unsure}

-- a pattern's row, and a value of its type
pub record Tries (s : List ℕ) (rows p : ℕ) (z : ℤ) (m : List ℤ) : Type 0 where
  pub runs : Runs pattern s rows p m
  pub typed : of_size (tables_of s).half (size_of (tables_of s) (type_of_pat (tables_of s) (pattern_at (tables_of s) p))) z ≡ true

-- an answer and the store after it
pub record Matching : Type 0 where
  pub said : Tested
  pub store : List ℤ

abbrev pub matching : Tested → List ℤ → Matching
matching a n = record { said = a; store = n }

-- "A failed match leaves the store"
abbrev pub matching_of : run.Match → List ℤ → Matching
matching_of (matched n) m = matching Holds n
matching_of failed m = matching Fails m
matching_of unsure m = matching Unsure m

-- match(v, ρ, P), with the store after it
abbrev pub matches : Tables → Pat → ℤ → List ℤ → Matching
matches x p z m = matching_of (match x p z m) m
