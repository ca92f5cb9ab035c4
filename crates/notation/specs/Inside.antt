-- An entry of a located image's tables: what its readers ask. Assumes nothing.
use mathlib.Core.{List.List}
use Rattle.std.specs.Prelude.{ℕ, ◌<◌, ◌≤◌, length}
use Rattle.model.specs.declared.{Image.Image}
use Rattle.notation.specs.declared.Table.{Table}
use Rattle.model.specs.Image.{trailer_of}
use Rattle.image.specs.Located.{Located}
use Rattle.notation.specs.Whole.{count_of}

pub record EntryOf (s : List ℕ) (i : Image) (k : Table) (q : ℕ) : Type 0 where
  pub located : Located s i
  pub inside : q < count_of i k

-- what is asked of an image to be shown up to a refusal's number: from 3 on a trailer, from 4 on its tables
pub record Shown (s : List ℕ) (n : ℕ) : Type 0 where
  pub trailed : 3 ≤ n → 16 ≤ length s
  pub located : 4 ≤ n → Located s (trailer_of s)
