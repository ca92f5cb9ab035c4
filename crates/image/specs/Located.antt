-- An image that has passed 1 to 3, with its trailer: what the readers of its tables ask. Assumes nothing.
use mathlib.Core.{Path.◌≡◌, Bool.true, List.List}
use Rattle.std.specs.Prelude.{ℕ, ◌<◌, length, get_or}
use Rattle.model.specs.declared.{Image.Image, Refusal.TheVariants.ImageLength, Refusal.TheVariants.MarkOrLength, Refusal.TheVariants.Starts, Refusal.TheVariants.Entries}
use Rattle.model.specs.Answers.{after, unless, Verdict}
use Rattle.model.specs.Image.{Tables, none, length_fits, marked, trailer_of, starts_fit, tables_of, entries_right, type_count, variable_count, state_count, row_count}
use Rattle.image.specs.declared.{Automaton.Automaton}
use Rattle.model.specs.Rows.{action, expression, formed, is_root}

-- the tables of an image that code has with its trailer
abbrev pub tables : Automaton → Tables
tables x = tables_of x.image.now

pub record Located (s : List ℕ) (i : Image) : Type 0 where
  pub trailer : i ≡ trailer_of s
  pub long : length_fits s ≡ true
  pub marked : marked s ≡ true
  pub starts : starts_fit i ≡ true

-- and a row, a type, a variable or a state of it
pub record RowOf (s : List ℕ) (i : Image) (r : ℕ) : Type 0 where
  pub located : Located s i
  pub inside : r < row_count i

pub record TypeOf (s : List ℕ) (i : Image) (t : ℕ) : Type 0 where
  pub located : Located s i
  pub inside : t < type_count i

pub record VariableOf (s : List ℕ) (i : Image) (v : ℕ) : Type 0 where
  pub located : Located s i
  pub inside : v < variable_count i

pub record StateOf (s : List ℕ) (i : Image) (q : ℕ) : Type 0 where
  pub located : Located s i
  pub inside : q < state_count i

-- free of 1 to 5
pub record Formed (s : List ℕ) (i : Image) : Type 0 where
  pub located : Located s i
  pub entries : entries_right (tables_of s) ≡ true
  pub rows : (r : ℕ) → r < length (tables_of s).rows → formed (tables_of s) r ≡ true

-- free of 1 to 6
pub record Rooted (s : List ℕ) (i : Image) : Type 0 where
  pub formed : Formed s i
  pub states : (q : ℕ) → q < length (tables_of s).states → is_root (tables_of s) action (get_or (tables_of s).states q none) ≡ true
  pub condition : is_root (tables_of s) expression (tables_of s).condition ≡ true

-- 1 to 4, what comes before the rows
unfoldable pub header_verdict : List ℕ → Verdict
header_verdict s =
    after (unless (length_fits s) ImageLength)
    (after (unless (marked s) MarkOrLength)
    (after (unless (starts_fit (trailer_of s)) Starts)
    (unless (entries_right (tables_of s)) Entries)))
