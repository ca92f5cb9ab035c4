-- check's stages, what they are lent and what they leave. Assumes nothing.
use mathlib.Core.{Path.◌≡◌, List.List, List.◌++◌}
use Rattle.std.specs.Prelude.{ℕ, ◌≤◌, Ok, Err}
use lib.{Dec.leb, ListN.length, ListN.drop}
use Rattle.model.specs.declared.{Image.Image, Refusal.TheVariants.SetsShort, Refusal.TheVariants.Initialisation}
use Rattle.model.specs.Answers.{state, after, unless, each, Verdict}
use Rattle.model.specs.Image.{Tables, trailer_of, tables_of, row_count}
use Rattle.model.specs.Largest.{reached_of, sets_of, initialised}
use Rattle.model.specs.Calls.{rows_verdict, rules_verdict, image_verdict, flow_verdict, check_verdict}
use Rattle.image.specs.Located.{Rooted, header_verdict}
use Rattle.demands.specs.Common.{AreBytes}
use Rattle.masks.specs.declared.Masks.{Masks}
use Rattle.masks.specs.Masks.{Filled}
use Rattle.masks.specs.Rows.{Lent}

-- 1 to 7
unfoldable pub tables_verdict : List ℕ → Verdict
tables_verdict s = after (header_verdict s) (rows_verdict (tables_of s))

-- 8 and 9, the masks filled in
pub record Ruled (x : Tables) (n : ℕ) (r : Verdict) (ms : List Masks) : Type 0 where
  pub verdict : r ≡ rules_verdict x
  pub filled : Filled x n ms

-- an image free of 1 to 9 with the masks of its rows, and room for 64 sets
pub record Masked (s : List ℕ) (i : Image) (ms : List Masks) (sets : List ℕ) : Type 0 where
  pub rooted : Rooted s i
  pub filled : Filled (tables_of s) (row_count i) ms
  pub room : 64 ≤ length sets

-- 10
abbrev pub room_stage : Tables → ℕ → Verdict
room_stage x room = unless (leb (length x.states) room) SetsShort

-- the sets that stages leave: the largest, where none before them refuses
unfoldable pub leaves : Verdict → Tables → List ℕ → List ℕ
leaves (Ok _) x was = sets_of x ++ drop (length x.states) was
leaves (Err y) x was = was

-- a verdict, and the sets that it leaves
pub record Gives (v stop : Verdict) (x : Tables) (r : Verdict) (was sets : List ℕ) : Type 0 where
  pub verdict : r ≡ v
  pub left : sets ≡ leaves stop x was

-- 10 and 11
unfoldable pub found_verdict : Tables → ℕ → Verdict
found_verdict x room =
    after (room_stage x room) (each (initialised x (reached_of x) (sets_of x)) (length x.states) (λ s. Initialisation (state s)))

abbrev pub Found : Tables → ℕ → Verdict → List ℕ → List ℕ → Type 0
Found x room = Gives (found_verdict x room) (room_stage x room) x

-- and room for the ways of its rows
pub record Flowing (s : List ℕ) (i : Image) (ms : List Masks) (sets ways : List ℕ) : Type 0 where
  pub masked : Masked s i ms sets
  pub ways_size : row_count i ≤ length ways

-- 10 to 12
unfoldable pub room_verdict : Tables → ℕ → Verdict
room_verdict x room = after (room_stage x room) (flow_verdict x)

abbrev pub Flowed : Tables → ℕ → Verdict → List ℕ → List ℕ → Type 0
Flowed x room = Gives (room_verdict x room) (room_stage x room) x

-- 8 to 12
unfoldable pub trees_verdict : Tables → ℕ → Verdict
trees_verdict x room = after (rules_verdict x) (room_verdict x room)

abbrev pub Judged : Tables → ℕ → Verdict → List ℕ → List ℕ → Type 0
Judged x room = Gives (trees_verdict x room) (after (rules_verdict x) (room_stage x room)) x

-- an image free of 1 to 7, and room for all that its stages fill in
pub record Treeing (s : List ℕ) (i : Image) (ms : List Masks) (sets ways : List ℕ) : Type 0 where
  pub lent : Lent s i ms
  pub room : 64 ≤ length sets
  pub ways_size : row_count i ≤ length ways

-- an image free of 1 to 7 with at most so many rows, and room for 64 sets
pub record Sized (s : List ℕ) (i : Image) (most : ℕ) (sets : List ℕ) : Type 0 where
  pub rooted : Rooted s i
  pub rows : row_count i ≤ most
  pub room : 64 ≤ length sets

-- an image free of 1 to 7 with at most so many rows
pub record Ruling (s : List ℕ) (i : Image) (most : ℕ) : Type 0 where
  pub rooted : Rooted s i
  pub rows : row_count i ≤ most

-- 1 to 12
abbrev pub Checks : List ℕ → ℕ → Verdict → List ℕ → List ℕ → Type 0
Checks s room = Gives (check_verdict s room) (after (image_verdict s) (room_stage (tables_of s) room)) (tables_of s)

-- an image free of 1 to 9, with its trailer: what start and step go on with
pub record Cleared (s : List ℕ) (i : Image) : Type 0 where
  pub bytes : AreBytes s
  pub trailer : i ≡ trailer_of s
  pub passed : image_verdict s ≡ Ok tt
