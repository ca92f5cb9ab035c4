-- A walk of rows: what it is asked, and what it gives, the sets of Figure 7 with what is carried to each state met in place.
-- Assumes nothing.
use mathlib.Core.{Path.◌≡◌, Logic.◌⊎◌, Bool.Bool, Bool.true, Bool.◌&&◌, List.List}
use Rattle.std.specs.Prelude.{ℕ, ◌≤◌, ◌<◌}
use lib.{ListN.length, ListN.get_or}
use Rattle.model.specs.declared.Image.{Image}
use Rattle.model.specs.Masks.{digit, Has, meet, join}
use Rattle.model.specs.Image.{Tables, none, fields_of, tables_of, row_count}
use Rattle.model.specs.Rows.{Kind, action, is_kind}
use Rattle.model.specs.Trees.{Action, Branches, Arms}
use Rattle.model.specs.Decode.{action_at}
use Rattle.model.specs.Sets.{ends, ends_branches, ends_arms, fine, fine_branches, fine_arms, jumps, jumps_branches, jumps_arms}
use Rattle.model.specs.Largest.{Sub}
use Rattle.image.specs.Located.{Formed}
use Rattle.masks.specs.declared.Masks.{Masks}
use Rattle.masks.specs.Masks.{Filled}

-- Figure 7's sets: where the tree ends, at the jumps to each state; and whether no error is raised
pub record Flow : Type 0 where
  pub ends : ℕ
  pub fine : Bool
  pub jumps : ℕ → ℕ

abbrev pub flow : ℕ → ℕ → Action → Flow
flow top m a = record { ends = ends top m a; fine = fine top m a; jumps = λ q. jumps q top m a }

abbrev pub flow_branches : ℕ → ℕ → Branches → Flow
flow_branches top m bs = record { ends = ends_branches top m bs; fine = fine_branches top m bs; jumps = λ q. jumps_branches q top m bs }

abbrev pub flow_arms : ℕ → ℕ → Arms → Flow
flow_arms top m arms = record { ends = ends_arms top m arms; fine = fine_arms top m arms; jumps = λ q. jumps_arms q top m arms }

-- the states whose sets changed: a set that changes falls
pub record Moved (was now' : List ℕ) (moved : ℕ) : Type 0 where
  pub still : (q : ℕ) → digit moved q ≡ 0 → get_or now' q 0 ≡ get_or was q 0
  pub fell : (q : ℕ) → Has moved q → get_or now' q 0 < get_or was q 0

-- they are added to those that moved before
pub record Moves (was now' : List ℕ) (mv mv' : ℕ) : Type 0 where
  pub states : ℕ
  pub change : Moved was now' states
  pub added : mv' ≡ join mv states

-- what a walk gives: e is the set where it ends; at each state the set that was there is met with what the jumps carry; the states
-- whose sets change are added to mv; where an error is raised ok turns false
pub record Walked (f : Flow) (was now' : List ℕ) (mv mv' : ℕ) (ok ok' : Bool) (e : ℕ) : Type 0 where
  pub ends : e ≡ f.ends
  pub fine : ok' ≡ (ok && f.fine)
  pub size : length now' ≡ length was
  pub met : (q : ℕ) → q < length was → get_or now' q 0 ≡ meet (get_or was q 0) (f.jumps q)
  pub moves : Moves was now' mv mv'

-- the same of an action without parts that doesn't jump: nothing is carried anywhere
pub record Plain (x : Tables) (row m : ℕ) (ok ok' : Bool) (e : ℕ) : Type 0 where
  pub ends : (top : ℕ) → e ≡ ends top m (action_at x row)
  pub fine : (top : ℕ) → ok' ≡ (ok && fine top m (action_at x row))
  pub jumps : (top q : ℕ) → jumps q top m (action_at x row) ≡ top

-- what every walk is lent: an image free of 1 to 5, the masks of its rows and nothing after them, so that none is past the end
pub record Lent (s : List ℕ) (i : Image) (ms : List Masks) : Type 0 where
  pub formed : Formed s i
  pub filled : Filled (tables_of s) (row_count i) ms
  pub size : length ms ≡ row_count i

-- and a set for each state, inside the top
pub record Sets (s : List ℕ) (top : ℕ) (out : List ℕ) : Type 0 where
  pub size : length out ≡ length (tables_of s).states
  pub inside : (q : ℕ) → q < length out → Sub (get_or out q 0) top

-- a row that is an action
pub record Ready (s : List ℕ) (i : Image) (ms : List Masks) (row top : ℕ) (out : List ℕ) : Type 0 where
  pub lent : Lent s i ms
  pub sets : Sets s top out
  pub kind : is_kind (tables_of s) action row ≡ true

-- and its code is such
pub record ReadyAs (P : ℕ → Type 0) (s : List ℕ) (i : Image) (ms : List Masks) (row top : ℕ) (out : List ℕ) : Type 0 where
  pub ready : Ready s i ms row top out
  pub code : P (fields_of (tables_of s) row).code

abbrev pub Single : ℕ → Type 0
Single c = c ≡ 54 → ⊥

abbrev pub Loop : ℕ → Type 0
Loop c = (59 ≤ c) × (c ≤ 60)

-- none, or the first row of a list of a kind
pub record ReadyList (k : Kind) (s : List ℕ) (i : Image) (ms : List Masks) (row top : ℕ) (out : List ℕ) : Type 0 where
  pub lent : Lent s i ms
  pub sets : Sets s top out
  pub first : (row ≡ none) ⊎ (is_kind (tables_of s) k row ≡ true)

-- a row that is a jump
pub record Jump (s : List ℕ) (i : Image) (row top : ℕ) (out : List ℕ) : Type 0 where
  pub formed : Formed s i
  pub sets : Sets s top out
  pub kind : is_kind (tables_of s) action row ≡ true
  pub code : (fields_of (tables_of s) row).code ≡ 53

-- a row that is an action without parts and no jump
pub record PlainRow (s : List ℕ) (i : Image) (ms : List Masks) (row : ℕ) : Type 0 where
  pub lent : Lent s i ms
  pub kind : is_kind (tables_of s) action row ≡ true
  pub code : (fields_of (tables_of s) row).code < 53
