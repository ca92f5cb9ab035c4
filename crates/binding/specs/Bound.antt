-- Binding on rows (refusal 9): its verdict, and what its functions ask and find. Assumes nothing.
use mathlib.Core.{Path.◌≡◌, Logic.◌⊎◌, Bool.Bool, Bool.true, Bool.◌&&◌, List.List, List.map}
use Rattle.std.specs.Prelude.{ℕ, ◌<◌, ◌≤◌, length}
use Rattle.model.specs.declared.{Fields.Fields, Image.Image, Refusal.TheVariants.Binding}
use Rattle.model.specs.Answers.{row, each, Verdict}
use Rattle.model.specs.Masks.{bit}
use Rattle.model.specs.Image.{Tables, none, tables_of, fields_of, row_count}
use Rattle.model.specs.Rows.{Kind, expression, pattern, offer, gets, of_type, item, range, action, branch, arm, unknown, shape_of, is_kind, pick_next}
use Rattle.model.specs.Trees.{Offer}
use Rattle.model.specs.Decode.{list_at}
use Rattle.model.specs.Binding.{def_of_offer, distinct, ordered, parameters_of, bound}
use Rattle.image.specs.Located.{Rooted}
use Rattle.masks.specs.declared.Masks.{Masks}
use Rattle.masks.specs.Masks.{use_at, def_at, masks_in}

-- 9, by itself
unfoldable pub binding_verdict : Tables → Verdict
binding_verdict x = each (bound x) (length x.rows) (λ r. Binding (row r))

-- the masks of every row's variables are filled in
pub record Masked (s : List ℕ) (i : Image) (ms : List Masks) : Type 0 where
  pub rooted : Rooted s i
  pub use_row : (r : ℕ) → r < row_count i → (masks_in ms r).uses ≡ use_at (tables_of s) r
  pub def_row : (r : ℕ) → r < row_count i → (masks_in ms r).defs ≡ def_at (tables_of s) r
  pub size : row_count i ≤ length ms

-- the masks of n rows' variables and nothing after them, so that none is past the end
pub record Exact (x : Tables) (n : ℕ) (ms : List Masks) : Type 0 where
  pub use_row : (r : ℕ) → r < n → (masks_in ms r).uses ≡ use_at x r
  pub def_row : (r : ℕ) → r < n → (masks_in ms r).defs ≡ def_at x r
  pub size : length ms ≡ n

-- the bits of the variables of the list that starts at row r, or none
abbrev pub bits_at : Tables → ℕ → List ℕ
bits_at x r = map (λ i. bit (fields_of x i).a) (list_at x r)

-- no variable is defined twice, none used before it is defined
unfoldable pub bound_offers : List Offer → Bool
bound_offers os = distinct (map def_of_offer os) && ordered os

-- the kinds of a vector's rows
abbrev pub Item : Kind → Type 0
Item expression = ⊥
Item pattern = ⊥
Item offer = ⊥
Item gets = Unit
Item of_type = Unit
Item item = Unit
Item range = ⊥
Item action = ⊥
Item branch = ⊥
Item arm = ⊥
Item unknown = ⊥

-- a list of rows of kind k starts at row r, or none
abbrev pub Starts : Tables → Kind → ℕ → Type 0
Starts x k r = (r ≡ none) ⊎ (is_kind x k r ≡ true)

-- a vector's items, the first of them at row r
pub record Vector (s : List ℕ) (i : Image) (r : ℕ) (ms : List Masks) : Type 0 where
  pub rooted : Rooted s i
  pub exact : Exact (tables_of s) (row_count i) ms
  pub kind : Kind
  pub item : Item kind
  pub starts : Starts (tables_of s) kind r

-- a list of offers, the first of them at row r
pub record Offers (s : List ℕ) (i : Image) (r : ℕ) (ms : List Masks) : Type 0 where
  pub rooted : Rooted s i
  pub exact : Exact (tables_of s) (row_count i) ms
  pub starts : Starts (tables_of s) offer r

-- the rules of every row
pub record Ruled (s : List ℕ) (i : Image) (ms : List Masks) : Type 0 where
  pub rooted : Rooted s i
  pub exact : Exact (tables_of s) (row_count i) ms

-- the rule of row r, with the parameters at hand
pub record Rule (s : List ℕ) (i : Image) (r : ℕ) (ms : List Masks) (allowed : ℕ) : Type 0 where
  pub ruled : Ruled s i ms
  pub inside : r < row_count i
  pub parameters : allowed ≡ parameters_of (tables_of s).variables

-- the row that a row's next field names
abbrev pub next_in : Fields → ℕ
next_in w = let s = shape_of w.code in pick_next s.b w.b (pick_next s.c w.c none)
