-- What the interpreter's functions ask. Assumes nothing.
use mathlib.Core.{Path.◌≡◌, Bool.true, List.List}
use Rattle.std.specs.Prelude.{ℕ, ◌<◌, ℤ, Ok}
use Rattle.model.specs.Image.{trailer_of, tables_of, row_count, fields_of}
use Rattle.model.specs.Rows.{Kind, expression, is_kind}
use Rattle.model.specs.Calls.{image_verdict}
use Rattle.image.specs.Located.{Located}
use Rattle.demands.specs.Common.{AreBytes}
use Rattle.demands.specs.Stores.{TypedStore}

-- an image free of 1 to 9 and a store that passes 13 and 18
pub record Ready (s : List ℕ) (m : List ℤ) : Type 0 where
  pub bytes : AreBytes s
  pub passed : image_verdict s ≡ Ok tt
  pub store : TypedStore (tables_of s) m

-- a row, by where the rows start
pub record RowFrom (s : List ℕ) (rows r : ℕ) : Type 0 where
  pub located : Located s (trailer_of s)
  pub start : rows ≡ (trailer_of s).rows
  pub inside : r < row_count (trailer_of s)

-- and a row of a kind
pub record Runs (k : Kind) (s : List ℕ) (rows r : ℕ) (m : List ℤ) : Type 0 where
  pub ready : Ready s m
  pub start : rows ≡ (trailer_of s).rows
  pub kind : is_kind (tables_of s) k r ≡ true

-- and an operator's row: neither a variable's nor a constant's
pub record Applies (s : List ℕ) (rows r : ℕ) (m : List ℤ) : Type 0 where
  pub runs : Runs expression s rows r m
  pub not_variable : (fields_of (tables_of s) r).code ≡ 1 → ⊥
  pub not_constant : (fields_of (tables_of s) r).code ≡ 2 → ⊥
