-- What judging rows asks, and the tests of one row and of one state. Assumes nothing.
use mathlib.Core.{Path.◌≡◌, Bool.Bool, Bool.◌&&◌, List.List}
use Rattle.std.specs.Prelude.{ℕ, ◌≤◌, length, get_or}
use Rattle.model.specs.declared.{Image.Image, Fields.Fields}
use Rattle.model.specs.Image.{Tables, none, tables_of, fields_of}
use Rattle.model.specs.Rows.{action, shape_of, field_fits, is_root}
use Rattle.image.specs.Located.{Located}
use Rattle.rows.specs.declared.lines.Line.{Line}
use Rattle.rows.specs.Lines.{Tells, Table}

-- an image past 1 to 3, and the packed table
pub record Reading (s l : List ℕ) (i : Image) : Type 0 where
  pub located : Located s i
  pub lines : Table l

-- and rows below r
pub record Below (s l : List ℕ) (i : Image) (r : ℕ) : Type 0 where
  pub reading : Reading s l i
  pub inside : r ≤ length (tables_of s).rows

-- and the fields and the line of row r
pub record Lined (s l : List ℕ) (i : Image) (r : ℕ) (w : Fields) (t : Line) : Type 0 where
  pub below : Below s l i r
  pub fields : w ≡ fields_of (tables_of s) r
  pub line : Tells t (shape_of w.code)

-- the fields of row r are as its line says
unfoldable pub line_fits : Tables → ℕ → Fields → Bool
line_fits x r w =
    let s = shape_of w.code in
    field_fits x r w s.a w.a && (field_fits x r w s.b w.b && field_fits x r w s.c w.c)

-- the row of state q is an action
abbrev pub rooted : Tables → ℕ → Bool
rooted x q = is_root x action (get_or x.states q none)
