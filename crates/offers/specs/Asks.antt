-- What the functions of a communication ask. Assumes nothing.
use mathlib.Core.{Path.◌≡◌, Bool.false, List.List}
use Rattle.std.specs.Prelude.{ℕ, ◌≤◌}
use lib.{IntN.ℤ, ListN.length}
use Rattle.model.specs.declared.{Image.Image, Fields.Fields}
use Rattle.model.specs.Image.{trailer_of, tables_of, fields_of}
use Rattle.model.specs.Rows.{pattern, offer}
use Rattle.model.specs.Decode.{offers_at}
use Rattle.expressions.specs.Ready.{Ready, Runs}
use Rattle.actions.specs.declared.{Run.Run}
use Rattle.actions.specs.Items.{Items}

-- a receipt's pattern
pub record Receives (s : List ℕ) (i : Image) (p : ℕ) (m : List ℤ) : Type 0 where
  pub runs : Runs pattern s i.rows p m
  pub trailer : i ≡ trailer_of s

-- the fields of an offer's row
pub record Accepts (s : List ℕ) (i : Image) (w : Fields) (m : List ℤ) : Type 0 where
  pub row : ℕ
  pub runs : Runs offer s i.rows row m
  pub trailer : i ≡ trailer_of s
  pub fields : w ≡ fields_of (tables_of s) row

-- a list of offers or none, room for its values, and a run that has said nothing
pub record AcceptsAll (s : List ℕ) (i : Image) (first : ℕ) (m values : List ℤ) (run : Run) : Type 0 where
  pub items : Items offer s i.rows first m
  pub trailer : i ≡ trailer_of s
  pub few : length (offers_at (tables_of s) first) ≤ 8
  pub room : 8 ≤ length values
  pub quiet : run.spoken ≡ false

-- a communication's row and its fields in an image and a store that a step runs, and room for a label's values
pub record Communicates (s : List ℕ) (i : Image) (r : ℕ) (w : Fields) (m values : List ℤ) : Type 0 where
  pub ready : Ready s m
  pub trailer : i ≡ trailer_of s
  pub fields : w ≡ fields_of (tables_of s) r
  pub code : w.code ≡ 52
  pub room : 8 ≤ length values
