-- An action's row that is done. Assumes nothing.
use mathlib.Core.{Path.◌≡◌, Bool.true, List.List}
use Rattle.std.specs.Prelude.{ℕ, ℤ}
use Rattle.model.specs.declared.{Image.Image, Fields.Fields}
use Rattle.model.specs.Image.{Tables, trailer_of, tables_of, fields_of}
use Rattle.model.specs.Rows.{action, is_kind}
use Rattle.model.specs.Decode.{condition_at}
use Rattle.model.specs.Run.{test, St, Res, gives, blocked, tested}
use Rattle.model.specs.declared.{Outcome.TheVariants.Ends}
use Rattle.expressions.specs.Ready.{Ready}

-- of an image and a store that a step runs, a row of code n with its fields
pub record Doing (n : ℕ) (s : List ℕ) (i : Image) (r : ℕ) (w : Fields) (m : List ℤ) : Type 0 where
  pub ready : Ready s m
  pub trailer : i ≡ trailer_of s
  pub kind : is_kind (tables_of s) action r ≡ true
  pub fields : w ≡ fields_of (tables_of s) r
  pub code : w.code ≡ n

-- any's condition, once its words are stored
abbrev pub trying : Tables → ℕ → ℕ → St → Res
trying x c r s = tested (test x (condition_at x c) s.store) r s (gives Ends s) (blocked r s)
