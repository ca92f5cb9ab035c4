-- The rows that the code reads beside a row's own: a condition, a subject, arms; and what is found of them. Assumes nothing.
use mathlib.Core.{Path.◌≡◌, Logic.◌⊎◌, Bool.Bool, Bool.true, Bool.◌&&◌, List.List}
use Rattle.std.specs.Prelude.{ℕ, ◌≤◌, ◌<◌}
use lib.{Dec.eqb, Dec.leb, IntN.pos, ListN.length}
use Rattle.model.specs.declared.Image.{Image}
use Rattle.model.specs.Limits.{limits}
use Rattle.model.specs.Image.{Tables, none, tables_of}
use Rattle.model.specs.Rows.{Kind, expression, arm, is_kind}
use Rattle.model.specs.Trees.{Pat, Arms}
use Rattle.model.specs.Decode.{expression_at, list_at}
use Rattle.model.specs.Masks.{has, full, inside}
use Rattle.model.specs.Typing.{type_of_exp}
use Rattle.model.specs.Speech.{catches_all, catches, some_catches_all, some_catches, exhaustive}
pub use Rattle.typing.specs.Rules.{OfKind, OrNone}
use Rattle.speech.specs.Filled.{arms_at}

-- a row of a kind, or none
abbrev pub RowOrNone : Tables → Kind → ℕ → Type 0
RowOrNone x k r = (r ≡ none) ⊎ (is_kind x k r ≡ true)

-- a case's subject and its first arm
pub record CaseOf (s : List ℕ) (i : Image) (e first : ℕ) : Type 0 where
  pub subject : OfKind s i expression e
  pub arms : OrNone s i arm first
  pub few : length (list_at (tables_of s) first) ≤ limits.branches

-- what a pattern catches: every value; those of the values 0 to 63
pub record CaughtAs (p : Pat) (any : Bool) (values : ℕ) : Type 0 where
  pub all : any ≡ catches_all p
  pub each : (k : ℕ) → k < 64 → has values k ≡ catches (pos k) p

-- and what arms catch
pub record CaughtBy (arms : Arms) (any : Bool) (values : ℕ) : Type 0 where
  pub all : any ≡ some_catches_all arms
  pub each : (k : ℕ) → k < 64 → has values k ≡ some_catches (pos k) arms

-- the value of an unguarded constant's row among 0 to 63
pub record ValueBit (code value mask : ℕ) : Type 0 where
  pub each : (k : ℕ) → k < 64 → has mask k ≡ (eqb code 34 && eqb k value)

-- each value below n is in the mask, n being at most 64
abbrev pub all_in : ℕ → ℕ → Bool
all_in values n = leb n 64 && inside (full n) values

-- Figure 11 of a subject's row and a first arm's
abbrev pub exhaustive_at : Tables → ℕ → ℕ → Bool
exhaustive_at x e first = exhaustive x (type_of_exp x (expression_at x e)) (arms_at x first)
