-- What typing (refusal 8) reads off a row, and what its functions ask. Assumes nothing.
use mathlib.Core.{Path.◌≡◌, Logic.◌⊎◌, Bool.Bool, Bool.true, Bool.false, Bool.◌&&◌, List.List}
use Rattle.std.specs.Prelude.{ℕ, ◌≤◌, ◌<◌, All}
use lib.{Dec.eqb, ListN.length}
use Rattle.model.specs.declared.{Image.Image, Fields.Fields, Refusal.TheVariants.Typing}
use Rattle.model.specs.Answers.{row, variable, each, Verdict}
use Rattle.model.specs.Lists.{all}
use Rattle.model.specs.Image.{Tables, none, bool, int, tables_of, type_of, fields_of, row_count}
use Rattle.model.specs.Rows.{Equal, Less, AtMost, Binary, logic, arithmetic, comparison, Kind, is_variable, is_constant, is_unary, is_binary, Means, an_expression, a_pattern, an_offer, an_action, another, shape_of, is_kind, next_of}
use Rattle.model.specs.Decode.{expression_at, pattern_at, condition_at, gets_at, of_types_at, arms_of, action_at, list_at, rule_at}
use Rattle.model.specs.Typing.{type_of_unary, type_of_binary, type_of_exp, type_of_pat, typed_exp, typed_pat, typed_act, arms_of_type, typed}
use Rattle.image.specs.Located.{Formed, Rooted}

-- 8: the lowest row whose rule fails
unfoldable pub typing_verdict : Tables → Verdict
typing_verdict x = each (typed x) (length x.rows) (λ r. Typing (row r))

-- row r's rule, the trailer's condition apart
unfoldable pub row_typed : Tables → ℕ → Bool
row_typed x r = rule_at x (typed_exp x) (typed_pat x) (typed_act x) r

-- type(E) of an expression's row, or of a condition that may be left out; type(P) of a pattern's row
abbrev pub expression_type : Tables → ℕ → ℕ
expression_type x r = type_of_exp x (expression_at x r)

abbrev pub condition_type : Tables → ℕ → ℕ
condition_type x r = type_of_exp x (condition_at x r)

abbrev pub pattern_type : Tables → ℕ → ℕ
pattern_type x r = type_of_pat x (pattern_at x r)

-- the lists that start at row r: items that get a value, items of a type, arms whose patterns are of the type t
abbrev pub gets_typed : Tables → ℕ → Bool
gets_typed x r = all (λ g. eqb (type_of_exp x g.e) (type_of x g.v)) (gets_at x r)

abbrev pub of_types_typed : Tables → ℕ → Bool
of_types_typed x r = all (λ o. eqb (type_of x o.v) o.t) (of_types_at x r)

abbrev pub arms_typed : Tables → ℕ → ℕ → Bool
arms_typed x t r = arms_of_type x t (arms_of x (action_at x) (list_at x r))

-- a row of a list that names the next in field c, and whose fields may be put to a test; a list of such rows
pub record TestedRow (s : List ℕ) (i : Image) (callable : Fields → Type 0) (r : ℕ) : Type 0 where
  pub inside : r < row_count i
  pub next : next_of (tables_of s) r ≡ (fields_of (tables_of s) r).c
  pub may : callable (fields_of (tables_of s) r)

pub record TestedList (s : List ℕ) (i : Image) (callable : Fields → Type 0) (first : ℕ) : Type 0 where
  pub formed : Formed s i
  pub rows : All (TestedRow s i callable) (list_at (tables_of s) first)

-- b is whether the rows of a list pass, whatever p is that each answer to a row's fields says of the row
abbrev pub AllPass : (Fields → Bool → Type 0) → Tables → List ℕ → Bool → Type 0
AllPass answers x l b = (p : ℕ → Bool) → All (λ r. (t : Bool) → answers (fields_of x r) t → t ≡ p r) l → b ≡ all p l

-- the variable of the range in row r is int
abbrev pub range_typed : Tables → ℕ → Bool
range_typed x r = eqb (type_of x (variable (fields_of x r).a)) int

-- the type that an operator's operands have; none where they are of one type, whichever that is
abbrev pub operand_of_binary : Binary → ℕ
operand_of_binary (logic o) = bool
operand_of_binary (arithmetic o) = int
operand_of_binary (comparison Equal) = none
operand_of_binary (comparison Less) = int
operand_of_binary (comparison AtMost) = int

-- the same by meaning, and the result's type; of a row without an operator nobody asks, and it is bool
abbrev pub operand_for : Means → ℕ
operand_for (an_expression is_variable) = bool
operand_for (an_expression is_constant) = bool
operand_for (an_expression (is_unary o)) = type_of_unary o
operand_for (an_expression (is_binary o)) = operand_of_binary o
operand_for (a_pattern p) = bool
operand_for (an_offer o) = bool
operand_for (an_action a) = bool
operand_for (another k) = bool

abbrev pub result_for : Means → ℕ
result_for (an_expression is_variable) = bool
result_for (an_expression is_constant) = bool
result_for (an_expression (is_unary o)) = type_of_unary o
result_for (an_expression (is_binary o)) = type_of_binary o
result_for (a_pattern p) = bool
result_for (an_offer o) = bool
result_for (an_action a) = bool
result_for (another k) = bool

-- the same by code
unfoldable pub operand_of : ℕ → ℕ
operand_of code = operand_for (shape_of code).means

unfoldable pub result_of : ℕ → ℕ
result_of code = result_for (shape_of code).means

-- operands of the types s and t are of the type o, or of one type
unfoldable pub takes_types : ℕ → ℕ → ℕ → Bool
takes_types o s t = elim (eqb o none) [ true ↦ eqb s t | false ↦ eqb s o && eqb t o ]

-- an operator's code
pub record Operator (code : ℕ) : Type 0 where
  pub low : 16 ≤ code
  pub high : code < 28

-- a row of an image free of 1 to 5; one of a kind; one of a kind, or none
pub record FormedRow (s : List ℕ) (i : Image) (r : ℕ) : Type 0 where
  pub formed : Formed s i
  pub inside : r < row_count i

pub record OfKind (s : List ℕ) (i : Image) (k : Kind) (r : ℕ) : Type 0 where
  pub formed : Formed s i
  pub kind : is_kind (tables_of s) k r ≡ true

pub record OrNone (s : List ℕ) (i : Image) (k : Kind) (r : ℕ) : Type 0 where
  pub formed : Formed s i
  pub named : (r ≡ none) ⊎ (is_kind (tables_of s) k r ≡ true)

-- a row of an image free of 1 to 6
pub record RootedRow (s : List ℕ) (i : Image) (r : ℕ) : Type 0 where
  pub rooted : Rooted s i
  pub inside : r < row_count i
