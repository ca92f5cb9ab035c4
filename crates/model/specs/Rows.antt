-- The table of codes (01, "The image"): what each row is and what its fields name, and the refusals 5, 6 and 7 that read
-- it. Assumes nothing.
use mathlib.Core.{Bool.Bool, Bool.true, Bool.false, Bool.not, Bool.◌&&◌, Bool.◌||◌, List.List, List.[], List.◌∷◌, List.◌++◌}
use Rattle.std.specs.Prelude.{ℕ, zero, suc}
use lib.{Dec.eqb, Dec.leb, Dec.ltb, ListN.length}
use Rattle.model.specs.declared.Fields.{Fields}
use Rattle.model.specs.Limits.{limits}
use Rattle.model.specs.Image.{Tables, none, int, size_of, fields_of}

-- operators of one and of two operands
pub data Unary : Type 0 where
  Not Negate : Unary

pub data Logic : Type 0 where
  And Or : Logic

pub data Arithmetic : Type 0 where
  Plus Minus Times Quotient Remainder : Arithmetic

pub data Comparison : Type 0 where
  Equal Less AtMost : Comparison

pub data Binary : Type 0 where
  logic : Logic → Binary
  arithmetic : Arithmetic → Binary
  comparison : Comparison → Binary

-- kinds of rows
pub data Kind : Type 0 where
  expression pattern offer gets of_type item range action branch arm unknown : Kind

-- what a field is: a number that passes a test; a row of a kind; the first row of a list of so many at most; the next row of
-- the list that its own row is in, or none
pub data Field : Type 0 where
  plain : (Tables → Fields → ℕ → Bool) → Field
  one : Kind → Field
  one_or_none : Kind → Field
  list : Kind → ℕ → Field
  list_or_none : Kind → ℕ → Field
  next : Field

abbrev pub unused : Field
unused = plain (λ x w n. eqb n 0)

abbrev pub a_variable : Field
a_variable = plain (λ x w n. ltb n (length x.variables))

abbrev pub a_type : Field
a_type = plain (λ x w n. ltb n (length x.sizes))

-- a value of the type in field a
abbrev pub a_value : Field
a_value = plain (λ x w n. eqb w.a int || ltb n (size_of x w.a))

abbrev pub a_gate : Field
a_gate = plain (λ x w n. ltb n x.gates)

abbrev pub a_state : Field
a_state = plain (λ x w n. ltb n (length x.states))

abbrev pub literal : Field
literal = plain (λ x w n. true)

-- "The upper literal of a range is at most 32,766"
abbrev pub upper : Field
upper = plain (λ x w n. not (eqb n 0x7FFF))

pub data ExpressionRow : Type 0 where
  is_variable is_constant : ExpressionRow
  is_unary : Unary → ExpressionRow
  is_binary : Binary → ExpressionRow

pub data PatternRow : Type 0 where
  is_any is_bind is_value is_where : PatternRow

pub data OfferRow : Type 0 where
  is_emit is_receive : OfferRow

pub data ActionRow : Type 0 where
  is_null is_assign is_choose is_reset is_communicate is_to is_then is_select is_case is_while is_for : ActionRow

-- what a row is
pub data Means : Type 0 where
  an_expression : ExpressionRow → Means
  a_pattern : PatternRow → Means
  an_offer : OfferRow → Means
  an_action : ActionRow → Means
  another : Kind → Means

abbrev pub kind_of : Means → Kind
kind_of (an_expression e) = expression
kind_of (a_pattern p) = pattern
kind_of (an_offer o) = offer
kind_of (an_action a) = action
kind_of (another k) = k

-- a line of the table of codes
pub record Shape : Type 0 where
  pub code : ℕ
  pub means : Means
  pub a : Field
  pub b : Field
  pub c : Field

abbrev pub line : ℕ → Means → Field → Field → Field → Shape
line n m a b c = record { code = n; means = m; a = a; b = b; c = c }

abbrev pub operator1 : ℕ → Unary → Shape
operator1 n o = line n (an_expression (is_unary o)) (one expression) unused unused

abbrev pub operator2 : ℕ → Binary → Shape
operator2 n o = line n (an_expression (is_binary o)) (one expression) (one expression) unused

-- the table of codes
unfoldable pub codes : List Shape
codes =
    line 1 (an_expression is_variable) a_variable unused unused
    ∷ line 2 (an_expression is_constant) a_type a_value unused
    ∷ operator1 16 Not
    ∷ operator2 17 (logic And)
    ∷ operator2 18 (logic Or)
    ∷ operator1 19 Negate
    ∷ operator2 20 (arithmetic Plus)
    ∷ operator2 21 (arithmetic Minus)
    ∷ operator2 22 (arithmetic Times)
    ∷ operator2 23 (arithmetic Quotient)
    ∷ operator2 24 (arithmetic Remainder)
    ∷ operator2 25 (comparison Equal)
    ∷ operator2 26 (comparison Less)
    ∷ operator2 27 (comparison AtMost)
    ∷ line 32 (a_pattern is_any) a_type unused unused
    ∷ line 33 (a_pattern is_bind) a_variable unused unused
    ∷ line 34 (a_pattern is_value) a_type a_value unused
    ∷ line 35 (a_pattern is_where) (one pattern) (one expression) unused
    ∷ line 40 (an_offer is_emit) (one expression) next unused
    ∷ line 41 (an_offer is_receive) (one pattern) next unused
    ∷ line 44 (another gets) a_variable (one expression) next
    ∷ line 45 (another of_type) a_variable a_type next
    ∷ line 46 (another item) a_variable next unused
    ∷ line 47 (another range) a_variable literal upper
    ∷ line 48 (an_action is_null) unused unused unused
    ∷ line 49 (an_action is_assign) (list gets limits.vector) unused unused
    ∷ line 50 (an_action is_choose) (list of_type limits.vector) (one_or_none expression) unused
    ∷ line 51 (an_action is_reset) (list item limits.vector) unused unused
    ∷ line 52 (an_action is_communicate) a_gate (list_or_none offer limits.vector) unused
    ∷ line 53 (an_action is_to) a_state unused unused
    ∷ line 54 (an_action is_then) (one action) (one action) unused
    ∷ line 55 (an_action is_select) (list_or_none branch limits.branches) unused unused
    ∷ line 56 (an_action is_case) (one expression) (list_or_none arm limits.branches) unused
    ∷ line 57 (another branch) (one action) next unused
    ∷ line 58 (another arm) (one pattern) (one action) next
    ∷ line 59 (an_action is_while) (one expression) (one action) unused
    ∷ line 60 (an_action is_for) (one range) (one action) unused
    ∷ []

-- the line of a code
unfoldable pub lookup : List Shape → ℕ → Shape
lookup [] code = line code (another unknown) unused unused unused
lookup (x ∷ xs) code = elim (eqb code x.code) [ true ↦ x | false ↦ lookup xs code ]

unfoldable pub shape_of : ℕ → Shape
shape_of code = lookup codes code

-- what row r is
abbrev pub means_at : Tables → ℕ → Means
means_at x r = (shape_of (fields_of x r).code).means

abbrev pub number_of_kind : Kind → ℕ
number_of_kind expression = 0
number_of_kind pattern = 1
number_of_kind offer = 2
number_of_kind gets = 3
number_of_kind of_type = 4
number_of_kind item = 5
number_of_kind range = 6
number_of_kind action = 7
number_of_kind branch = 8
number_of_kind arm = 9
number_of_kind unknown = 10

abbrev pub same_kind : Kind → Kind → Bool
same_kind j k = eqb (number_of_kind j) (number_of_kind k)

unfoldable pub is_kind : Tables → Kind → ℕ → Bool
is_kind x k r = same_kind (kind_of (means_at x r)) k

abbrev pub pick_next : Field → ℕ → ℕ → ℕ
pick_next (plain p) n m = m
pick_next (one k) n m = m
pick_next (one_or_none k) n m = m
pick_next (list k most) n m = m
pick_next (list_or_none k most) n m = m
pick_next next n m = n

-- the row that row r's next field names
unfoldable pub next_of : Tables → ℕ → ℕ
next_of x r =
    let w = fields_of x r in
    let s = shape_of w.code in
    pick_next s.b w.b (pick_next s.c w.c none)

-- the rows of the list that starts at row r, n of them at most
unfoldable pub list_up_to : ℕ → Tables → ℕ → List ℕ
list_up_to zero x r = []
list_up_to (suc n) x r = elim (eqb r none) [ true ↦ [] | false ↦ r ∷ list_up_to n x (next_of x r) ]

-- "A row names only lower rows", and one of the field's kind
unfoldable pub names : Tables → ℕ → Kind → ℕ → Bool
names x r k n = ltb n r && is_kind x k n

-- "A list too long is 5 at the row outside it that names its first row"
unfoldable pub list_fits : Tables → ℕ → ℕ → Bool
list_fits x most r = leb (length (list_up_to (suc most) x r)) most

-- field n of row r with fields w is as its line says
unfoldable pub field_fits : Tables → ℕ → Fields → Field → ℕ → Bool
field_fits x r w (plain p) n = p x w n
field_fits x r w (one k) n = names x r k n
field_fits x r w (one_or_none k) n = eqb n none || names x r k n
field_fits x r w (list k most) n = names x r k n && list_fits x most n
field_fits x r w (list_or_none k most) n = eqb n none || (names x r k n && list_fits x most n)
field_fits x r w next n = eqb n none || names x r (kind_of (means_at x r)) n

-- 5: row r has a code of the table, and its fields are as its line says
unfoldable pub formed : Tables → ℕ → Bool
formed x r =
    let w = fields_of x r in
    let s = shape_of w.code in
    not (is_kind x unknown r) && (field_fits x r w s.a w.a && (field_fits x r w s.b w.b && field_fits x r w s.c w.c))

-- 6: a root is a row of its kind
unfoldable pub is_root : Tables → Kind → ℕ → Bool
is_root x k r = ltb r (length x.rows) && is_kind x k r

unfoldable pub unless_none : ℕ → List ℕ
unless_none n = elim (eqb n none) [ true ↦ [] | false ↦ n ∷ [] ]

unfoldable pub named_by : Field → ℕ → List ℕ
named_by (plain p) n = []
named_by (one k) n = n ∷ []
named_by (one_or_none k) n = unless_none n
named_by (list k most) n = n ∷ []
named_by (list_or_none k most) n = unless_none n
named_by next n = unless_none n

-- the rows that a row's fields name
unfoldable pub named_in : Fields → List ℕ
named_in w = let s = shape_of w.code in named_by s.a w.a ++ (named_by s.b w.b ++ named_by s.c w.c)

unfoldable pub named_by_rows : List Fields → List ℕ
named_by_rows [] = []
named_by_rows (w ∷ ws) = named_in w ++ named_by_rows ws

-- the rows named by rows, states and the trailer, as often as they are named
unfoldable pub named : Tables → List ℕ
named x = named_by_rows x.rows ++ (x.states ++ (x.condition ∷ []))

unfoldable pub occurs : ℕ → List ℕ → ℕ
occurs r [] = 0
occurs r (n ∷ ns) = elim (eqb r n) [ true ↦ suc (occurs r ns) | false ↦ occurs r ns ]

-- 7: "every row is named exactly once"
unfoldable pub named_once : Tables → ℕ → Bool
named_once x r = eqb (occurs r (named x)) 1
