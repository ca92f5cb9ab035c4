-- The table of codes in numbers, as the code keeps it: what a packed line says. Assumes nothing.
use mathlib.Core.{Path.◌≡◌, List.List, List.[], List.◌∷◌}
use Rattle.std.specs.Prelude.{ℕ, ◌/◌, ◌%◌, ◌<◌, get_or}
use Rattle.model.specs.Limits.{limits}
use Rattle.model.specs.Rows.{Kind, expression, pattern, offer, gets, of_type, item, range, action, branch, arm, unknown, Field, plain, one, one_or_none, list, list_or_none, next, unused, a_variable, a_type, a_value, a_gate, a_state, literal, upper, kind_of, Shape, shape_of, number_of_kind}
use Rattle.rows.specs.declared.lines.Line.{Line}

-- the digit of a field: the kind of the row that it names, 14 for the next row of its own kind, 15 where it names none
abbrev pub digit : Field → ℕ
digit (plain p) = 15
digit (one k) = number_of_kind k
digit (one_or_none k) = number_of_kind k
digit (list k most) = number_of_kind k
digit (list_or_none k most) = number_of_kind k
digit next = 14

-- the kind of a digit
unfoldable pub kind_in : ℕ → Kind
kind_in d = get_or (expression ∷ pattern ∷ offer ∷ gets ∷ of_type ∷ item ∷ range ∷ action ∷ branch ∷ arm ∷ []) d unknown

-- the fields of a line
pub record Form : Type 0 where
  pub a : Field
  pub b : Field
  pub c : Field

abbrev pub form : Field → Field → Field → Form
form a b c = record { a = a; b = b; c = c }

-- forms that name no row
unfoldable pub plains : List Form
plains =
    form unused unused unused
    ∷ form a_variable unused unused
    ∷ form a_type a_value unused
    ∷ form a_type unused unused
    ∷ form a_variable literal upper
    ∷ []

abbrev pub plain_in : ℕ → Form
plain_in n = get_or plains n (form a_state unused unused)

-- forms that name rows: j and k are the kinds of those that a and b name
unfoldable pub namings : Kind → Kind → List Form
namings j k =
    form (one j) unused unused
    ∷ form (one j) (one k) unused
    ∷ form (one j) next unused
    ∷ form a_variable next unused
    ∷ form a_variable a_type next
    ∷ form a_variable (one k) next
    ∷ []

abbrev pub naming_in : ℕ → Kind → Kind → Form
naming_in n j k = get_or (namings j k) n (form (one j) (one k) next)

-- forms that name lists
unfoldable pub listings : Kind → Kind → List Form
listings j k =
    form (list j limits.vector) unused unused
    ∷ form (list j limits.vector) (one_or_none k) unused
    ∷ form a_gate (list_or_none k limits.vector) unused
    ∷ form (list_or_none j limits.branches) unused unused
    ∷ []

abbrev pub listing_in : ℕ → Kind → Kind → Form
listing_in n j k = get_or (listings j k) n (form (one j) (list_or_none k limits.branches) unused)

-- the form of a number: which of the three, then which of it
unfoldable pub form_in : ℕ → Kind → Kind → Form
form_in f j k = get_or (plain_in (f % 16) ∷ naming_in (f % 16) j k ∷ []) (f / 16) (listing_in (f % 16) j k)

abbrev pub form_of : Shape → Form
form_of s = form s.a s.b s.c

-- a line in numbers says what a line of the table of codes says
pub record Tells (l : Line) (s : Shape) : Type 0 where
  pub kind : l.kind ≡ number_of_kind (kind_of s.means)
  pub form : form_of s ≡ form_in l.form (kind_in l.a) (kind_in l.b)
  pub a : l.a ≡ digit s.a
  pub b : l.b ≡ digit s.b
  pub c : l.c ≡ digit s.c

-- a packed line: its kind, two digits for its form, a digit for each field
abbrev pub unpacked : ℕ → Line
unpacked e =
    record { kind = e / 0x100000; form = e / 0x1000 % 0x100; a = e / 0x100 % 0x10; b = e / 0x10 % 0x10; c = e % 0x10 }

-- packed lines, by code
pub record Table (l : List ℕ) : Type 0 where
  pub line : (c : ℕ) → c < 61 → Tells (unpacked (get_or l c 0)) (shape_of c)
