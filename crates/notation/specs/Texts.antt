-- How the rows and the entries of an image are written: the notation's lines with their marks filled in. Assumes nothing.
use mathlib.Core.{Bool.Bool, Bool.true, Bool.false, List.List, List.[], List.◌∷◌, List.◌++◌}
use Rattle.std.specs.Prelude.{ℕ, zero, suc, ◌+◌}
use Prim.Native.Char.{Char, code}
use lib.{Dec.eqb, Dec.ltb}
use Rattle.model.specs.declared.Fields.{Fields}
use Rattle.model.specs.Image.{Tables, none, bool, int, fields_of}
use Rattle.model.specs.Exports.{decimal}
use Rattle.text.specs.Emit.{bytes, literal}
use Rattle.notation.specs.declared.{Lead.Lead, Lead.TheVariants.Nothing, Lead.TheVariants.Comma, Lead.TheVariants.Where, Aim.Aim, Style.Style}
use Rattle.notation.specs.Table.{notation}
use Rattle.notation.specs.Lines.{FALSE, TRUE, INT, VALUE, TAU, COMMUNICATE}

-- what stands after k line ends
unfoldable pub line_from : ℕ → List ℕ → List ℕ
line_from zero s = s
line_from (suc k) [] = []
line_from (suc k) (b ∷ s) = elim (eqb b 10) [ true ↦ line_from k s | false ↦ line_from (suc k) s ]

-- a line without its end and what stands after it
unfoldable pub up_to_end : List ℕ → List ℕ
up_to_end [] = []
up_to_end (b ∷ s) = elim (eqb b 10) [ true ↦ [] | false ↦ b ∷ up_to_end s ]

-- line k of the notation
unfoldable pub line_of : ℕ → List ℕ
line_of k = up_to_end (line_from k notation)

-- the texts of 0 to n - 1, one after another
unfoldable pub each : (ℕ → List ℕ) → ℕ → List ℕ
each f zero = []
each f (suc n) = each f n ++ f n

unfoldable pub blanks : ℕ → List ℕ
blanks n = each (λ k. 32 ∷ []) n

-- a row number takes six columns
unfoldable pub padding : ℕ → ℕ
padding r = elim (ltb r 10) [ true ↦ 5 | false ↦ elim (ltb r 100) [ true ↦ 4 | false ↦ elim (ltb r 1000) [ true ↦ 3 | false ↦ 2 ] ] ]

unfoldable pub type_name : ℕ → List ℕ
type_name t = elim (eqb t bool) [ true ↦ bytes "bool" | false ↦ elim (eqb t int) [ true ↦ bytes "int" | false ↦ 84 ∷ decimal t [] ] ]

-- a line's end; in a graph, the end of a line that is set left
unfoldable pub line_end : Bool → List ℕ
line_end true = bytes "\\l"
line_end false = 10 ∷ []

-- the margin of the line of r, and what stands before r in a line: they point at the place
unfoldable pub margin : ℕ → ℕ → List ℕ
margin place r = elim (eqb r place) [ true ↦ bytes "> " | false ↦ bytes "  " ]

unfoldable pub pointer : ℕ → ℕ → List ℕ
pointer place r = elim (eqb r place) [ true ↦ bytes ">>" | false ↦ [] ]

unfoldable pub line_start : Style → Aim → List ℕ
line_start st a = margin st.place a.row ++ decimal a.row [] ++ blanks (padding a.row) ++ blanks a.depth

-- a mark of the notation, by its byte, and the text that it stands for
pub record Mark : Type 0 where
  pub byte : ℕ
  pub text : List ℕ

abbrev pub mark : Char → List ℕ → Mark
mark c t = record { byte = code c; text = t }

-- any other byte stands for itself
unfoldable pub text_by : List Mark → ℕ → List ℕ
text_by [] b = b ∷ []
text_by (m ∷ ms) b = elim (eqb b m.byte) [ true ↦ m.text | false ↦ text_by ms b ]

-- what a byte of a row's line stands for: numbers, literals and types in the row's fields, its code; the start of its
-- line, an indented line without a row number, a state's margin, a pointer, a line's end; nothing where it stands for a row
unfoldable pub plain_text : Style → Aim → Fields → ℕ → List ℕ
plain_text st a w b =
    text_by (
    mark "0" (decimal w.a [])
    ∷ mark "1" (decimal w.b [])
    ∷ mark "2" (decimal w.c [])
    ∷ mark "3" (literal w.b)
    ∷ mark "4" (literal w.c)
    ∷ mark "5" (type_name w.a)
    ∷ mark "6" (type_name w.b)
    ∷ mark "9" (decimal w.code [])
    ∷ mark "L" (line_start st a)
    ∷ mark "I" (blanks 8 ++ blanks a.depth)
    ∷ mark "M" (margin st.state a.row)
    ∷ mark "P" (pointer st.place a.row)
    ∷ mark "E" (line_end st.graph)
    ∷ mark "U" (10 ∷ [])
    ∷ mark "A" []
    ∷ mark "B" []
    ∷ mark "C" []
    ∷ mark "D" []
    ∷ mark "F" []
    ∷ mark "N" []
    ∷ mark "Q" []
    ∷ mark "R" []
    ∷ mark "W" []
    ∷ []
    )
    b

-- a mark that stands for a row: which, after which words, how many lines of the notation on, how deep
pub record Leads : Type 0 where
  pub byte : ℕ
  pub aim : Aim

abbrev pub leads : Char → ℕ → Lead → ℕ → ℕ → Leads
leads c r l s d = record { byte = code c; aim = record { row = r; lead = l; shift = s; depth = d } }

-- any other byte stands for no row
unfoldable pub aim_by : List Leads → ℕ → Aim
aim_by [] b = record { row = none; lead = Nothing; shift = 0; depth = 0 }
aim_by (m ∷ ms) b = elim (eqb b m.byte) [ true ↦ m.aim | false ↦ aim_by ms b ]

-- two columns deeper, up to 40
unfoldable pub deeper : ℕ → ℕ
deeper d = elim (ltb d 40) [ true ↦ d + 2 | false ↦ d ]

-- rows a, b and c; actions a and b deeper; the variables of items a; the next item; the condition b
unfoldable pub aim_of : Aim → Fields → ℕ → Aim
aim_of a w b =
    aim_by (
    leads "A" w.a Nothing 0 a.depth
    ∷ leads "B" w.b Nothing 0 a.depth
    ∷ leads "C" w.c Nothing 0 a.depth
    ∷ leads "D" w.a Nothing 0 (deeper a.depth)
    ∷ leads "F" w.b Nothing 0 (deeper a.depth)
    ∷ leads "N" w.a Nothing 20 a.depth
    ∷ leads "Q" w.c Comma a.shift a.depth
    ∷ leads "R" w.b Comma a.shift a.depth
    ∷ leads "W" w.b Where 0 a.depth
    ∷ []
    )
    b

unfoldable pub lead_text : Lead → List ℕ
lead_text Nothing = []
lead_text Comma = bytes ", "
lead_text Where = bytes " where "

-- the line of a constant, by its type and value, and of a communication, by its gate
unfoldable pub constant_line : ℕ → ℕ → ℕ
constant_line t n = elim (eqb t int) [ true ↦ INT | false ↦ elim (eqb t bool) [ true ↦ elim (eqb n 0) [ true ↦ FALSE | false ↦ TRUE ] | false ↦ VALUE ] ]

unfoldable pub gate_line : ℕ → ℕ
gate_line g = elim (eqb g 0) [ true ↦ TAU | false ↦ COMMUNICATE ]

-- the line of a row
unfoldable pub row_line : Fields → ℕ
row_line w =
    elim (eqb w.code 2) [
      | true ↦ constant_line w.a w.b
      | false ↦ elim (eqb w.code 34) [
        | true ↦ constant_line w.a w.b
        | false ↦ elim (eqb w.code 52) [ true ↦ gate_line w.a | false ↦ w.code ]
      ]
    ]

-- a line filled in, up to its end
unfoldable pub filled : (Aim → List ℕ) → Style → Aim → Fields → List ℕ → List ℕ
filled row st a w [] = []
filled row st a w (b ∷ bs) = elim (eqb b 10) [ true ↦ [] | false ↦ (plain_text st a w b ++ row (aim_of a w b)) ++ filled row st a w bs ]

-- the text of a row, if it is one and rows are left to be gone through
unfoldable pub row_text : ℕ → Tables → Style → Aim → List ℕ
row_text zero x st a = []
row_text (suc n) x st a =
    elim (eqb a.row none) [
      | true ↦ []
      | false ↦
          let w = fields_of x a.row in
          lead_text a.lead ++ filled (λ t. row_text n x st t) st a w (line_from (row_line w + a.shift) notation)
    ]

-- line k of the notation, filled in with some fields, for row or state r
abbrev pub aim_at : ℕ → Aim
aim_at r = record { row = r; lead = Nothing; shift = 0; depth = 0 }

unfoldable pub line_text : ℕ → Tables → Style → ℕ → Fields → ℕ → List ℕ
line_text n x st k w r = filled (λ t. row_text n x st t) st (aim_at r) w (line_from k notation)
