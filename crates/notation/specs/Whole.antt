-- What is written of an image: its tables, its rows or its states' actions, the verdict. Assumes nothing.
use mathlib.Core.{Bool.Bool, Bool.true, Bool.false, List.List, List.[], List.◌++◌}
use Rattle.std.specs.Prelude.{ℕ, ◌+◌, min, Ok, Err}
use lib.{Dec.eqb, Dec.ltb, ListN.length, ListN.get_or, ListN.replicate}
use Rattle.model.specs.declared.{Image.Image, Fields.Fields, Refusal.Refusal}
use Rattle.model.specs.Limits.{limits}
use Rattle.model.specs.Answers.{variable, number, place, Verdict}
use Rattle.model.specs.Masks.{bit, inside}
use Rattle.model.specs.Image.{Tables, none, bool, int, trailer_of, tables_of, size_of, entry_of, fields_of, type_count, variable_count, state_count, row_count}
use Rattle.model.specs.Calls.{check}
use Rattle.model.specs.Exports.{decimal}
use Rattle.text.specs.Emit.{bytes}
use Rattle.notation.specs.declared.{Style.Style, Table.Table, Table.TheVariants.Types, Table.TheVariants.Variables, Table.TheVariants.Rows, Table.TheVariants.States, Filling.Filling}
use Rattle.notation.specs.Table.{notation}
use Rattle.notation.specs.Texts.{line_from, each, aim_at, filled, line_text}
use Rattle.notation.specs.Lines.{IMAGE, STARTS, COUNTS, LENGTH, TYPES, BOOL-TYPE, INT-TYPE, OTHER-TYPE, VARIABLES, VARIABLE, PARAMETER, DAMAGED, GATES, CONDITION, CONDITION-ROW, STATES, STATE-ROW, STATE, ROWS, ROW, SET, SET-END, ACCEPTED, REFUSED}

abbrev pub fields_with : ℕ → ℕ → ℕ → Fields
fields_with a b c = record { code = 0; a = a; b = b; c = c }

abbrev pub filling : ℕ → ℕ → ℕ → ℕ → Filling
filling k a b c = record { line = k; fields = fields_with a b c }

-- a line in which no mark stands for a row
unfoldable pub words_text : Style → ℕ → Fields → ℕ → List ℕ
words_text st k w r = filled (λ t. []) st (aim_at r) w (line_from k notation)

-- a type, a variable, a state and a row, each as a line
unfoldable pub type_line : ℕ → ℕ
type_line t = elim (eqb t bool) [ true ↦ BOOL-TYPE | false ↦ elim (eqb t int) [ true ↦ INT-TYPE | false ↦ OTHER-TYPE ] ]

unfoldable pub variable_line : ℕ → ℕ
variable_line p = elim (eqb p 0) [ true ↦ VARIABLE | false ↦ elim (eqb p 1) [ true ↦ PARAMETER | false ↦ DAMAGED ] ]

unfoldable pub type_filling : Tables → ℕ → Filling
type_filling x t = filling (type_line t) t (size_of x t) 0

unfoldable pub variable_filling : Tables → ℕ → Filling
variable_filling x v = let e = entry_of x (variable v) in filling (variable_line e.parameter) v e.type e.parameter

unfoldable pub state_filling : Tables → ℕ → ℕ → Filling
state_filling x k q = filling k q (get_or x.states q none) 0

unfoldable pub row_filling : Tables → ℕ → Filling
row_filling x r = record { line = ROW; fields = fields_of x r }

-- entry q of a table
unfoldable pub filling_of : Tables → Table → ℕ → Filling
filling_of x Types q = type_filling x q
filling_of x Variables q = variable_filling x q
filling_of x Rows q = row_filling x q
filling_of x (States k) q = state_filling x k q

unfoldable pub count_of : Image → Table → ℕ
count_of i Types = type_count i
count_of i Variables = variable_count i
count_of i Rows = row_count i
count_of i (States k) = state_count i

unfoldable pub entry_text : Tables → Style → Table → ℕ → List ℕ
entry_text x st k q = let f = filling_of x k q in line_text limits.rows x st f.line f.fields q

unfoldable pub table_text : Tables → Image → Style → Table → List ℕ
table_text x i st k = each (entry_text x st k) (count_of i k)

-- 1, 2: the length alone (a longer image is not read on); 3: the trailer
unfoldable pub length_text : Style → List ℕ → List ℕ
length_text st s = words_text st IMAGE (fields_with (min (length s) 0xFFFF) 0 0) 0

unfoldable pub trailer_text : Style → Image → List ℕ
trailer_text st i =
    words_text st STARTS (fields_with i.types i.variables i.states) 0
    ++ words_text st COUNTS (fields_with i.rows i.gates i.condition) 0
    ++ words_text st LENGTH (fields_with i.length 0 0) 0

-- 4: types, variables and gates too
unfoldable pub tables_text : Tables → Image → Style → List ℕ
tables_text x i st =
    trailer_text st i
    ++ words_text st TYPES (fields_with 0 0 0) 0
    ++ table_text x i st Types
    ++ words_text st VARIABLES (fields_with 0 0 0) 0
    ++ table_text x i st Variables
    ++ words_text st GATES (fields_with i.gates 0 0) 0

-- 5 to 7: the states' rows, the condition's row and all rows as they are
unfoldable pub roots_text : Tables → Image → Style → List ℕ
roots_text x i st =
    words_text st STATES (fields_with 0 0 0) 0
    ++ table_text x i st (States STATE-ROW)
    ++ words_text st CONDITION-ROW (fields_with i.condition 0 0) (state_count i)

unfoldable pub raw_text : Tables → Image → Style → List ℕ
raw_text x i st =
    tables_text x i st
    ++ roots_text x i st
    ++ words_text st ROWS (fields_with 0 0 0) 0
    ++ table_text x i st Rows

-- free of 1 to 7: the condition and the states' actions in the report's notation
unfoldable pub listing_text : Tables → Image → Style → List ℕ
listing_text x i st =
    tables_text x i st
    ++ line_text limits.rows x st CONDITION (fields_with i.condition 0 0) 0
    ++ table_text x i st (States STATE)

-- the variables below n in a set
unfoldable pub member_text : ℕ → ℕ → List ℕ
member_text m v = elim (inside (bit v) m) [ true ↦ bytes " V" ++ decimal v [] | false ↦ [] ]

-- "variables surely defined on entering state s"
unfoldable pub set_text : Style → ℕ → List ℕ → ℕ → List ℕ
set_text st n sets q =
    words_text st SET (fields_with q 0 0) 0 ++ each (member_text (get_or sets q 0)) n ++ words_text st SET-END (fields_with 0 0 0) 0

unfoldable pub accepted_text : Style → Image → List ℕ → List ℕ
accepted_text st i sets = words_text st ACCEPTED (fields_with 0 0 0) 0 ++ each (set_text st (variable_count i) sets) (state_count i)

-- a refusal in the words of 01's table, with its number and place
unfoldable pub refusal_text : Style → Refusal → List ℕ
refusal_text st y = words_text st (REFUSED + number y) (fields_with (place y) (number y) 0) 0

-- 5 and 7 to 9 point at a row, 6, 11 and 12 at a state
unfoldable pub row_place : ℕ → ℕ → ℕ
row_place n p =
    elim (ltb n 5) [ true ↦ none | false ↦ elim (eqb n 6) [ true ↦ none | false ↦ elim (ltb n 10) [ true ↦ p | false ↦ none ] ] ]

unfoldable pub state_place : ℕ → ℕ → ℕ
state_place n p = elim (eqb n 6) [ true ↦ p | false ↦ elim (ltb n 11) [ true ↦ none | false ↦ p ] ]

unfoldable pub pointing : ℕ → ℕ → Bool → Style
pointing n p graph = record { place = row_place n p; state = state_place n p; graph = graph }

-- as much of a refused image as is sound to print, by the refusal's number
unfoldable pub shown_text : List ℕ → Style → ℕ → List ℕ
shown_text s st n =
    let i = trailer_of s in
    let x = tables_of s in
    elim (ltb n 3) [
      | true ↦ length_text st s
      | false ↦ elim (ltb n 4) [
        | true ↦ trailer_text st i
        | false ↦ elim (ltb n 5) [
          | true ↦ tables_text x i st
          | false ↦ elim (ltb n 8) [ true ↦ raw_text x i st | false ↦ listing_text x i st ]
        ]
      ]
    ]

-- an accepted image: nothing is pointed at
abbrev pub pointless : Bool → Style
pointless graph = record { place = none; state = none; graph = graph }

unfoldable pub explained_by : List ℕ → Verdict → List ℕ → List ℕ
explained_by s (Ok tt) sets =
    listing_text (tables_of s) (trailer_of s) (pointless false) ++ accepted_text (pointless false) (trailer_of s) sets
explained_by s (Err y) sets =
    let st = pointing (number y) (place y) false in
    shown_text s st (number y) ++ refusal_text st y

-- an image explained
unfoldable pub explained : List ℕ → List ℕ
explained s = let c = check s (replicate limits.states 0) in explained_by s c.answer c.sets
