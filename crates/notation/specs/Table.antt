-- The notation in which images are written for people: a line for each code of 01's table of codes, in the words of the
-- report's Figure 1, and lines for what else stands in an image. Assumes nothing.
use Rattle.std.specs.Prelude.{List, [], ◌∷◌, ◌++◌, ℕ, replicate}
use Prim.Native.String.{String}
use Rattle.text.specs.Emit.{bytes}

-- Digits, and the letters A to W but G, S, T and V, are marks (Texts.antt has what each stands for):
-- A, B, C: the row in field a, b, c. D, F: the action in a, b, deeper. N: the variables of the items in a. Q, R: the next item,
-- in c, b, after a comma. W: the condition in b after "where".
-- 0, 1, 2: the number in a, b, c. 3, 4: the literal in b, c. 5, 6: the type in a, b. 9: the code.
-- L: the line's margin, row number and indentation. I: its indentation. M: a state's margin. P: a pointer. E: the line's end.
-- U: a line's end in a graph's text.

-- 1: a variable
abbrev variables : List String
variables =
    "PV0"
    ∷ []

-- 16 to 27: not, and, or; negate, plus, minus, times, quotient, remainder; equal, less, less or equal
abbrev operators : List String
operators =
    "Pnot A"
    ∷ "P(A and B)"
    ∷ "P(A or B)"
    ∷ "P(-A)"
    ∷ "P(A + B)"
    ∷ "P(A - B)"
    ∷ "P(A * B)"
    ∷ "P(A quotient B)"
    ∷ "P(A remainder B)"
    ∷ "P(A = B)"
    ∷ "P(A < B)"
    ∷ "P(A <= B)"
    ∷ []

-- 32 to 35: any, variable, (constant), where
abbrev patterns : List String
patterns =
    "Pany 5"
    ∷ "PV0"
    ∷ "?"
    ∷ "PA where B"
    ∷ []

-- 40, 41: offers, each with the next
abbrev offers : List String
offers =
    " !AB"
    ∷ " ?AB"
    ∷ []

-- 44 to 47: an item's expression; its type; (46 has neither); a range
abbrev items : List String
items =
    "BQ"
    ∷ "6Q"
    ∷ "?"
    ∷ "V0 in 3..4"
    ∷ []

-- 48 to 56: null, assign, any, reset, communicate, to, then, select, case
abbrev actions : List String
actions =
    "LnullE"
    ∷ "LN := AE"
    ∷ "LN := any AWE"
    ∷ "Lreset NE"
    ∷ "LG0BE"
    ∷ "Lto S0E"
    ∷ "AB"
    ∷ "LselectEAIendE"
    ∷ "Lcase A isEBIendE"
    ∷ []

-- 57 to 60: branch, arm, while, for
abbrev choices : List String
choices =
    "L[]EDB"
    ∷ "L| A ->EFC"
    ∷ "Lwhile A doEFIendE"
    ∷ "Lfor A doEFIendE"
    ∷ []

-- 64 to 66: the variable of an item of code 44, 45, 46
abbrev names : List String
names =
    "V0Q"
    ∷ "V0Q"
    ∷ "V0R"
    ∷ []

-- 67 to 71: the constants false and true, of int, of another type; a communication on gate 0
abbrev constants : List String
constants =
    "Pfalse"
    ∷ "Ptrue"
    ∷ "P3"
    ∷ "PT0.1"
    ∷ "LtauBE"
    ∷ []

-- 72 to 75: the image's length; the trailer in three pieces
abbrev trailer : List String
trailer =
    "image: 0 bytes readE"
    ∷ "starts: types 0, variables 1, states 2"
    ∷ ", rows 0Egates 1, condition in row 2"
    ∷ ", length 0E"
    ∷ []

-- 76 to 84: types (bool, int, others), variables (plain, parameters, damaged), gates
abbrev tables : List String
tables =
    "typesE"
    ∷ "  T0 bool, number of values 1E"
    ∷ "  T0 int, number of values 1E"
    ∷ "  T0, number of values 1E"
    ∷ "variablesE"
    ∷ "  V0 6E"
    ∷ "  V0 6, parameterE"
    ∷ "  V0 6, second field 2E"
    ∷ "gates: 0, G1 is tauE"
    ∷ []

-- 85 to 91: the condition, and as a row; states, as a row, and with their actions; rows as they are
abbrev roots : List String
roots =
    "condition: AE"
    ∷ "Mcondition in row 0E"
    ∷ "statesE"
    ∷ "MS0 in row 1E"
    ∷ "Mstate S0EB"
    ∷ "rowsE"
    ∷ "L9 0 1 2E"
    ∷ []

-- 92 to 94: a state's set, its end; accepted
abbrev sets : List String
sets =
    "  S0 is entered with"
    ∷ "E"
    ∷ "acceptedE"
    ∷ []

-- 96 to 107: "Numbers given instead"
abbrev refusals : List String
refusals =
    "?"
    ∷ "refused 1: image length outside limitsE"
    ∷ "refused 1: mark or length field wrongE"
    ∷ "refused 1: starts, table sizes or counts wrongE"
    ∷ "refused 1: a type or variable entry wrongE"
    ∷ "refused 1: row malformed: code, field, range, child, list; row 0E"
    ∷ "refused 1: state's row not an action (condition: not an expression); place 0E"
    ∷ "refused 1: row not named exactly once; row 0E"
    ∷ "refused 1: typing; row 0E"
    ∷ "refused 1: binding; row 0E"
    ∷ "refused 1: sets buffer shorter than statesE"
    ∷ "refused 1: initialisation; state 0E"
    ∷ "refused 1: speech; state 0E"
    ∷ []

-- 108 to 115: a graph, a state's box, an arrow, its end, the graph's end, a refusal's box; gates on the way to a jump
abbrev graphs : List String
graphs =
    "digraph automaton {U  node [shape=box, fontname=monospace]U"
    ∷ "  S0 [label=\"Mstate S0EB\"]U"
    ∷ "  S0 -> S1 [label=\""
    ∷ "\"]U"
    ∷ "}U"
    ∷ "  refused [label=\""
    ∷ " tau"
    ∷ " G0"
    ∷ []

-- lines of text, each with its end
abbrev pub ended : List String → List ℕ
ended [] = []
ended (s ∷ ss) = bytes s ++ (10 ∷ ended ss)

-- line k is how a row of code k is written
abbrev pub notation_lines : List String
notation_lines =
    replicate 1 "?"
    ++ variables
    ++ replicate 14 "?"
    ++ operators
    ++ replicate 4 "?"
    ++ patterns
    ++ replicate 4 "?"
    ++ offers
    ++ replicate 2 "?"
    ++ items
    ++ actions
    ++ choices
    ++ replicate 3 "?"
    ++ names
    ++ constants
    ++ trailer
    ++ tables
    ++ roots
    ++ sets
    ++ refusals
    ++ graphs

-- the notation as one text
unfoldable pub notation : List ℕ
notation = ended notation_lines
