-- The lines of the notation that aren't a row's, by name: the code has the same names (src/lines.rt), with underscores. Assumes nothing.
use Rattle.std.specs.Prelude.{ℕ}

-- constants, by type
abbrev pub FALSE : ℕ
FALSE = 67

abbrev pub TRUE : ℕ
TRUE = 68

abbrev pub INT : ℕ
INT = 69

abbrev pub VALUE : ℕ
VALUE = 70

-- a communication on gate 0, and on another
abbrev pub TAU : ℕ
TAU = 71

abbrev pub COMMUNICATE : ℕ
COMMUNICATE = 52

-- the trailer
abbrev pub IMAGE : ℕ
IMAGE = 72

abbrev pub STARTS : ℕ
STARTS = 73

abbrev pub COUNTS : ℕ
COUNTS = 74

abbrev pub LENGTH : ℕ
LENGTH = 75

-- the tables
abbrev pub TYPES : ℕ
TYPES = 76

abbrev pub BOOL-TYPE : ℕ
BOOL-TYPE = 77

abbrev pub INT-TYPE : ℕ
INT-TYPE = 78

abbrev pub OTHER-TYPE : ℕ
OTHER-TYPE = 79

abbrev pub VARIABLES : ℕ
VARIABLES = 80

abbrev pub VARIABLE : ℕ
VARIABLE = 81

abbrev pub PARAMETER : ℕ
PARAMETER = 82

abbrev pub DAMAGED : ℕ
DAMAGED = 83

abbrev pub GATES : ℕ
GATES = 84

-- the condition, the states and the rows, in the notation and as they are
abbrev pub CONDITION : ℕ
CONDITION = 85

abbrev pub CONDITION-ROW : ℕ
CONDITION-ROW = 86

abbrev pub STATES : ℕ
STATES = 87

abbrev pub STATE-ROW : ℕ
STATE-ROW = 88

abbrev pub STATE : ℕ
STATE = 89

abbrev pub ROWS : ℕ
ROWS = 90

abbrev pub ROW : ℕ
ROW = 91

-- the verdict; refusal n is line REFUSED + n
abbrev pub SET : ℕ
SET = 92

abbrev pub SET-END : ℕ
SET-END = 93

abbrev pub ACCEPTED : ℕ
ACCEPTED = 94

abbrev pub REFUSED : ℕ
REFUSED = 95

-- a graph
abbrev pub GRAPH : ℕ
GRAPH = 108

abbrev pub BOX : ℕ
BOX = 109

abbrev pub ARROW : ℕ
ARROW = 110

abbrev pub LABEL-END : ℕ
LABEL-END = 111

abbrev pub GRAPH-END : ℕ
GRAPH-END = 112

abbrev pub REFUSED-BOX : ℕ
REFUSED-BOX = 113

abbrev pub SPOKEN-TAU : ℕ
SPOKEN-TAU = 114

abbrev pub SPOKEN-GATE : ℕ
SPOKEN-GATE = 115
