-- The starred cases of 01 ("Worked automaton and edges") and one for each item of "Tempting and wrong", as one list. Assumes
-- nothing.
use mathlib.Core.{Path.◌≡◌, List.List, List.[], List.◌∷◌, List.◌++◌}
use Rattle.std.specs.Prelude.{ℕ, ◌+◌, ◌*◌, Ok, Err}
use lib.{IntN.ℤ, IntN.pos, IntN.negsuc, ListN.length, ListN.replicate}
use Rattle.model.specs.declared.{State.State, Fields.Fields, Image.Image, Refusal.TheVariants.Initialisation, Refusal.TheVariants.Speech, Refusal.TheVariants.Blocked, Refusal.TheVariants.Undefined, Refusal.TheVariants.ParameterValue, Refusal.TheVariants.BudgetSpent, Refusal.Refusal}
use Rattle.model.specs.Answers.{state, variable, row}
use Rattle.model.specs.Bytes.{bytes_of}
use Rattle.model.specs.Image.{Entry, none, bool, int}
use Rattle.model.specs.Calls.{check, Checked, start, Started, step, StepDone}
use Rattle.model.specs.Exports.{heading, listing}

-- numbers as they stand in an image
unfoldable pub halves : List ℕ → List ℕ
halves [] = []
halves (n ∷ ns) = bytes_of 2 n ++ halves ns

unfoldable pub entry_bytes : List Entry → List ℕ
entry_bytes [] = []
entry_bytes (e ∷ es) = halves (e.type ∷ e.parameter ∷ []) ++ entry_bytes es

unfoldable pub row_bytes : List Fields → List ℕ
row_bytes [] = []
row_bytes (w ∷ ws) = halves (w.code ∷ w.a ∷ w.b ∷ w.c ∷ []) ++ row_bytes ws

unfoldable pub trailer_bytes : Image → List ℕ
trailer_bytes i =
    halves (i.types ∷ i.variables ∷ i.states ∷ i.rows ∷ i.gates ∷ i.condition ∷ i.length ∷ []) ++ (0x4E ∷ 0x54 ∷ [])

-- an image's bytes from its types' numbers of values, its variables, its states' rows, its rows and its trailer
unfoldable pub encode : List ℕ → List Entry → List ℕ → List Fields → Image → List ℕ
encode types variables states rows i = halves types ++ (entry_bytes variables ++ (halves states ++ (row_bytes rows ++ trailer_bytes i)))

abbrev pub trailer : ℕ → ℕ → ℕ → ℕ → ℕ → ℕ → ℕ → Image
trailer t v s r g c n = record { types = t; variables = v; states = s; rows = r; gates = g; condition = c; length = n }

-- a small image with bool and int alone and three gates: the starts follow from the tables
unfoldable pub small : List Entry → List ℕ → List Fields → List ℕ
small variables states rows =
    let s = 4 + 4 * length variables in
    let r = s + 2 * length states in
    encode (2 ∷ 0 ∷ []) variables states rows (trailer 0 4 s r 3 0 (r + 8 * length rows + 16))

abbrev pub w : ℕ → ℕ → ℕ → ℕ → Fields
w code a b c = record { code = code; a = a; b = b; c = c }

abbrev pub local : ℕ → Entry
local t = record { type = t; parameter = 0 }

abbrev pub parameter : ℕ → Entry
parameter t = record { type = t; parameter = 1 }

-- rows 0 to 22 of the table writer
unfoldable pub writing : List Fields
writing =
    w 2 0 1 0 ∷ w 2 1 0 0 ∷ w 44 0 1 none ∷ w 49 2 0 0 ∷ w 53 1 0 0 ∷ w 54 3 4 0 ∷ w 1 0 0 0 ∷ w 2 1 127 0 ∷ w 27 6 7 0
    ∷ w 1 0 0 0 ∷ w 1 1 0 0 ∷ w 40 10 none 0 ∷ w 40 9 11 0 ∷ w 52 1 12 0 ∷ w 1 0 0 0 ∷ w 2 1 1 0 ∷ w 20 14 15 0
    ∷ w 44 0 16 none ∷ w 49 17 0 0 ∷ w 53 1 0 0 ∷ w 54 18 19 0 ∷ w 54 13 20 0 ∷ w 34 0 1 0 ∷ []

-- the table writer: i is variable 0, q variable 1, a parameter
unfoldable pub writer : List ℕ
writer =
    encode (2 ∷ 0 ∷ []) (local int ∷ parameter int ∷ []) (5 ∷ 29 ∷ 30 ∷ [])
    (writing ++ (w 52 2 none 0 ∷ w 53 2 0 0 ∷ w 54 23 24 0 ∷ w 34 0 0 0 ∷ w 58 26 25 none ∷ w 58 22 21 27 ∷ w 56 8 28 0
    ∷ w 55 none 0 0 ∷ []))
    (trailer 0 4 12 18 3 0 282)

-- rows 23 to 27 cut
unfoldable pub cut : List ℕ
cut =
    encode (2 ∷ 0 ∷ []) (local int ∷ parameter int ∷ []) (5 ∷ 24 ∷ 25 ∷ [])
    (writing ++ (w 58 22 21 none ∷ w 56 8 23 0 ∷ w 55 none 0 0 ∷ [])) (trailer 0 4 12 18 3 0 242)

-- the table writer with state 1 as "communicate on gate 1; case i <= 127 is true -> to 1 end"
unfoldable pub forgotten : List ℕ
forgotten =
    small (local int ∷ parameter int ∷ []) (5 ∷ 14 ∷ 15 ∷ [])
    (w 2 0 1 0 ∷ w 2 1 0 0 ∷ w 44 0 1 none ∷ w 49 2 0 0 ∷ w 53 1 0 0 ∷ w 54 3 4 0 ∷ w 52 1 none 0 ∷ w 1 0 0 0 ∷ w 2 1 127 0
    ∷ w 27 7 8 0 ∷ w 34 0 1 0 ∷ w 53 1 0 0 ∷ w 58 10 11 none ∷ w 56 9 12 0 ∷ w 54 6 13 0 ∷ w 55 none 0 0 ∷ [])

-- "to 0; i := v", v never set
unfoldable pub dead : List ℕ
dead =
    small (local int ∷ local int ∷ []) (5 ∷ [])
    (w 2 0 1 0 ∷ w 53 0 0 0 ∷ w 1 1 0 0 ∷ w 44 0 2 none ∷ w 49 3 0 0 ∷ w 54 1 4 0 ∷ [])

-- "while true do reset i end", i a parameter
unfoldable pub losing : List ℕ
losing = small (parameter int ∷ []) (4 ∷ []) (w 2 0 1 0 ∷ w 2 0 1 0 ∷ w 46 0 none 0 ∷ w 51 2 0 0 ∷ w 59 1 3 0 ∷ [])

-- x, y, z := 32,767 plus 1, −7 by 2, −7 remainder 2; to 0
unfoldable pub sums : List ℕ
sums =
    small (local int ∷ local int ∷ local int ∷ []) (15 ∷ [])
    (w 2 0 1 0 ∷ w 2 1 0x7FFF 0 ∷ w 2 1 1 0 ∷ w 20 1 2 0 ∷ w 2 1 0xFFF9 0 ∷ w 2 1 2 0 ∷ w 23 4 5 0 ∷ w 2 1 0xFFF9 0 ∷ w 2 1 2 0
    ∷ w 24 7 8 0 ∷ w 44 2 9 none ∷ w 44 1 6 10 ∷ w 44 0 3 11 ∷ w 49 12 0 0 ∷ w 53 0 0 0 ∷ w 54 13 14 0 ∷ [])

-- for i in 3..2 do communicate on gate 1; to 0 end; to 0
unfoldable pub unentered : List ℕ
unentered =
    small (local int ∷ []) (7 ∷ [])
    (w 2 0 1 0 ∷ w 47 0 3 2 ∷ w 52 1 none 0 ∷ w 53 0 0 0 ∷ w 54 2 3 0 ∷ w 60 1 4 0 ∷ w 53 0 0 0 ∷ w 54 5 6 0 ∷ [])

-- case i is j where j = 99 -> to 0 | any int -> communicate on gate 1 !j; to 0 end
unfoldable pub threading : List ℕ
threading =
    small (parameter int ∷ parameter int ∷ []) (16 ∷ [])
    (w 2 0 1 0 ∷ w 1 0 0 0 ∷ w 33 1 0 0 ∷ w 1 1 0 0 ∷ w 2 1 99 0 ∷ w 25 3 4 0 ∷ w 35 2 5 0 ∷ w 53 0 0 0 ∷ w 32 1 0 0 ∷ w 1 1 0 0
    ∷ w 40 9 none 0 ∷ w 52 1 10 0 ∷ w 53 0 0 0 ∷ w 54 11 12 0 ∷ w 58 8 13 none ∷ w 58 6 7 14 ∷ w 56 1 15 0 ∷ [])

-- x, y := y, x; to 0
unfoldable pub exchanging : List ℕ
exchanging =
    small (parameter int ∷ parameter int ∷ []) (7 ∷ [])
    (w 2 0 1 0 ∷ w 1 1 0 0 ∷ w 1 0 0 0 ∷ w 44 1 2 none ∷ w 44 0 1 3 ∷ w 49 4 0 0 ∷ w 53 0 0 0 ∷ w 54 5 6 0 ∷ [])

-- communicate on gate 1; case b is any bool where true -> to 0 end
unfoldable pub guarded_arm : List ℕ
guarded_arm =
    small (parameter bool ∷ []) (9 ∷ [])
    (w 2 0 1 0 ∷ w 52 1 none 0 ∷ w 1 0 0 0 ∷ w 32 0 0 0 ∷ w 2 0 1 0 ∷ w 35 3 4 0 ∷ w 53 0 0 0 ∷ w 58 5 6 none ∷ w 56 2 7 0
    ∷ w 54 1 8 0 ∷ [])

-- communicate on gate 1; case b is true where true -> to 0 | false -> to 0 end
unfoldable pub guarded_constant : List ℕ
guarded_constant =
    small (parameter bool ∷ []) (12 ∷ [])
    (w 2 0 1 0 ∷ w 52 1 none 0 ∷ w 1 0 0 0 ∷ w 34 0 1 0 ∷ w 2 0 1 0 ∷ w 35 3 4 0 ∷ w 53 0 0 0 ∷ w 34 0 0 0 ∷ w 53 0 0 0
    ∷ w 58 7 8 none ∷ w 58 5 6 9 ∷ w 56 2 10 0 ∷ w 54 1 11 0 ∷ [])

-- while b do reset x; y := 1 end; to 1; and state 1: y := y; to 1
unfoldable pub zero_rounds : List ℕ
zero_rounds =
    small (parameter bool ∷ parameter int ∷ local int ∷ []) (10 ∷ 15 ∷ [])
    (w 2 0 1 0 ∷ w 1 0 0 0 ∷ w 46 1 none 0 ∷ w 51 2 0 0 ∷ w 2 1 1 0 ∷ w 44 2 4 none ∷ w 49 5 0 0 ∷ w 54 3 6 0 ∷ w 59 1 7 0
    ∷ w 53 1 0 0 ∷ w 54 8 9 0 ∷ w 1 2 0 0 ∷ w 44 2 11 none ∷ w 49 12 0 0 ∷ w 53 1 0 0 ∷ w 54 13 14 0 ∷ [])

-- while b do y := 1 end; to 1; and state 1: y := y; to 1
unfoldable pub keeping : List ℕ
keeping =
    small (parameter bool ∷ local int ∷ []) (7 ∷ 12 ∷ [])
    (w 2 0 1 0 ∷ w 1 0 0 0 ∷ w 2 1 1 0 ∷ w 44 1 2 none ∷ w 49 3 0 0 ∷ w 59 1 4 0 ∷ w 53 1 0 0 ∷ w 54 5 6 0 ∷ w 1 1 0 0
    ∷ w 44 1 8 none ∷ w 49 9 0 0 ∷ w 53 1 0 0 ∷ w 54 10 11 0 ∷ [])

-- a call, its input, and what it gives with the lent words after it; an image's length; what the lister writes
pub data Case : Type 0 where
  long : (image : List ℕ) (n : ℕ) → Case
  lists : (image text : List ℕ) → Case
  checks : (image sets : List ℕ) → Checked → Case
  starts : (image : List ℕ) (params store : List ℤ) → Started → Case
  steps : (image : List ℕ) (q : State) (store : List ℤ) (script : List ℕ) (budget : ℕ) (label : List ℤ) → StepDone → Case

abbrev pub Right : Case → Type 0
Right (long image n) = length image ≡ n
Right (lists image text) = listing image ≡ text
Right (checks image sets e) = check image sets ≡ e
Right (starts image params store e) = start image params store ≡ e
Right (steps image q store script budget label e) = step image q store script budget label ≡ e

pub data AllRight : List Case → Type 0 where
  done : AllRight []
  both : {c : Case} {cs : List Case} → Right c → AllRight cs → AllRight (c ∷ cs)

-- undefined
abbrev pub undefined : ℤ
undefined = pos 65536

-- a label buffer of eleven words with old content, and the same after a step that moves
abbrev pub old : List ℤ
old = replicate 11 (pos 9)

abbrev pub silent : List ℤ
silent = (negsuc 0 ∷ replicate 9 (pos 0)) ++ (pos 9 ∷ [])

abbrev pub refused : Refusal → List ℕ → Checked
refused y sets = record { answer = Err y; sets = sets }

abbrev pub accepted : List ℕ → Checked
accepted sets = record { answer = Ok tt; sets = sets }

abbrev pub stays : Refusal → List ℤ → StepDone
stays y store = record { answer = Err y; store = store; label = old }

abbrev pub moves : ℕ → ℕ → List ℤ → List ℤ → StepDone
moves q units store label = record { answer = Ok (record { next = state q; words = 0; units = units }); store = store; label = label }

unfoldable pub cases : List Case
cases =
    long writer 282
    ∷ checks writer (7 ∷ 7 ∷ 7 ∷ 7 ∷ []) (accepted (2 ∷ 3 ∷ 3 ∷ 7 ∷ []))
    -- what the lister writes for the table writer
    ∷ lists writer (heading ++ (48 ∷ 32 ∷ 53 ∷ 32 ∷ 49 ∷ 10 ∷ 49 ∷ 32 ∷ 50 ∷ 57 ∷ 32 ∷ 50 ∷ 10 ∷ 50 ∷ 32 ∷ 51 ∷ 48 ∷ 32 ∷ 50 ∷ 10 ∷ []))
    ∷ starts writer (pos 2 ∷ []) (pos 8 ∷ pos 8 ∷ []) (record { answer = Ok tt; store = undefined ∷ pos 2 ∷ [] })
    ∷ starts writer (pos 32768 ∷ []) (pos 8 ∷ pos 8 ∷ []) (record { answer = Err (ParameterValue (variable 1)); store = pos 8 ∷ pos 8 ∷ [] })
    -- State 0 moves to 1, no communication, 3 units, no words
    ∷ steps writer (state 0) (undefined ∷ pos 2 ∷ []) [] 1000000 old (moves 1 3 (pos 0 ∷ pos 2 ∷ []) silent)
    -- State 1, i 5, q 2: label 1, 2, 5, 2; to 1; i 6; 6 units. Budget 5: 25 at row 19
    ∷ steps writer (state 1) (pos 5 ∷ pos 2 ∷ []) [] 1000000 old
    (moves 1 6 (pos 6 ∷ pos 2 ∷ []) ((pos 1 ∷ pos 2 ∷ pos 5 ∷ pos 2 ∷ replicate 6 (pos 0)) ++ (pos 9 ∷ [])))
    ∷ steps writer (state 1) (pos 5 ∷ pos 2 ∷ []) [] 5 old (stays (BudgetSpent (row 19)) (pos 5 ∷ pos 2 ∷ []))
    -- State 1, i 128: label 2, 0; to 2; 4 units. Budget 3: 25 at row 24
    ∷ steps writer (state 1) (pos 128 ∷ pos 2 ∷ []) [] 1000000 old
    (moves 2 4 (pos 128 ∷ pos 2 ∷ []) ((pos 2 ∷ replicate 9 (pos 0)) ++ (pos 9 ∷ [])))
    ∷ steps writer (state 1) (pos 128 ∷ pos 2 ∷ []) [] 3 old (stays (BudgetSpent (row 24)) (pos 128 ∷ pos 2 ∷ []))
    -- State 2: 21 at row 30
    ∷ steps writer (state 2) (pos 128 ∷ pos 2 ∷ []) [] 1000000 old (stays (Blocked (row 30)) (pos 128 ∷ pos 2 ∷ []))
    -- State 1, i undefined: 22 at row 29
    ∷ steps writer (state 1) (undefined ∷ pos 2 ∷ []) [] 1000000 old (stays (Undefined (row 29)) (undefined ∷ pos 2 ∷ []))
    -- Rows 23 to 27 cut: accepted; state 1 with i 128 gives 21 at row 24
    ∷ long cut 242
    ∷ checks cut (7 ∷ 7 ∷ 7 ∷ []) (accepted (2 ∷ 3 ∷ 3 ∷ []))
    ∷ steps cut (state 1) (pos 128 ∷ pos 2 ∷ []) [] 1000000 old (stays (Blocked (row 24)) (pos 128 ∷ pos 2 ∷ []))
    -- State 1 as "communicate on gate 1; case i <= 127 is true -> to 1 end": 12 at state 1
    ∷ checks forgotten (7 ∷ 7 ∷ 7 ∷ []) (refused (Speech (state 1)) (7 ∷ 7 ∷ 7 ∷ []))
    -- "to 0; i := v", v never set: accepted
    ∷ checks dead (7 ∷ []) (accepted (0 ∷ []))
    -- "while true do reset i end", i a parameter: 11
    ∷ checks losing (7 ∷ []) (refused (Initialisation (state 0)) (7 ∷ []))
    -- 32,767 plus 1 is −32,768; −7 by 2 is −3, remainder −1
    ∷ steps sums (state 0) (undefined ∷ undefined ∷ undefined ∷ []) [] 1000000 old
    (moves 0 3 (negsuc 32767 ∷ negsuc 2 ∷ negsuc 0 ∷ []) silent)
    -- for i in 3..2: body not run, i is 3
    ∷ checks unentered (7 ∷ []) (accepted (0 ∷ []))
    ∷ steps unentered (state 0) (undefined ∷ []) [] 1000000 old (moves 0 3 (pos 3 ∷ []) silent)
    -- Tempting 1: the failed pattern's j is not kept for the next arm
    ∷ steps threading (state 0) (pos 5 ∷ pos 7 ∷ []) [] 1000000 old
    (moves 0 4 (pos 5 ∷ pos 7 ∷ []) ((pos 1 ∷ pos 1 ∷ pos 7 ∷ replicate 7 (pos 0)) ++ (pos 9 ∷ [])))
    -- Tempting 2: x, y := y, x exchanges
    ∷ steps exchanging (state 0) (pos 5 ∷ pos 7 ∷ []) [] 1000000 old (moves 0 3 (pos 7 ∷ pos 5 ∷ []) silent)
    -- Tempting 3: a guarded arm doesn't count toward exhaustiveness
    ∷ checks guarded_arm (7 ∷ []) (refused (Speech (state 0)) (7 ∷ []))
    ∷ checks guarded_constant (7 ∷ []) (refused (Speech (state 0)) (7 ∷ []))
    -- Tempting 4: Figure 7 as printed goes on with the body's y, which zero rounds don't set, and accepts
    ∷ checks zero_rounds (7 ∷ 7 ∷ []) (refused (Initialisation (state 0)) (7 ∷ 7 ∷ []))
    -- a loop keeps its entering set, so y isn't set at state 1
    ∷ checks keeping (7 ∷ 7 ∷ []) (refused (Initialisation (state 1)) (7 ∷ 7 ∷ []))
    ∷ []
