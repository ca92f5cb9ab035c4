-- The calls as the C driver has them, "on numbers and byte slices (little-endian words; part words aren't counted and stay)",
-- and what the lister writes (01, "What we are building", "Worked automaton and edges"). Assumes nothing.
use mathlib.Core.{Bool.true, Bool.false, List.List, List.[], List.◌∷◌, List.◌++◌, List.map}
use Rattle.std.specs.Prelude.{ℕ, zero, suc, ◌+◌, ◌*◌, ◌/◌, ◌%◌, ◌^◌, Ok, Err}
use lib.{Dec.ltb, IntN.ℤ, ListN.length, ListN.get_or, ListN.take, ListN.replicate}
use Rattle.model.specs.declared.{Refusal.Refusal}
use Rattle.model.specs.Limits.{limits}
use Rattle.model.specs.Answers.{state, number, place, Verdict, Stepped}
use Rattle.model.specs.Bytes.{unsigned, words_of, signed_words, written}
use Rattle.model.specs.Masks.{digit}
use Rattle.model.specs.Image.{tables_of, none}
use Rattle.model.specs.Calls.{check, start, step}

-- a refusal: the number in bits 0 to 7, the place from bit 16 on
abbrev pub pack_refusal : Refusal → ℕ
pack_refusal y = number y + place y * 2 ^ 16

abbrev pub pack_verdict : Verdict → ℕ
pack_verdict (Ok _) = 0
pack_verdict (Err y) = pack_refusal y

-- a move: the next state in bits 8 to 15, the units used in bits 16 to 39, the words read in bits 40 to 63
abbrev pub pack_stepped : Stepped → ℕ
pack_stepped (Ok m) = m.next.0 * 2 ^ 8 + (m.units * 2 ^ 16 + m.words * 2 ^ 40)
pack_stepped (Err y) = pack_refusal y

-- signed 32-bit words written over a byte slice
abbrev pub written_back : List ℤ → List ℕ → List ℕ
written_back zs bytes = written 4 (map (unsigned (2 ^ 31)) zs) bytes

-- an export's answer, and the bytes lent after it
pub record Exported : Type 0 where
  pub answer : ℕ
  pub lent : List ℕ

unfoldable pub check_bytes : List ℕ → List ℕ → Exported
check_bytes image sets =
    let c = check image (words_of 8 sets) in record { answer = pack_verdict c.answer; lent = written 8 c.sets sets }

unfoldable pub start_bytes : List ℕ → List ℕ → List ℕ → Exported
start_bytes image params store =
    let c = start image (signed_words params) (signed_words store) in
    record { answer = pack_verdict c.answer; lent = written_back c.store store }

-- step lends a store and a label buffer
pub record ExportedStep : Type 0 where
  pub answer : ℕ
  pub store : List ℕ
  pub label : List ℕ

unfoldable pub step_bytes : List ℕ → ℕ → List ℕ → List ℕ → ℕ → List ℕ → ExportedStep
step_bytes image q store script budget label =
    let c = step image (state q) (signed_words store) script budget (signed_words label) in
    record { answer = pack_stepped c.answer; store = written_back c.store store; label = written_back c.label label }

-- a number's decimal digits before some text
unfoldable pub decimal_by : ℕ → ℕ → List ℕ → List ℕ
decimal_by zero n text = text
decimal_by (suc k) n text = elim (ltb n 10) [ true ↦ (48 + n) ∷ text | false ↦ decimal_by k (n / 10) ((48 + n % 10) ∷ text) ]

abbrev pub decimal : ℕ → List ℕ → List ℕ
decimal n text = decimal_by (suc n) n text

-- the variables below n in a mask
unfoldable pub count : ℕ → ℕ → ℕ
count m zero = 0
count m (suc n) = digit m n + count m n

-- "state row defined" and a newline
abbrev pub heading : List ℕ
heading = 115 ∷ 116 ∷ 97 ∷ 116 ∷ 101 ∷ 32 ∷ 114 ∷ 111 ∷ 119 ∷ 32 ∷ 100 ∷ 101 ∷ 102 ∷ 105 ∷ 110 ∷ 101 ∷ 100 ∷ 10 ∷ []

-- a line for each state: the state, its row, the number of variables in its set
unfoldable pub lines : List ℕ → ℕ → ℕ → List ℕ → List ℕ
lines rows variables s [] = []
lines rows variables s (m ∷ ms) =
    decimal s (32 ∷ decimal (get_or rows s none) (32 ∷ decimal (count m variables) (10 ∷ lines rows variables (suc s) ms)))

abbrev pub listed : Verdict → List ℕ → List ℕ
listed (Ok _) text = text
listed (Err y) text = decimal (number y) (32 ∷ decimal (place y) (10 ∷ []))

-- what the lister writes for an image: "A refused image gives one line, number and place"
unfoldable pub listing : List ℕ → List ℕ
listing image =
    let x = tables_of image in
    let c = check image (replicate limits.states 0) in
    listed c.answer (heading ++ lines x.states (length x.variables) 0 (take (length x.states) c.sets))
