-- The run of an action (report, section 3.4 and Figure 2; 01, "The step"; refusals 21 to 27): what it does with a script and
-- a budget. Assumes nothing.
use mathlib.Core.{Bool.Bool, Bool.true, Bool.false, Bool.not, Bool.cond, Bool.◌&&◌, Bool.◌||◌, List.List, List.[], List.◌∷◌, List.◌++◌}
use Rattle.std.specs.Prelude.{ℕ, zero, suc, ◌+◌, ◌-◌, ◌/◌, Option, Some, None}
use lib.{Dec.eqb, Dec.ltb, IntN.ℤ, IntN.pos, IntN.negsuc, ListN.length, ListN.get_or, ListN.set, ListN.replicate, Signed.lt_z, Signed.le_z}
use Rattle.model.specs.declared.{Gate.Gate, Variable.Variable, Tested.Tested, Tested.TheVariants.Holds, Tested.TheVariants.Fails, Tested.TheVariants.Unsure, Refusal.Refusal, Refusal.TheVariants.Blocked, Refusal.TheVariants.Undefined, Refusal.TheVariants.ScriptEnded, Refusal.TheVariants.WordOutOfRange, Refusal.TheVariants.BudgetSpent, Refusal.TheVariants.BlockedSpoken, Refusal.TheVariants.SecondCommunication, Outcome.Outcome, Outcome.TheVariants.Ends, Outcome.TheVariants.Jumps, Outcome.TheVariants.Stops}
use Rattle.model.specs.Limits.{limits}
use Rattle.model.specs.Answers.{row}
use Rattle.model.specs.Bytes.{word_at}
use Rattle.model.specs.Values.{mark, is_zero, negate, plus, minus, times, quotient, remainder, same, of_bool, of_size}
use Rattle.model.specs.Image.{Tables, none, int, size_of}
use Rattle.model.specs.Rows.{Unary, Not, Negate, Binary, logic, And, Or, arithmetic, Plus, Minus, Times, Quotient, Remainder, comparison, Equal, Less, AtMost}
use Rattle.model.specs.Trees.{Exp, var, const, unary, binary, Pat, any, bind, equals, guarded, Offer, emit, receive, Gets, OfType, Action, at, Act, null, assign, choose, reset, communicate, to, then, select, case, while, for, Branches, no_branch, branch, some_branch, Arms, no_arm, arm}
use Rattle.model.specs.Typing.{type_of_pat}

-- a store slot of a variable
unfoldable pub slot : Tables → List ℤ → Variable → ℤ
slot x m v = get_or m v.0 (mark x.half)

-- the store with a variable's slot set
unfoldable pub store : List ℤ → Variable → ℤ → List ℤ
store m v z = set m v.0 z

-- "a slot holding 65,536 is undefined"
unfoldable pub defined : Tables → List ℤ → Variable → Bool
defined x m v = not (same (slot x m v) (mark x.half))

-- the functions ⟦F⟧ of appendix B.1
unfoldable pub apply_unary : ℕ → Unary → ℤ → ℤ
apply_unary h Not a = of_bool (is_zero a)
apply_unary h Negate a = negate h a

unfoldable pub apply_binary : ℕ → Binary → ℤ → ℤ → ℤ
apply_binary h (logic And) a b = of_bool (not (is_zero a) && not (is_zero b))
apply_binary h (logic Or) a b = of_bool (not (is_zero a) || not (is_zero b))
apply_binary h (arithmetic Plus) a b = plus h a b
apply_binary h (arithmetic Minus) a b = minus h a b
apply_binary h (arithmetic Times) a b = times h a b
apply_binary h (arithmetic Quotient) a b = quotient h a b
apply_binary h (arithmetic Remainder) a b = remainder a b
apply_binary h (comparison Equal) a b = of_bool (same a b)
apply_binary h (comparison Less) a b = of_bool (lt_z a b)
apply_binary h (comparison AtMost) a b = of_bool (le_z a b)

-- eval(E, ρ, v); "And, or evaluate both operands"
unfoldable pub eval : Tables → Exp → List ℤ → Option ℤ
eval x (var v) m = elim (defined x m v) [ true ↦ Some (slot x m v) | false ↦ None ]
eval x (const t z) m = Some z
eval x (unary o e) m = elim (eval x e m) [ Some a ↦ Some (apply_unary x.half o a) | None ↦ None ]
eval x (binary o d e) m =
    elim (eval x d m) [ Some a ↦ elim (eval x e m) [ Some b ↦ Some (apply_binary x.half o a b) | None ↦ None ] | None ↦ None ]

-- eval(E, ρ, true), eval(E, ρ, false)
unfoldable pub test : Tables → Exp → List ℤ → Tested
test x e m = elim (eval x e m) [ Some a ↦ elim (is_zero a) [ true ↦ Fails | false ↦ Holds ] | None ↦ Unsure ]

-- match(v, ρ, P), and a condition that reads an undefined variable told apart
pub data Match : Type 0 where
  matched : (m : List ℤ) → Match
  failed : Match
  unsure : Match

unfoldable pub match : Tables → Pat → ℤ → List ℤ → Match
match x (any t) z m = matched m
match x (bind v) z m = matched (store m v z)
match x (equals t k) z m = elim (same z k) [ true ↦ matched m | false ↦ failed ]
match x (guarded p e) z m =
    elim (match x p z m) [
      | matched n ↦ elim (test x e n) [ Holds ↦ matched n | Fails ↦ failed | Unsure ↦ unsure ]
      | failed ↦ failed
      | unsure ↦ unsure
    ]

-- a label: ε, or a gate with values
pub data Label : Type 0 where
  ε : Label
  on : (g : Gate) → List ℤ → Label

abbrev pub spoken : Label → Bool
spoken ε = false
spoken (on g vs) = true

-- "ten label words: gate (−1 for no communication), number of values, values, zeros to the tenth"
unfoldable pub label_words : Label → List ℤ
label_words ε = negsuc 0 ∷ replicate (limits.label - 1) (pos 0)
label_words (on g vs) = pos g.0 ∷ pos (length vs) ∷ (vs ++ replicate (limits.vector - length vs) (pos 0))

-- what a run threads: store, words read, units left, label
pub record St : Type 0 where
  pub store : List ℤ
  pub words : ℕ
  pub left : ℕ
  pub label : Label

pub record Res : Type 0 where
  pub out : Outcome
  pub st : St

abbrev pub gives : Outcome → St → Res
gives o s = record { out = o; st = s }

abbrev pub stored : List ℤ → St → St
stored m s = record { store = m; words = s.words; left = s.left; label = s.label }

abbrev pub labelled : Label → St → St
labelled l s = record { store = s.store; words = s.words; left = s.left; label = l }

-- "One unit is charged on entering an action row, before its effect", and then k; an action that no row says, as a part of a
-- for's expansion, costs nothing
unfoldable pub charge : ℕ → St → (St → Res) → Res
charge r s k =
    elim (eqb r none) [
      | true ↦ k s
      | false ↦
          elim (ltb 0 s.left) [
            | true ↦ k (record { store = s.store; words = s.words; left = s.left - 1; label = s.label })
            | false ↦ gives (Stops (BudgetSpent (row r))) s
          ]
    ]

-- k, where the action before it ended
unfoldable pub and_then : Res → (St → Res) → Res
and_then q k = elim q.out [ Ends ↦ k q.st | Jumps t ↦ q | Stops y ↦ q ]

-- one word of the script, and then k
unfoldable pub reading : List ℕ → ℕ → St → (ℤ → St → Res) → Res
reading script r s k =
    elim (ltb s.words (length script / 4)) [
      | true ↦ k (word_at script s.words) (record { store = s.store; words = s.words + 1; left = s.left; label = s.label })
      | false ↦ gives (Stops (ScriptEnded (row r))) s
    ]

-- one word that is a value of a type, "judged as it is read", and then k
unfoldable pub reading_of : Tables → ℕ → List ℕ → ℕ → St → (ℤ → St → Res) → Res
reading_of x t script r s k =
    reading script r s (λ z u. elim (of_size x.half (size_of x t) z) [ true ↦ k z u | false ↦ gives (Stops (WordOutOfRange (row r))) u ])

-- k of a value; "undefined variable read"
unfoldable pub valued : Option ℤ → ℕ → St → (ℤ → Res) → Res
valued y r s k = elim y [ Some z ↦ k z | None ↦ gives (Stops (Undefined (row r))) s ]

-- "blocked, nothing communicated", or "blocked after communicating"
unfoldable pub blocked_at : ℕ → Label → Refusal
blocked_at r l = cond (spoken l) (BlockedSpoken (row r)) (Blocked (row r))

abbrev pub blocked : ℕ → St → Res
blocked r s = gives (Stops (blocked_at r s.label)) s

-- k where a condition holds, l where it fails
unfoldable pub tested : Tested → ℕ → St → Res → Res → Res
tested y r s k l = elim y [ Holds ↦ k | Fails ↦ l | Unsure ↦ gives (Stops (Undefined (row r))) s ]

-- items are evaluated before any is stored
unfoldable pub storing : Tables → List Gets → ℕ → List ℤ → St → Res
storing x [] r m s = gives Ends (stored m s)
storing x (i ∷ items) r m s = valued (eval x i.e s.store) r s (λ z. storing x items r (store m i.v z) s)

-- R11: "x, y := y, x exchanges"
abbrev pub assigning : Tables → List Gets → ℕ → St → Res
assigning x items r s = storing x items r s.store s

-- R12: "Any reads all its words before its condition is tried"
unfoldable pub choosing : Tables → List OfType → Exp → List ℕ → ℕ → St → Res
choosing x [] e script r s = tested (test x e s.store) r s (gives Ends s) (blocked r s)
choosing x (i ∷ items) e script r s =
    reading_of x i.t script r s (λ z u. choosing x items e script r (stored (store u.store i.v z) u))

-- R13
unfoldable pub resetting : Tables → List Variable → List ℤ → List ℤ
resetting x [] m = m
resetting x (v ∷ vs) m = resetting x vs (store m v (mark x.half))

-- R14: accept(v, ρ, O) of the offers from left to right; vs are the values so far
unfoldable pub offering : Tables → Gate → List Offer → List ℤ → List ℕ → ℕ → St → Res
offering x g [] vs script r s = gives Ends (labelled (on g vs) s)
offering x g (emit e ∷ os) vs script r s =
    valued (eval x e s.store) r s (λ z. offering x g os (vs ++ (z ∷ [])) script r s)
offering x g (receive p ∷ os) vs script r s =
    reading_of x (type_of_pat x p) script r s (λ z u.
    elim (match x p z u.store) [
      | matched m ↦ offering x g os (vs ++ (z ∷ [])) script r (stored m u)
      | failed ↦ blocked r u
      | unsure ↦ gives (Stops (Undefined (row r))) u
    ])

-- "27 comes before any offer is run"
unfoldable pub communicating : Tables → Gate → List Offer → List ℕ → ℕ → St → Res
communicating x g os script r s =
    elim (spoken s.label) [ true ↦ gives (Stops (SecondCommunication (row r))) s | false ↦ offering x g os [] script r s ]

-- R19: the condition and the body in turn, "one for each further test of a loop"; n is above the units left, so that a loop at a
-- row never comes to zero
unfoldable pub looping : ℕ → Tables → Exp → (St → Res) → ℕ → St → Res
looping zero x e body r s = gives (Stops (BudgetSpent (row r))) s
looping (suc n) x e body r s =
    elim (test x e s.store) [
      | Holds ↦ and_then (body s) (λ u. charge r u (λ t. looping n x e body r t))
      | Fails ↦ gives Ends s
      | Unsure ↦ gives (Stops (Undefined (row r))) s
    ]

-- for V in low..high do A = V := low; while V <= high do A; V := V + 1 end
abbrev pub at_most_high : Variable → ℤ → Exp
at_most_high v high = binary (comparison AtMost) (var v) (const int high)

abbrev pub to_low : Variable → ℤ → List Gets
to_low v low = record { v = v; e = const int low } ∷ []

abbrev pub onward : Variable → List Gets
onward v = record { v = v; e = binary (arithmetic Plus) (var v) (const int (pos 1)) } ∷ []

unfoldable mutual
  pub exec : Tables → Action → List ℕ → St → Res
  exec x (at r a) script s = charge r s (λ u. exec_act x a script r u)

  pub exec_act : Tables → Act → List ℕ → ℕ → St → Res
  exec_act x null script r s = gives Ends s
  exec_act x (assign items) script r s = assigning x items r s
  exec_act x (choose items e) script r s = choosing x items e script r s
  exec_act x (reset vs) script r s = gives Ends (stored (resetting x vs s.store) s)
  exec_act x (communicate g os) script r s = communicating x g os script r s
  exec_act x (to q) script r s = gives (Jumps q) s
  exec_act x (then a b) script r s = and_then (exec x a script s) (λ u. exec x b script u)
  exec_act x (select bs) script r s =
      elim (some_branch bs) [ true ↦ reading script r s (λ z u. exec_branch x bs z script r u) | false ↦ blocked r s ]
  exec_act x (case e arms) script r s = valued (eval x e s.store) r s (λ z. exec_arms x arms z script r s)
  exec_act x (while e a) script r s = looping (suc s.left) x e (λ u. exec x a script u) r s
  exec_act x (for v low high a) script r s =
      and_then (assigning x (to_low v low) r s) (λ u.
      looping (suc u.left) x (at_most_high v high) (λ t. and_then (exec x a script t) (assigning x (onward v) r)) r u)

  -- branch number z, 0 is the first
  pub exec_branch : Tables → Branches → ℤ → List ℕ → ℕ → St → Res
  exec_branch x no_branch z script r s = gives (Stops (WordOutOfRange (row r))) s
  exec_branch x (branch a bs) z script r s =
      elim z [
        | pos n ↦ elim n [ zero ↦ exec x a script s | suc k ↦ exec_branch x bs (pos k) script r s ]
        | negsuc n ↦ gives (Stops (WordOutOfRange (row r))) s
      ]

  -- the first arm that matches; "A failed match leaves the store"
  pub exec_arms : Tables → Arms → ℤ → List ℕ → ℕ → St → Res
  exec_arms x no_arm z script r s = blocked r s
  exec_arms x (arm p a rest) z script r s =
      elim (match x p z s.store) [
        | matched m ↦ exec x a script (stored m s)
        | failed ↦ exec_arms x rest z script r s
        | unsure ↦ gives (Stops (Undefined (row r))) s
      ]
