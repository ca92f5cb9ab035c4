-- The graph of an image (report, section 4, NT2DOT): a box for each state with its action, an arrow for each jump, with the
-- gates that can be spoken on the way to it. Assumes nothing.
use mathlib.Core.{Bool.Bool, Bool.true, Bool.false, Bool.not, Bool.◌||◌, List.List, List.[], List.◌++◌}
use Rattle.std.specs.Prelude.{ℕ, zero, suc, Ok, Err}
use lib.{Dec.eqb, Dec.ltb, ListN.get_or, ListN.replicate}
use Rattle.model.specs.declared.{Image.Image, Fields.Fields, Refusal.Refusal}
use Rattle.model.specs.Limits.{limits}
use Rattle.model.specs.Answers.{number, place, Verdict}
use Rattle.model.specs.Masks.{bit, inside, join}
use Rattle.model.specs.Image.{Tables, none, trailer_of, tables_of, fields_of, state_count}
use Rattle.model.specs.Calls.{check}
use Rattle.text.specs.Emit.{bytes}
use Rattle.notation.specs.declared.{Style.Style, Table.TheVariants.States}
use Rattle.notation.specs.Texts.{each}
use Rattle.notation.specs.Whole.{fields_with, words_text, table_text, refusal_text, pointing, pointless}
use Rattle.graph.specs.declared.{Said.Said, Order.Order, Order.TheVariants.Leaf, Order.TheVariants.InTurn, Order.TheVariants.Either, Order.TheVariants.Again, Parts.Parts}
use Rattle.notation.specs.Lines.{GRAPH, BOX, ARROW, LABEL-END, GRAPH-END, REFUSED-BOX, SPOKEN-TAU, SPOKEN-GATE}

abbrev pub saying : ℕ → Bool → Said
saying gates quiet = record { gates = gates; quiet = quiet }

-- no way leads here, or one on which nothing is said yet
abbrev pub nowhere : Said
nowhere = saying 0 false

abbrev pub silent : Said
silent = saying 0 true

unfoldable pub either : Said → Said → Said
either a b = saying (join a.gates b.gates) (a.quiet || b.quiet)

unfoldable pub reached : Said → Bool
reached m = elim m.quiet [ true ↦ true | false ↦ not (eqb m.gates 0) ]

-- a communication, if a way leads to it
unfoldable pub with_gate : ℕ → ℕ → ℕ
with_gate gates g = elim (ltb g 64) [ true ↦ join gates (bit g) | false ↦ gates ]

unfoldable pub spoken : Said → ℕ → Said
spoken m g = elim (reached m) [ true ↦ saying (with_gate m.gates g) false | false ↦ nowhere ]

-- the parts of a row, and how they are gone through: it has none, one after the other, one or the other, again and again
abbrev pub parts : ℕ → ℕ → Order → Parts
parts a b o = record { first = a; second = b; order = o }

unfoldable pub parts_of : Fields → Parts
parts_of w =
    elim (eqb w.code 54) [
      | true ↦ parts w.a w.b InTurn
      | false ↦
          elim (eqb w.code 55) [
            | true ↦ parts w.a none Either
            | false ↦
                elim (eqb w.code 56) [
                  | true ↦ parts w.b none Either
                  | false ↦
                      elim (eqb w.code 57) [
                        | true ↦ parts w.a w.b Either
                        | false ↦
                            elim (eqb w.code 58) [
                              | true ↦ parts w.b w.c Either
                              | false ↦
                                  elim (eqb w.code 59) [
                                    | true ↦ parts w.b none Again
                                    | false ↦
                                        elim (eqb w.code 60) [ true ↦ parts w.b none Again | false ↦ parts none none Leaf ]
                                  ]
                            ]
                      ]
                ]
          ]
    ]

-- a communication speaks, nothing comes after a jump, all other actions without parts say nothing
unfoldable pub after_leaf : Fields → Said → Said
after_leaf w m = elim (eqb w.code 52) [ true ↦ spoken m w.a | false ↦ elim (eqb w.code 53) [ true ↦ nowhere | false ↦ m ] ]

-- how the second part is entered, and what is said after both. A loop's body is entered as the loop is: in an accepted image
-- it ends as quiet as it began (01, "Speech")
unfoldable pub enters : Order → Said → Said → Said
enters Leaf m a = m
enters InTurn m a = a
enters Either m a = m
enters Again m a = m

unfoldable pub leaves : Order → Fields → Said → Said → Said → Said
leaves Leaf w m a b = after_leaf w m
leaves InTurn w m a b = b
leaves Either w m a b = either a b
leaves Again w m a b = either m a

-- what is said after row r, entered with m said
unfoldable pub said_after : ℕ → Tables → ℕ → Said → Said
said_after zero x r m = nowhere
said_after (suc n) x r m =
    elim (eqb r none) [
      | true ↦ nowhere
      | false ↦
          let w = fields_of x r in
          let p = parts_of w in
          let a = said_after n x p.first m in
          leaves p.order w m a (said_after n x p.second (enters p.order m a))
    ]

-- the gates of a label, or that nothing is said
unfoldable pub gate_line : ℕ → ℕ
gate_line g = elim (eqb g 0) [ true ↦ SPOKEN-TAU | false ↦ SPOKEN-GATE ]

unfoldable pub gate_text : ℕ → ℕ → List ℕ
gate_text gates g = elim (inside (bit g) gates) [ true ↦ words_text (pointless true) (gate_line g) (fields_with g 0 0) 0 | false ↦ [] ]

unfoldable pub quiet_text : Bool → List ℕ
quiet_text true = bytes "quiet"
quiet_text false = []

unfoldable pub label_text : Said → List ℕ
label_text m = elim (reached m) [ true ↦ quiet_text m.quiet ++ each (gate_text m.gates) 64 | false ↦ bytes "dead" ]

-- the arrow of a jump
unfoldable pub arrow_text : ℕ → Fields → Said → List ℕ
arrow_text q w m =
    elim (eqb w.code 53) [
      | true ↦ words_text (pointless true) ARROW (fields_with q w.a 0) 0 ++ label_text m ++ words_text (pointless true) LABEL-END (fields_with 0 0 0) 0
      | false ↦ []
    ]

-- the arrows of row r in the action of state q, entered with m said
unfoldable pub arrows : ℕ → Tables → ℕ → ℕ → Said → List ℕ
arrows zero x q r m = []
arrows (suc n) x q r m =
    elim (eqb r none) [
      | true ↦ []
      | false ↦
          let w = fields_of x r in
          let p = parts_of w in
          arrow_text q w m ++ arrows n x q p.first m ++ arrows n x q p.second (enters p.order m (said_after n x p.first m))
    ]

unfoldable pub state_arrows : Tables → ℕ → List ℕ
state_arrows x q = arrows limits.rows x q (get_or x.states q none) silent

-- the whole graph, or one node with a refusal
unfoldable pub graph_text : Tables → Image → Style → List ℕ
graph_text x i st =
    words_text st GRAPH (fields_with 0 0 0) 0
    ++ table_text x i st (States BOX)
    ++ each (state_arrows x) (state_count i)
    ++ words_text st GRAPH-END (fields_with 0 0 0) 0

unfoldable pub refused_text : Style → Refusal → List ℕ
refused_text st y =
    words_text st GRAPH (fields_with 0 0 0) 0
    ++ words_text st REFUSED-BOX (fields_with 0 0 0) 0
    ++ refusal_text st y
    ++ words_text st LABEL-END (fields_with 0 0 0) 0
    ++ words_text st GRAPH-END (fields_with 0 0 0) 0

unfoldable pub drawn_by : List ℕ → Verdict → List ℕ
drawn_by s (Ok _) = graph_text (tables_of s) (trailer_of s) (pointless true)
drawn_by s (Err y) =
    let st = pointing (number y) (place y) true in
    elim (ltb (number y) 8) [ true ↦ refused_text st y | false ↦ graph_text (tables_of s) (trailer_of s) st ]

unfoldable pub drawn : List ℕ → List ℕ
drawn s = drawn_by s (check s (replicate limits.states 0)).answer
