-- The trees that rows say (01, "The image"). Rows name only lower rows, so the row's number is fuel enough. A row of another
-- kind, which 5 and 6 shut out, reads as the constant false, any bool, an emission or null. Assumes nothing.
use mathlib.Core.{Bool.Bool, Bool.true, Bool.false, Bool.cond, List.List, List.[], List.◌∷◌, List.map}
use Rattle.std.specs.Prelude.{ℕ, zero, suc}
use lib.{Dec.eqb, IntN.ℤ, IntN.pos, ListN.get_or}
use Rattle.model.specs.declared.{Fields.Fields, Variable.Variable}
use Rattle.model.specs.Answers.{state, variable, gate}
use Rattle.model.specs.Bytes.{signed}
use Rattle.model.specs.Values.{half16}
use Rattle.model.specs.Image.{Tables, none, bool, int, fields_of}
use Rattle.model.specs.Rows.{is_variable, is_constant, is_unary, is_binary, is_any, is_bind, is_value, is_where, is_emit, is_receive, is_null, is_assign, is_choose, is_reset, is_communicate, is_to, is_then, is_select, is_case, is_while, is_for, Means, an_expression, a_pattern, an_offer, an_action, another, means_at, list_up_to}
use Rattle.model.specs.Trees.{Exp, var, const, unary, binary, Pat, any, bind, equals, guarded, Offer, emit, receive, Gets, OfType, Action, at, Act, null, assign, choose, reset, communicate, to, then, select, case, while, for, Branches, no_branch, branch, Arms, no_arm, arm}

-- "constant of type a, value b (int: two's complement)"
abbrev pub constant_of : Tables → Fields → ℤ
constant_of x w = cond (eqb w.a int) (signed x.half w.b) (pos w.b)

-- the constant true, and no condition
abbrev pub always : Exp
always = const bool (pos 1)

-- one level of an expression's row; f gives the expressions of lower rows
unfoldable pub grow_expression : Tables → (ℕ → Exp) → Fields → Means → Exp
grow_expression x f w (an_expression is_variable) = var (variable w.a)
grow_expression x f w (an_expression is_constant) = const w.a (constant_of x w)
grow_expression x f w (an_expression (is_unary o)) = unary o (f w.a)
grow_expression x f w (an_expression (is_binary o)) = binary o (f w.a) (f w.b)
grow_expression x f w (a_pattern p) = const bool (pos 0)
grow_expression x f w (an_offer o) = const bool (pos 0)
grow_expression x f w (an_action a) = const bool (pos 0)
grow_expression x f w (another k) = const bool (pos 0)

unfoldable pub expression_by : ℕ → Tables → ℕ → Exp
expression_by zero x r = const bool (pos 0)
expression_by (suc n) x r = grow_expression x (λ i. expression_by n x i) (fields_of x r) (means_at x r)

unfoldable pub expression_at : Tables → ℕ → Exp
expression_at x r = expression_by (suc r) x r

-- "where b or none": no condition counts as true
unfoldable pub condition_at : Tables → ℕ → Exp
condition_at x r = elim (eqb r none) [ true ↦ always | false ↦ expression_at x r ]

unfoldable pub grow_pattern : Tables → (ℕ → Pat) → Fields → Means → Pat
grow_pattern x f w (an_expression e) = any bool
grow_pattern x f w (a_pattern is_any) = any w.a
grow_pattern x f w (a_pattern is_bind) = bind (variable w.a)
grow_pattern x f w (a_pattern is_value) = equals w.a (constant_of x w)
grow_pattern x f w (a_pattern is_where) = guarded (f w.a) (expression_at x w.b)
grow_pattern x f w (an_offer o) = any bool
grow_pattern x f w (an_action a) = any bool
grow_pattern x f w (another k) = any bool

unfoldable pub pattern_by : ℕ → Tables → ℕ → Pat
pattern_by zero x r = any bool
pattern_by (suc n) x r = grow_pattern x (λ i. pattern_by n x i) (fields_of x r) (means_at x r)

unfoldable pub pattern_at : Tables → ℕ → Pat
pattern_at x r = pattern_by (suc r) x r

-- the rows of the list that starts at a row, or none
unfoldable pub list_at : Tables → ℕ → List ℕ
list_at x r = list_up_to (suc r) x r

unfoldable pub offer_of : Tables → Fields → Means → Offer
offer_of x w (an_expression e) = emit always
offer_of x w (a_pattern p) = emit always
offer_of x w (an_offer is_emit) = emit (expression_at x w.a)
offer_of x w (an_offer is_receive) = receive (pattern_at x w.a)
offer_of x w (an_action a) = emit always
offer_of x w (another k) = emit always

abbrev pub offers_at : Tables → ℕ → List Offer
offers_at x r = map (λ i. offer_of x (fields_of x i) (means_at x i)) (list_at x r)

abbrev pub gets_at : Tables → ℕ → List Gets
gets_at x r = map (λ i. record { v = variable (fields_of x i).a; e = expression_at x (fields_of x i).b }) (list_at x r)

abbrev pub of_types_at : Tables → ℕ → List OfType
of_types_at x r = map (λ i. record { v = variable (fields_of x i).a; t = (fields_of x i).b }) (list_at x r)

abbrev pub variables_at : Tables → ℕ → List Variable
variables_at x r = map (λ i. variable (fields_of x i).a) (list_at x r)

-- branches and arms of the rows of a list; f gives the actions of lower rows
unfoldable pub branches_of : Tables → (ℕ → Action) → List ℕ → Branches
branches_of x f [] = no_branch
branches_of x f (i ∷ l) = branch (f (fields_of x i).a) (branches_of x f l)

unfoldable pub arms_of : Tables → (ℕ → Action) → List ℕ → Arms
arms_of x f [] = no_arm
arms_of x f (i ∷ l) = arm (pattern_at x (fields_of x i).a) (f (fields_of x i).b) (arms_of x f l)

-- "variable a from literal b to literal c": literals are 16 bits, two's complement
abbrev pub for_of : Fields → Action → Act
for_of w body = for (variable w.a) (signed half16 w.b) (signed half16 w.c) body

-- one level of an action's row
unfoldable pub grow_action : Tables → (ℕ → Action) → Fields → Means → Act
grow_action x f w (an_expression e) = null
grow_action x f w (a_pattern p) = null
grow_action x f w (an_offer o) = null
grow_action x f w (an_action is_null) = null
grow_action x f w (an_action is_assign) = assign (gets_at x w.a)
grow_action x f w (an_action is_choose) = choose (of_types_at x w.a) (condition_at x w.b)
grow_action x f w (an_action is_reset) = reset (variables_at x w.a)
grow_action x f w (an_action is_communicate) = communicate (gate w.a) (offers_at x w.b)
grow_action x f w (an_action is_to) = to (state w.a)
grow_action x f w (an_action is_then) = then (f w.a) (f w.b)
grow_action x f w (an_action is_select) = select (branches_of x f (list_at x w.a))
grow_action x f w (an_action is_case) = case (expression_at x w.a) (arms_of x f (list_at x w.b))
grow_action x f w (an_action is_while) = while (expression_at x w.a) (f w.b)
grow_action x f w (an_action is_for) = for_of (fields_of x w.a) (f w.b)
grow_action x f w (another k) = null

unfoldable pub action_by : ℕ → Tables → ℕ → Action
action_by zero x r = at r null
action_by (suc n) x r = at r (grow_action x (λ i. action_by n x i) (fields_of x r) (means_at x r))

unfoldable pub action_at : Tables → ℕ → Action
action_at x r = action_by (suc r) x r

abbrev pub act_of : Action → Act
act_of (at r a) = a

-- a rule for each kind of row that can be a place of 8 and 9, at row r
unfoldable pub rule_at : Tables → (Exp → Bool) → (Pat → Bool) → (Act → Bool) → ℕ → Bool
rule_at x e p a r =
    elim (means_at x r) [
      | an_expression m ↦ e (expression_at x r)
      | a_pattern m ↦ p (pattern_at x r)
      | an_offer m ↦ true
      | an_action m ↦ a (act_of (action_at x r))
      | another k ↦ true
    ]

-- act(s) of the report: the action of a state; the initial condition
abbrev pub act : Tables → ℕ → Action
act x s = action_at x (get_or x.states s none)

abbrev pub initial : Tables → Exp
initial x = expression_at x x.condition
