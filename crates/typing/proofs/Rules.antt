-- The rule of a row from the types of the rows that it names, way by way of the code that judges it. Assumes nothing.
use mathlib.Core.{Path.◌≡◌, Path.refl, Path.sym, Path.ap, Path.◌∙◌, Logic.inl, Logic.inr, Logic.⊎_elim}
use mathlib.Core.{Bool.Bool, Bool.true, Bool.false, Bool.not, Bool.◌&&◌, List.List, List.[], List.◌∷◌, List.map}
use Prim.Native.Nat.{ℕ}
use lib.Dec.{eqb}
use types.Run.{OneOf}
use borrow.Author.Tests.{eqb-true, eqb-false, ne_eqb}
use Rattle.model.specs.declared.{Image.Image, Fields.Fields, Gate.Gate}
use Rattle.model.specs.Answers.{variable, gate}
use Rattle.model.specs.Image.{Tables, none, bool, tables_of, type_of, fields_of}
use Rattle.model.specs.Rows.{Kind, Binary, logic, arithmetic, comparison, Equal, Less, AtMost, gets, of_type, expression, range, arm, ExpressionRow, is_variable, is_constant, is_unary, is_binary, PatternRow, is_any, is_bind, is_value, is_where, ActionRow, is_null, is_assign, is_choose, is_reset, is_communicate, is_to, is_then, is_select, is_case, is_while, is_for, Means, an_expression, a_pattern, an_offer, an_action, another, codes, lookup, shape_of, means_at}
use Rattle.model.specs.Trees.{Action, Offer}
use Rattle.model.specs.Decode.{grow_expression, expression_at, grow_pattern, pattern_at, offers_at, offer_of, grow_action, action_at, act_of, rule_at}
use Rattle.model.specs.Typing.{type_of_unary, takes, may_offer, typed_exp, typed_pat, typed_act}
use Rattle.model.proofs.Rows as model-rows
use Rattle.model.proofs.Rows.{Named, is-kind}
use Rattle.model.proofs.Decode.{list_at-none, list_at-step}
use Rattle.image.specs.Located.{VariableOf}
use Rattle.typing.specs.Rules.{row_typed, expression_type, condition_type, gets_typed, of_types_typed, arms_typed, range_typed, operand_of_binary, operand_of, takes_types, Operator, OfKind, OrNone}
use Rattle.typing.proofs.Codes.{Coded, code-of, unary-code, unary-operator, binary-code, binary-operator}
use Rattle.typing.proofs.Rows.{Here, all-formed, means-of, means-here, facts-of, child, variable-in, expression-is, pattern-is, action-is}

-- the rule of a row with the fields w and the meaning
abbrev row_rule : Tables → Fields → Means → Bool
row_rule x w (an_expression is_variable) = true
row_rule x w (an_expression is_constant) = true
row_rule x w (an_expression (is_unary o)) = eqb (expression_type x w.a) (type_of_unary o)
row_rule x w (an_expression (is_binary o)) = takes o (expression_type x w.a) (expression_type x w.b)
row_rule x w (a_pattern is_any) = true
row_rule x w (a_pattern is_bind) = true
row_rule x w (a_pattern is_value) = true
row_rule x w (a_pattern is_where) = eqb (expression_type x w.b) bool
row_rule x w (an_offer o) = true
row_rule x w (an_action is_null) = true
row_rule x w (an_action is_assign) = gets_typed x w.a
row_rule x w (an_action is_choose) = of_types_typed x w.a && eqb (condition_type x w.b) bool
row_rule x w (an_action is_reset) = true
row_rule x w (an_action is_communicate) = may_offer (gate w.a) (offers_at x w.b)
row_rule x w (an_action is_to) = true
row_rule x w (an_action is_then) = true
row_rule x w (an_action is_select) = true
row_rule x w (an_action is_case) = arms_typed x (expression_type x w.a) w.b
row_rule x w (an_action is_while) = eqb (expression_type x w.a) bool
row_rule x w (an_action is_for) = range_typed x w.a
row_rule x w (another k) = true

-- what a code is that no arm of the match names
abbrev pub NoKey : ℕ → Type 0
NoKey c =
    (((((((Unit {0}
    × (OneOf (16 ∷ 19 ∷ []) c → ⊥))
    × (OneOf (35 ∷ []) c → ⊥))
    × (OneOf (49 ∷ []) c → ⊥))
    × (OneOf (50 ∷ []) c → ⊥))
    × (OneOf (52 ∷ []) c → ⊥))
    × (OneOf (56 ∷ []) c → ⊥))
    × (OneOf (59 ∷ []) c → ⊥))
    × (OneOf (60 ∷ []) c → ⊥)

takes-is : (o : Binary) (s t : ℕ) → takes o s t ≡ takes_types (operand_of_binary o) s t
unfolding takes_types
takes-is (logic o) s t = refl
takes-is (arithmetic o) s t = refl
takes-is (comparison Equal) s t = refl
takes-is (comparison Less) s t = refl
takes-is (comparison AtMost) s t = refl

may-offer : (g : Gate) (l : List Offer) → eqb g.0 0 ≡ false → may_offer g l ≡ true
may-offer g [] e = refl
may-offer g (o ∷ l) e = rw e

-- the offers of the rows of a list
abbrev offers_of : Tables → List ℕ → List Offer
offers_of x l = map (λ j. offer_of x (fields_of x j) (means_at x j)) l

tau-by : (x : Tables) → model-rows.Formed x → (b : ℕ) (t : Bool) → eqb b none ≡ t → t ≡ may_offer (gate 0) (offers_at x b)
tau-by x ok b true e =
    ap (λ (l : List ℕ). may_offer (gate 0) (offers_of x l)) (sym (list_at-none x ok))
    ∙ ap (λ k. may_offer (gate 0) (offers_at x k)) (sym (eqb-true b none e))
tau-by x ok b false e = ap (λ (l : List ℕ). may_offer (gate 0) (offers_of x l)) (sym (list_at-step x ok b (eqb-false b none e)))

module _ {s : List ℕ} {i : Image} {r : ℕ} {w : Fields} (h : Here s i r w) where
  expression-rule : (q : ExpressionRow) → means_at (tables_of s) r ≡ an_expression q
      → typed_exp (tables_of s) (expression_at (tables_of s) r) ≡ row_rule (tables_of s) w (an_expression q)
  unfolding typed_exp grow_expression
  expression-rule is_variable e = ap (typed_exp (tables_of s)) (expression-is h (an_expression is_variable) e)
  expression-rule is_constant e = ap (typed_exp (tables_of s)) (expression-is h (an_expression is_constant) e)
  expression-rule (is_unary o) e = ap (typed_exp (tables_of s)) (expression-is h (an_expression (is_unary o)) e)
  expression-rule (is_binary o) e = ap (typed_exp (tables_of s)) (expression-is h (an_expression (is_binary o)) e)

  pattern-rule : (q : PatternRow) → means_at (tables_of s) r ≡ a_pattern q
      → typed_pat (tables_of s) (pattern_at (tables_of s) r) ≡ row_rule (tables_of s) w (a_pattern q)
  unfolding typed_pat grow_pattern
  pattern-rule is_any e = ap (typed_pat (tables_of s)) (pattern-is h (a_pattern is_any) e)
  pattern-rule is_bind e = ap (typed_pat (tables_of s)) (pattern-is h (a_pattern is_bind) e)
  pattern-rule is_value e = ap (typed_pat (tables_of s)) (pattern-is h (a_pattern is_value) e)
  pattern-rule is_where e = ap (typed_pat (tables_of s)) (pattern-is h (a_pattern is_where) e)

  act-is : (q : ActionRow) → means_at (tables_of s) r ≡ an_action q
      → typed_act (tables_of s) (act_of (action_at (tables_of s) r))
      ≡ typed_act (tables_of s) (grow_action (tables_of s) (action_at (tables_of s)) w (an_action q))
  act-is q e = ap (λ (a : Action). typed_act (tables_of s) (act_of a)) (action-is h (an_action q) e)

  action-rule : (q : ActionRow) → means_at (tables_of s) r ≡ an_action q
      → typed_act (tables_of s) (act_of (action_at (tables_of s) r)) ≡ row_rule (tables_of s) w (an_action q)
  unfolding typed_act grow_action
  action-rule is_null e = act-is is_null e
  action-rule is_assign e = act-is is_assign e
  action-rule is_choose e = act-is is_choose e
  action-rule is_reset e = act-is is_reset e
  action-rule is_communicate e = act-is is_communicate e
  action-rule is_to e = act-is is_to e
  action-rule is_then e = act-is is_then e
  action-rule is_select e = act-is is_select e
  action-rule is_case e = act-is is_case e
  action-rule is_while e = act-is is_while e
  action-rule is_for e = act-is is_for e

  rule_by : Means → Bool
  rule_by (an_expression q) = typed_exp (tables_of s) (expression_at (tables_of s) r)
  rule_by (a_pattern q) = typed_pat (tables_of s) (pattern_at (tables_of s) r)
  rule_by (an_offer q) = true
  rule_by (an_action q) = typed_act (tables_of s) (act_of (action_at (tables_of s) r))
  rule_by (another k) = true

  rule-by : (m : Means) → means_at (tables_of s) r ≡ m → row_typed (tables_of s) r ≡ rule_by m
  unfolding row_typed rule_at rule_by
  rule-by m e = ap (λ (k : Means). rule_by k) e

  rule-is : (m : Means) → means_at (tables_of s) r ≡ m → row_typed (tables_of s) r ≡ row_rule (tables_of s) w m
  unfolding rule_by
  rule-is (an_expression q) e = rule-by (an_expression q) e ∙ expression-rule q e
  rule-is (a_pattern q) e = rule-by (a_pattern q) e ∙ pattern-rule q e
  rule-is (an_offer q) e = rule-by (an_offer q) e
  rule-is (an_action q) e = rule-by (an_action q) e ∙ action-rule q e
  rule-is (another k) e = rule-by (another k) e

  pub list_of : {k : Kind} {n : ℕ} → Named (tables_of s) r k n → OrNone s i k n
  list_of p = record { formed = h.formed; named = inr p.kind }

  -- 16, 19: operators of one operand
  module _ (k : OneOf (16 ∷ 19 ∷ []) w.code) where
    unary-means : means_at (tables_of s) r ≡ an_expression (is_unary (unary-code w.code k).0)
    unary-means = means-here h _ (unary-code w.code k).1

    pub unary-operand : OfKind s i expression w.a
    unary-operand = child h (facts-of h _ unary-means).a

    pub unary-rule : {t o : ℕ} → t ≡ expression_type (tables_of s) w.a → o ≡ operand_of w.code → eqb t o ≡ row_typed (tables_of s) r
    unfolding operand_of
    unary-rule p q = rw (p, q, (unary-code w.code k).1) (sym (rule-is _ unary-means))

  -- 17, 18, 20 to 27: operators of two operands
  module _ (c : Operator w.code) (n : OneOf (16 ∷ 19 ∷ []) w.code → ⊥) where
    binary-means : means_at (tables_of s) r ≡ an_expression (is_binary (binary-code w.code c n).0)
    binary-means = means-here h _ (binary-code w.code c n).1

    pub first-operand : OfKind s i expression w.a
    first-operand = child h (facts-of h _ binary-means).a

    pub second-operand : OfKind s i expression w.b
    second-operand = child h (facts-of h _ binary-means).b

    pub binary-rule : {b : Bool} {t u : ℕ} → b ≡ takes_types (operand_of w.code) t u → t ≡ expression_type (tables_of s) w.a
        → u ≡ expression_type (tables_of s) w.b → b ≡ row_typed (tables_of s) r
    unfolding operand_of
    binary-rule e p q =
        let x = tables_of s in
        rw (e, p, q, (binary-code w.code c n).1)
        (sym (takes-is (binary-code w.code c n).0 (expression_type x w.a) (expression_type x w.b)) ∙ sym (rule-is _ binary-means))

  -- 35: a pattern's condition is bool
  pub where-condition : w.code ≡ 35 → OfKind s i expression w.b
  unfolding shape_of lookup codes
  where-condition e = child h (facts-of h (a_pattern is_where) (means-of h 35 e)).b

  pub where-rule : {t : ℕ} → w.code ≡ 35 → t ≡ expression_type (tables_of s) w.b → eqb t 0 ≡ row_typed (tables_of s) r
  unfolding shape_of lookup codes
  where-rule e p = rw p (sym (rule-is (a_pattern is_where) (means-of h 35 e)))

  -- 49: assign
  pub assign-items : w.code ≡ 49 → OrNone s i gets w.a
  unfolding shape_of lookup codes
  assign-items e = list_of (facts-of h (an_action is_assign) (means-of h 49 e)).a.0

  pub assign-rule : {b : Bool} → w.code ≡ 49 → b ≡ gets_typed (tables_of s) w.a → b ≡ row_typed (tables_of s) r
  unfolding shape_of lookup codes
  assign-rule e p = p ∙ sym (rule-is (an_action is_assign) (means-of h 49 e))

  -- 50: any items, where a condition holds
  pub choose-items : w.code ≡ 50 → OrNone s i of_type w.a
  unfolding shape_of lookup codes
  choose-items e = list_of (facts-of h (an_action is_choose) (means-of h 50 e)).a.0

  pub choose-condition : w.code ≡ 50 → OrNone s i expression w.b
  unfolding shape_of lookup codes
  choose-condition e = record {
    formed = h.formed;
    named = ⊎_elim (λ q. inl q) (λ q. inr q.kind) (facts-of h (an_action is_choose) (means-of h 50 e)).b;
  }

  choose-rule : w.code ≡ 50 → row_typed (tables_of s) r ≡ (of_types_typed (tables_of s) w.a && eqb (condition_type (tables_of s) w.b) bool)
  unfolding shape_of lookup codes
  choose-rule e = rule-is (an_action is_choose) (means-of h 50 e)

  pub choose-passes : {b : Bool} {t : ℕ} → w.code ≡ 50 → b ≡ of_types_typed (tables_of s) w.a → b ≡ true
      → t ≡ condition_type (tables_of s) w.b → eqb t 0 ≡ row_typed (tables_of s) r
  choose-passes e p q u = rw (u, choose-rule e, ← p, q)

  pub choose-fails : {b : Bool} → w.code ≡ 50 → b ≡ of_types_typed (tables_of s) w.a → b ≡ false → b ≡ row_typed (tables_of s) r
  choose-fails e p q = rw (choose-rule e, ← p, q)

  -- 52: "τ has no offers"
  offer-rule : w.code ≡ 52 → row_typed (tables_of s) r ≡ may_offer (gate w.a) (offers_at (tables_of s) w.b)
  unfolding shape_of lookup codes
  offer-rule e = rule-is (an_action is_communicate) (means-of h 52 e)

  pub gate-offers : w.code ≡ 52 → (w.a ≡ 0 → ⊥) → not (eqb w.a 0) ≡ row_typed (tables_of s) r
  gate-offers e n = let f = ne_eqb w.a 0 n in rw f (sym (offer-rule e ∙ may-offer (gate w.a) (offers_at (tables_of s) w.b) f))

  pub tau-offers : w.code ≡ 52 → w.a ≡ 0 → eqb w.b none ≡ row_typed (tables_of s) r
  tau-offers e z =
      let x = tables_of s in
      tau-by x (all-formed h.formed) w.b (eqb w.b none) refl
      ∙ ap (λ g. may_offer (gate g) (offers_at x w.b)) (sym z)
      ∙ sym (offer-rule e)

  -- 56: case
  pub case-subject : w.code ≡ 56 → OfKind s i expression w.a
  unfolding shape_of lookup codes
  case-subject e = child h (facts-of h (an_action is_case) (means-of h 56 e)).a

  pub case-arms : w.code ≡ 56 → OrNone s i arm w.b
  unfolding shape_of lookup codes
  case-arms e = record {
    formed = h.formed;
    named = ⊎_elim (λ q. inl q) (λ q. inr q.0.kind) (facts-of h (an_action is_case) (means-of h 56 e)).b;
  }

  pub case-rule : {b : Bool} {t : ℕ} → w.code ≡ 56 → t ≡ expression_type (tables_of s) w.a → b ≡ arms_typed (tables_of s) t w.b
      → b ≡ row_typed (tables_of s) r
  unfolding shape_of lookup codes
  case-rule e p q = q ∙ rw p (sym (rule-is (an_action is_case) (means-of h 56 e)))

  -- 59: a while's condition is bool
  pub while-condition : w.code ≡ 59 → OfKind s i expression w.a
  unfolding shape_of lookup codes
  while-condition e = child h (facts-of h (an_action is_while) (means-of h 59 e)).a

  pub while-rule : {t : ℕ} → w.code ≡ 59 → t ≡ expression_type (tables_of s) w.a → eqb t 0 ≡ row_typed (tables_of s) r
  unfolding shape_of lookup codes
  while-rule e p = rw p (sym (rule-is (an_action is_while) (means-of h 59 e)))

  -- 60: for
  pub for-range : w.code ≡ 60 → OfKind s i range w.a
  unfolding shape_of lookup codes
  for-range e = child h (facts-of h (an_action is_for) (means-of h 60 e)).a

  pub for-rule : {b : Bool} → w.code ≡ 60 → b ≡ range_typed (tables_of s) w.a → b ≡ row_typed (tables_of s) r
  unfolding shape_of lookup codes
  for-rule e p = p ∙ sym (rule-is (an_action is_for) (means-of h 60 e))

  -- 47: the range of a for
  pub range-variable : OfKind s i range r → VariableOf s i w.a
  range-variable k = variable-in h w.a (facts-of h (another range) (is-kind (tables_of s) range r k.kind)).a

  pub range-rule : {t : ℕ} → t ≡ type_of (tables_of s) (variable w.a) → eqb t 1 ≡ range_typed (tables_of s) r
  range-rule p = rw (p, h.fields)

  -- no other row has a rule
  no-rule-by : (m : Means) → Coded m w.code → NoKey w.code → (Operator w.code → ⊥) → true ≡ row_rule (tables_of s) w m
  no-rule-by (an_expression is_variable) k n o = refl
  no-rule-by (an_expression is_constant) k n o = refl
  no-rule-by (an_expression (is_unary u)) k n o = absurd (o (unary-operator w.code k))
  no-rule-by (an_expression (is_binary u)) k n o = absurd (o (binary-operator w.code k))
  no-rule-by (a_pattern is_any) k n o = refl
  no-rule-by (a_pattern is_bind) k n o = refl
  no-rule-by (a_pattern is_value) k n o = refl
  no-rule-by (a_pattern is_where) k n o = absurd (n.0.0.0.0.0.0.1 k)
  no-rule-by (an_offer q) k n o = refl
  no-rule-by (an_action is_null) k n o = refl
  no-rule-by (an_action is_assign) k n o = absurd (n.0.0.0.0.0.1 k)
  no-rule-by (an_action is_choose) k n o = absurd (n.0.0.0.0.1 k)
  no-rule-by (an_action is_reset) k n o = refl
  no-rule-by (an_action is_communicate) k n o = absurd (n.0.0.0.1 k)
  no-rule-by (an_action is_to) k n o = refl
  no-rule-by (an_action is_then) k n o = refl
  no-rule-by (an_action is_select) k n o = refl
  no-rule-by (an_action is_case) k n o = absurd (n.0.0.1 k)
  no-rule-by (an_action is_while) k n o = absurd (n.0.1 k)
  no-rule-by (an_action is_for) k n o = absurd (n.1 k)
  no-rule-by (another q) k n o = refl

  pub no-rule : NoKey w.code → (Operator w.code → ⊥) → true ≡ row_typed (tables_of s) r
  no-rule n o =
      let m = (shape_of w.code).means in
      no-rule-by m (code-of w.code m refl) n o ∙ sym (rule-is m (means-here h m refl))
