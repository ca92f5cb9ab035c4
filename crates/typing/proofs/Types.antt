-- The types of expressions, conditions and patterns, way by way of the code that finds them. Assumes nothing.
use mathlib.Core.{Path.◌≡◌, Path.refl, Path.sym, Path.ap, Path.◌∙◌, Logic.inl, Logic.inr, Bool.Bool, Bool.true, Bool.false, Bool.◌&&◌, List.List}
use Prim.Native.Nat.{ℕ}
use lib.{Dec.eqb}
use borrow.Author.Tests.{eq-eqb, ne_eqb}
use Rattle.model.specs.declared.{Image.Image, Fields.Fields}
use Rattle.model.specs.Answers.{variable}
use Rattle.model.specs.Image.{Tables, none, bool, tables_of, type_of}
use Rattle.model.specs.Rows.{expression, pattern, ExpressionRow, is_variable, is_constant, is_unary, is_binary, PatternRow, is_any, is_bind, is_value, is_where, an_expression, a_pattern, codes, lookup, shape_of, means_at, is_kind}
use Rattle.model.specs.Trees.{Exp}
use Rattle.model.specs.Decode.{always, grow_expression, expression_at, condition_at, grow_pattern}
use Rattle.model.specs.Typing.{type_of_exp, type_of_pat}
use Rattle.model.proofs.Rows.{Named, is-kind}
use Rattle.image.specs.Located.{VariableOf}
use Rattle.typing.specs.Rules.{expression_type, condition_type, pattern_type, result_for, result_of, takes_types, Operator, OfKind, OrNone}
use Rattle.typing.proofs.Codes.{code-of, unary-operator, binary-operator}
use Rattle.typing.proofs.Rows.{Here, means-of, means-back, facts-of, variable-in, expression-is, pattern-is}

module _ {s : List ℕ} {i : Image} {r : ℕ} {w : Fields} (h : Here s i r w) where
  -- 1: a variable
  pub variable-asks : w.code ≡ 1 → VariableOf s i w.a
  unfolding shape_of lookup codes
  variable-asks e = variable-in h w.a (facts-of h (an_expression is_variable) (means-of h 1 e)).a

  pub variable-type : w.code ≡ 1 → type_of (tables_of s) (variable w.a) ≡ expression_type (tables_of s) r
  unfolding shape_of lookup codes type_of_exp grow_expression
  variable-type e = sym (ap (type_of_exp (tables_of s)) (expression-is h (an_expression is_variable) (means-of h 1 e)))

  -- 2: a constant
  pub constant-type : w.code ≡ 2 → w.a ≡ expression_type (tables_of s) r
  unfolding shape_of lookup codes type_of_exp grow_expression
  constant-type e = sym (ap (type_of_exp (tables_of s)) (expression-is h (an_expression is_constant) (means-of h 2 e)))

  -- any other expression is an operator's
  operator-by : (e : ExpressionRow) → means_at (tables_of s) r ≡ an_expression e → (w.code ≡ 1 → ⊥) → (w.code ≡ 2 → ⊥)
      → Operator w.code × (result_of w.code ≡ expression_type (tables_of s) r)
  unfolding result_of type_of_exp grow_expression
  operator-by is_variable e f g = absurd (f (code-of w.code (an_expression is_variable) (means-back h (an_expression is_variable) e)))
  operator-by is_constant e f g = absurd (g (code-of w.code (an_expression is_constant) (means-back h (an_expression is_constant) e)))
  operator-by (is_unary o) e f g =
      let m = an_expression (is_unary o) in
      let q = means-back h m e in
      (unary-operator w.code (code-of w.code m q), ap result_for q ∙ sym (ap (type_of_exp (tables_of s)) (expression-is h m e)))
  operator-by (is_binary o) e f g =
      let m = an_expression (is_binary o) in
      let q = means-back h m e in
      (binary-operator w.code (code-of w.code m q), ap result_for q ∙ sym (ap (type_of_exp (tables_of s)) (expression-is h m e)))

  module _ (k : is_kind (tables_of s) expression r ≡ true) (f : w.code ≡ 1 → ⊥) (g : w.code ≡ 2 → ⊥) where
    pub operator-asks : Operator w.code
    operator-asks = let m = is-kind (tables_of s) expression r k in (operator-by m.0 m.1 f g).0

    pub operator-type : result_of w.code ≡ expression_type (tables_of s) r
    operator-type = let m = is-kind (tables_of s) expression r k in (operator-by m.0 m.1 f g).1

  -- 33: a variable
  pub bind-asks : w.code ≡ 33 → VariableOf s i w.a
  unfolding shape_of lookup codes
  bind-asks e = variable-in h w.a (facts-of h (a_pattern is_bind) (means-of h 33 e)).a

  pub bind-type : w.code ≡ 33 → type_of (tables_of s) (variable w.a) ≡ pattern_type (tables_of s) r
  unfolding shape_of lookup codes type_of_pat grow_pattern
  bind-type e = sym (ap (type_of_pat (tables_of s)) (pattern-is h (a_pattern is_bind) (means-of h 33 e)))

  -- 35: the pattern inside is lower and of the same type
  pub where-named : w.code ≡ 35 → Named (tables_of s) r pattern w.a
  unfolding shape_of lookup codes
  where-named e = (facts-of h (a_pattern is_where) (means-of h 35 e)).a

  pub where-type : w.code ≡ 35 → pattern_type (tables_of s) w.a ≡ pattern_type (tables_of s) r
  unfolding shape_of lookup codes type_of_pat grow_pattern
  where-type e = sym (ap (type_of_pat (tables_of s)) (pattern-is h (a_pattern is_where) (means-of h 35 e)))

  -- any other pattern has its type in field a
  typed-by : (p : PatternRow) → means_at (tables_of s) r ≡ a_pattern p → (w.code ≡ 33 → ⊥) → (w.code ≡ 35 → ⊥)
      → w.a ≡ pattern_type (tables_of s) r
  unfolding type_of_pat grow_pattern
  typed-by is_any e f g = sym (ap (type_of_pat (tables_of s)) (pattern-is h (a_pattern is_any) e))
  typed-by is_bind e f g = absurd (f (code-of w.code (a_pattern is_bind) (means-back h (a_pattern is_bind) e)))
  typed-by is_value e f g = sym (ap (type_of_pat (tables_of s)) (pattern-is h (a_pattern is_value) e))
  typed-by is_where e f g = absurd (g (code-of w.code (a_pattern is_where) (means-back h (a_pattern is_where) e)))

  pub plain_type : is_kind (tables_of s) pattern r ≡ true → (w.code ≡ 33 → ⊥) → (w.code ≡ 35 → ⊥) → w.a ≡ pattern_type (tables_of s) r
  plain_type k f g = let m = is-kind (tables_of s) pattern r k in typed-by m.0 m.1 f g

-- a condition that is left out, and one that isn't
left_out : (x : Tables) (e : Exp) (b : Bool) → b ≡ true → bool ≡ type_of_exp x (elim b [ true ↦ always | false ↦ e ])
unfolding type_of_exp
left_out x e true q = refl
left_out x e false q = cc

pub no-condition : (x : Tables) (r : ℕ) → r ≡ none → bool ≡ condition_type x r
unfolding condition_at
no-condition x r e = left_out x (expression_at x r) (eqb r none) (eq-eqb r none e)

not-left-out : (x : Tables) (e : Exp) (b : Bool) → b ≡ false → type_of_exp x e ≡ type_of_exp x (elim b [ true ↦ always | false ↦ e ])
not-left-out x e true q = cc
not-left-out x e false q = refl

pub some-condition : (x : Tables) (r : ℕ) → (r ≡ none → ⊥) → expression_type x r ≡ condition_type x r
unfolding condition_at
some-condition x r n = not-left-out x (expression_at x r) (eqb r none) (ne_eqb r none n)

pub condition-asks : {s : List ℕ} {i : Image} {r : ℕ} → OrNone s i expression r → (r ≡ none → ⊥) → OfKind s i expression r
condition-asks l n = record { formed = l.formed; kind = elim l.named [ inl e ↦ absurd (n e) | inr k ↦ k ] }

-- what two operands' types are tested for, in the order of the tests
takes-by : (o s t : ℕ) (b : Bool) → eqb o none ≡ b → takes_types o s t ≡ elim b [ true ↦ eqb s t | false ↦ eqb s o && eqb t o ]
unfolding takes_types
takes-by o s t b e = ap (λ (k : Bool). elim k as (λ _. Bool) [ true ↦ eqb s t | false ↦ eqb s o && eqb t o ]) e

module _ (o s t : ℕ) where
  pub of-one-type : o ≡ none → eqb s t ≡ takes_types o s t
  of-one-type e = sym (takes-by o s t true (eq-eqb o none e))

  module _ (n : o ≡ none → ⊥) where
    pub second-decides : s ≡ o → eqb t o ≡ takes_types o s t
    second-decides e = sym (takes-by o s t false (ne_eqb o none n) ∙ ap (λ (k : Bool). k && eqb t o) (eq-eqb s o e))

    pub first-decides : (s ≡ o → ⊥) → eqb s o ≡ takes_types o s t
    first-decides f =
        let e = ne_eqb s o f in
        e ∙ sym (takes-by o s t false (ne_eqb o none n) ∙ ap (λ (k : Bool). k && eqb t o) e)
