-- In an image free of 5 and 6, where the judgement holds of all lower rows it holds of a row exactly if the row's test of 8 passes.
-- Assumes nothing.
use mathlib.Core.{Path.◌≡◌, Path.refl, Path.sym, Path.ap, Path.◌∙◌, Path.subst, Logic.◌⊎◌, Logic.inl, Logic.inr}
use mathlib.Core.{Bool.Bool, Bool.true, Bool.false, Bool.not, Bool.◌||◌, List.List, List.[], List.◌∷◌}
use Prim.Native.Nat.{ℕ, ◌<◌}
use native.Mathlib.Omega.{arith}
use lib.{Dec.eqb}
use borrow.Author.Tests.{eqb-true, eqb-false, eq-eqb}
use Rattle.model.specs.Lists.{all}
use Rattle.model.specs.Image.{Tables, none, bool, int, type_of, fields_of}
use Rattle.model.specs.Rows.{Kind, expression, pattern, offer, gets, action, branch, arm, ExpressionRow, is_variable, is_constant, is_unary, is_binary, PatternRow, is_any, is_bind, is_value, is_where, OfferRow, is_emit, is_receive, ActionRow, is_null, is_assign, is_choose, is_reset, is_communicate, is_to, is_then, is_select, is_case, is_while, is_for, Means, an_expression, a_pattern, an_offer, an_action, another, means_at, is_kind}
use Rattle.model.specs.Trees.{Exp, Pat, Action}
use Rattle.model.specs.Decode.{always, grow_expression, expression_at, condition_at, grow_pattern, pattern_at, list_at, offer_of, offers_at, gets_at, of_types_at, branches_of, arms_of, grow_action, action_at, act_of, rule_at, initial}
use Rattle.model.specs.Typing.{type_of_exp, type_of_pat, typed_exp, typed_pat, arms_of_type, typed_act, typed}
use Rattle.model.proofs.Rows.{both_true, Named, Formed, row_is, is-kind}
use Rattle.model.proofs.Decode.{expression_at-is, pattern_at-is, action_at-is, Listed, no_more, one-row, list_at-listed}
use Rattle.demands.specs.Common.{Iff, Every, none_left, one_more}
use Rattle.demands.specs.Judgements.{HasType, t_var, t_const, PatType, t_any, t_bind, t_equals, t_guarded, OfferTyped, t_emit, t_receive, WellTyped, t_at, TypedAct, t_null, t_reset, t_to, t_assign, t_choose, t_then, t_select, t_case, t_while, t_for, TypedBranches, t_no_branch, t_branch, TypedArms, t_no_arm, t_arm, TypedAs, RowTyped}
use Rattle.demands.proofs.Everys.{and_both, every_map, all-every, all-passes}
use Rattle.demands.proofs.TypingTrees.{type-is, exp-passes, pat-passes, act-passes, as-type, as-pattern, unary-up, binary-up, offers-up}

pub listed : {x : Tables} {k : Kind} {r n : ℕ} {t : Type 0} → (n ≡ none) ⊎ (Named x r k n × t) → (n ≡ none) ⊎ Named x r k n
listed (inl e) = inl e
listed (inr p) = inr p.0

-- what a lower row names is lower
pub lower : {x : Tables} {k j : Kind} {r i n : ℕ} → Named x r k i → Named x i j n → Named x r j n
lower p q =
    let a = p.below in
    let b = q.below in
    record { below = omega arith; kind = q.kind }

pub act-in : {x : Tables} {a : Action} → WellTyped x a → TypedAct x (act_of a)
act-in (t_at h) = h

module _ (x : Tables) (ok : Formed x) where
  pub named-every : (m : ℕ) (k : Kind) (l : List ℕ) → Listed x ok m k l → Every (Named x m k) l
  named-every m k [] no_more = none_left
  named-every m k (i ∷ l) (one-row p q) = one_more p (named-every m k l q)

  pub list-every : (r m : ℕ) (k : Kind) → (r ≡ none) ⊎ Named x m k r → Every (Named x m k) (list_at x r)
  list-every r m k p = named-every m k (list_at x r) (list_at-listed x ok r m k p)

  abbrev Typable : Exp → Type 0
  Typable e = (t : ℕ) × HasType x e t

  abbrev TypablePat : Pat → Type 0
  TypablePat p = (t : ℕ) × PatType x p t

  module _ (r : ℕ) (low : (i : ℕ) → i < r → RowTyped x i) where
    lower-exp : {n : ℕ} → Named x r expression n → Typable (expression_at x n)
    lower-exp {n} p = subst (λ (m : Means). TypedAs x n m) (is-kind x expression n p.kind).1 (low n p.below).tree

    lower-pat : {n : ℕ} → Named x r pattern n → TypablePat (pattern_at x n)
    lower-pat {n} p = subst (λ (m : Means). TypedAs x n m) (is-kind x pattern n p.kind).1 (low n p.below).tree

    lower-act : {n : ℕ} → Named x r action n → WellTyped x (action_at x n)
    lower-act {n} p = subst (λ (m : Means). TypedAs x n m) (is-kind x action n p.kind).1 (low n p.below).tree

    exp-up : (m : ExpressionRow) → means_at x r ≡ an_expression m → typed_exp x (expression_at x r) ≡ true → Typable (expression_at x r)
    unfolding grow_expression
    exp-up is_variable e t = subst Typable (sym (expression_at-is x ok r _ e)) (_, t_var)
    exp-up is_constant e t = subst Typable (sym (expression_at-is x ok r _ e)) (_, t_const)
    exp-up (is_unary o) e t =
        let q = row_is x ok r _ e in
        let g = expression_at-is x ok r _ e in
        subst Typable (sym g) (_, unary-up x o (lower-exp q.a).1 (subst (λ (d : Exp). typed_exp x d ≡ true) g t))
    exp-up (is_binary o) e t =
        let q = row_is x ok r _ e in
        let g = expression_at-is x ok r _ e in
        subst Typable (sym g) (_, binary-up x o (lower-exp q.a).1 (lower-exp q.b).1 (subst (λ (d : Exp). typed_exp x d ≡ true) g t))

    pat-up : (m : PatternRow) → means_at x r ≡ a_pattern m → typed_pat x (pattern_at x r) ≡ true → TypablePat (pattern_at x r)
    unfolding grow_pattern typed_pat
    pat-up is_any e t = subst TypablePat (sym (pattern_at-is x ok r _ e)) (_, t_any)
    pat-up is_bind e t = subst TypablePat (sym (pattern_at-is x ok r _ e)) (_, t_bind)
    pat-up is_value e t = subst TypablePat (sym (pattern_at-is x ok r _ e)) (_, t_equals)
    pat-up is_where e t =
        let q = row_is x ok r _ e in
        let g = pattern_at-is x ok r _ e in
        subst TypablePat (sym g)
        (_, t_guarded (lower-pat q.a).1 (as-type x bool (lower-exp q.b).1 (eqb-true _ _ (subst (λ (d : Pat). typed_pat x d ≡ true) g t))))

    gets-up : (n : ℕ) → Named x r gets n → Every (λ i. Typable i.e) (gets_at x n)
    gets-up n p =
        every_map _ (λ i k. lower-exp (lower k (row_is x ok i _ (is-kind x gets i k.kind)).b)) (list-every n r gets (inr p))

    offer-up : (i : ℕ) (m : OfferRow) → Named x r offer i → means_at x i ≡ an_offer m → OfferTyped x (offer_of x (fields_of x i) (an_offer m))
    unfolding offer_of
    offer-up i is_emit k e = t_emit (lower-exp (lower k (row_is x ok i _ e).a)).1
    offer-up i is_receive k e = t_receive (lower-pat (lower k (row_is x ok i _ e).a)).1

    all-offers : (n : ℕ) → (n ≡ none) ⊎ Named x r offer n → Every (OfferTyped x) (offers_at x n)
    all-offers n p =
        every_map _ (λ i k. let o = is-kind x offer i k.kind in
        subst (λ (y : Means). OfferTyped x (offer_of x (fields_of x i) y)) (sym o.1) (offer-up i o.0 k o.1))
        (list-every n r offer p)

    branches-up : (l : List ℕ) → Every (Named x r branch) l → TypedBranches x (branches_of x (action_at x) l)
    unfolding branches_of
    branches-up [] none_left = t_no_branch
    branches-up (i ∷ l) (one_more p q) =
        t_branch (lower-act (lower p (row_is x ok i _ (is-kind x branch i p.kind)).a)) (branches-up l q)

    arms_up : (t : ℕ) (l : List ℕ) → Every (Named x r arm) l → arms_of_type x t (arms_of x (action_at x) l) ≡ true → TypedArms x t (arms_of x (action_at x) l)
    unfolding arms_of arms_of_type
    arms_up t [] none_left e = t_no_arm
    arms_up t (i ∷ l) (one_more p q) e =
        let w = row_is x ok i _ (is-kind x arm i p.kind) in
        let h = both_true (eqb (type_of_pat x (pattern_at x (fields_of x i).a)) t) _ e in
        t_arm (as-pattern x t (lower-pat (lower p w.a)).1 (eqb-true _ t h.0)) (lower-act (lower p w.b)) (arms_up t l q h.1)

    condition-up : (n : ℕ) → (n ≡ none) ⊎ Named x r expression n → (t : Bool) → eqb n none ≡ t → Typable (elim t [ true ↦ always | false ↦ expression_at x n ])
    condition-up n p true e = (_, t_const)
    condition-up n (inl q) false e = absurd (eqb-false n none e q)
    condition-up n (inr q) false e = lower-exp q

    act-up : (m : ActionRow) → means_at x r ≡ an_action m → typed_act x (grow_action x (action_at x) (fields_of x r) (an_action m)) ≡ true
        → TypedAct x (grow_action x (action_at x) (fields_of x r) (an_action m))
    unfolding grow_action typed_act condition_at
    act-up is_null e t = t_null
    act-up is_assign e t =
        t_assign (all-every _ _ (λ i h q. as-type x (type_of x i.v) h.1 (eqb-true _ _ q)) (gets-up _ (row_is x ok r _ e).a.0) t)
    act-up is_choose e t =
        let n = (fields_of x r).b in
        let b = both_true (all (λ i. eqb (type_of x i.v) i.t) (of_types_at x (fields_of x r).a)) _ t in
        t_choose (as-type x bool (condition-up n (row_is x ok r _ e).b (eqb n none) refl).1 (eqb-true _ _ b.1))
        (all-passes _ _ (λ i q. eqb-true (type_of x i.v) i.t q) b.0)
    act-up is_reset e t = t_reset
    act-up is_communicate e t = offers-up x _ _ (all-offers _ (listed (row_is x ok r _ e).b)) t
    act-up is_to e t = t_to
    act-up is_then e t = let q = row_is x ok r _ e in t_then (lower-act q.a) (lower-act q.b)
    act-up is_select e t = t_select (branches-up _ (list-every _ r branch (listed (row_is x ok r _ e).a)))
    act-up is_case e t =
        let q = row_is x ok r _ e in
        t_case (as-type x _ (lower-exp q.a).1 refl) (arms_up _ _ (list-every _ r arm (listed q.b)) t)
    act-up is_while e t = let q = row_is x ok r _ e in t_while (as-type x bool (lower-exp q.a).1 (eqb-true _ _ t)) (lower-act q.b)
    act-up is_for e t = t_for (eqb-true _ int t) (lower-act (row_is x ok r _ e).b)

    action-up : (m : ActionRow) → means_at x r ≡ an_action m → typed_act x (act_of (action_at x r)) ≡ true → WellTyped x (action_at x r)
    action-up m e t =
        let g = action_at-is x ok r _ e in
        subst (WellTyped x) (sym g) (t_at (act-up m e (subst (λ (d : Action). typed_act x (act_of d) ≡ true) g t)))

    -- the row's own test
    rule : Means → Bool
    rule m =
        elim m [
          | an_expression m ↦ typed_exp x (expression_at x r)
          | a_pattern m ↦ typed_pat x (pattern_at x r)
          | an_offer m ↦ true
          | an_action m ↦ typed_act x (act_of (action_at x r))
          | another k ↦ true
        ]

    rule-agrees : (m : Means) → means_at x r ≡ m → Iff (TypedAs x r m) (rule m ≡ true)
    unfolding rule
    rule-agrees (an_expression m) e = record { on = λ h. exp-passes x h.1; back = exp-up m e }
    rule-agrees (a_pattern m) e = record { on = λ h. pat-passes x h.1; back = pat-up m e }
    rule-agrees (an_offer m) e = record { on = λ h. refl; back = λ h. tt }
    rule-agrees (an_action m) e = record { on = λ h. act-passes x (act-in h); back = action-up m e }
    rule-agrees (another k) e = record { on = λ h. refl; back = λ h. tt }

    rule-is : rule_at x (typed_exp x) (typed_pat x) (typed_act x) r ≡ rule (means_at x r)
    unfolding rule_at rule
    rule-is = refl

    -- the condition's row
    module _ (root : is_kind x expression x.condition ≡ true) where
      cond-on : (b : Bool) → eqb r x.condition ≡ b → (r ≡ x.condition → HasType x (initial x) bool)
          → (not b || eqb (type_of_exp x (expression_at x r)) bool) ≡ true
      cond-on true e h =
          let q = eqb-true r x.condition e in
          eq-eqb (type_of_exp x (expression_at x r)) bool (ap (λ n. type_of_exp x (expression_at x n)) q ∙ type-is x (h q))
      cond-on false e h = refl

      cond_back : (b : Bool) → eqb r x.condition ≡ b → TypedAs x r (means_at x r) → (not b || eqb (type_of_exp x (expression_at x r)) bool) ≡ true
          → r ≡ x.condition → HasType x (initial x) bool
      cond_back true e h t q =
          let k : is_kind x expression r ≡ true = rw q root in
          let a : Typable (expression_at x r) = subst (λ (m : Means). TypedAs x r m) (is-kind x expression r k).1 h in
          subst (λ (n : ℕ). HasType x (expression_at x n) bool) q (as-type x bool a.1 (eqb-true _ _ t))
      cond_back false e h t q = absurd (eqb-false r x.condition e q)

      pub row-agrees : Iff (RowTyped x r) (typed x r ≡ true)
      unfolding typed
      row-agrees =
          let i = rule-agrees (means_at x r) refl in
          record {
            on = λ h. and_both (rule_at x (typed_exp x) (typed_pat x) (typed_act x) r) _ (rule-is ∙ i.on h.tree) (cond-on (eqb r x.condition) refl h.condition);
            back = λ t.
                let b = both_true (rule_at x (typed_exp x) (typed_pat x) (typed_act x) r) _ t in
                let h = i.back (sym rule-is ∙ b.0) in
                record { tree = h; condition = cond_back (eqb r x.condition) refl h b.1 };
          }
