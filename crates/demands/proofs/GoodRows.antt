-- The trees of the rows of an image that passes 1 to 9 are good. Assumes nothing.
use mathlib.Core.{Path.◌≡◌, Path.refl, Path.sym, Path.ap, Path.◌∙◌, Path.subst, Logic.◌⊎◌, Logic.inl, Logic.inr}
use mathlib.Core.{Bool.Bool, Bool.true, Bool.false, Bool.cond, Bool.◌||◌, List.List, List.[], List.◌∷◌}
use Prim.Native.Nat.{ℕ, zero, suc, ◌≤◌, ◌<◌}
use native.Mathlib.Omega.{arith}
use lib.{Dec.eqb, Dec.ltb, IntN.pos, ListN.length, ListN.get_or, ListN.length-map, Signed.mag}
use borrow.Author.Tests.{ltb-true, eqb-true, eqb-false, lt-ltb, ne_eqb}
use Rattle.model.specs.declared.{Fields.Fields}
use Rattle.model.specs.Bytes.{signed}
use Rattle.model.specs.Values.{half16, of_size}
use Rattle.model.specs.Lists.{all}
use Rattle.model.specs.Image.{Tables, none, bool, int, size_of, type_of, fields_of}
use Rattle.model.specs.Rows.{Kind, expression, pattern, offer, gets, of_type, item, range, action, branch, arm, unknown, number_of_kind, ExpressionRow, is_variable, is_constant, is_unary, is_binary, PatternRow, is_any, is_bind, is_value, is_where, OfferRow, is_emit, is_receive, ActionRow, is_null, is_assign, is_choose, is_reset, is_communicate, is_to, is_then, is_select, is_case, is_while, is_for, Means, an_expression, a_pattern, an_offer, an_action, another, means_at, is_kind, is_root, next_of, list_up_to}
use Rattle.model.specs.Trees.{Exp, Pat, Gets, Action, Act}
use Rattle.model.specs.Decode.{constant_of, always, grow_expression, expression_at, condition_at, grow_pattern, pattern_at, list_at, offer_of, offers_at, gets_at, of_types_at, variables_at, branches_of, arms_of, grow_action, action_at, act_of, rule_at, act}
use Rattle.model.specs.Typing.{type_of_exp, type_of_pat, typed_exp, typed_pat, arms_of_type, typed_act, typed}
use Rattle.model.specs.Binding.{bound_act, bound}
use Rattle.model.proofs.Rows.{both_true, Named, Formed, row_is, is-kind, kind-in}
use Rattle.model.proofs.Decode.{expression_at-is, pattern_at-is, action_at-is, Listed, no_more, one-row, list_at-none, list_at-listed}
use Rattle.model.proofs.Bytes.{signed-in}
use Rattle.model.proofs.Values.{of_size-int}
use Rattle.demands.proofs.All.{All, nil, cons, all_true, all-zip, all_map}
use Rattle.demands.proofs.Whole.{Whole, Small, sizes-of}
use Rattle.demands.proofs.Good.{GoodConstant, Inside, GoodExp, GoodPat, GoodOffer, count_branches, Good, GoodAct, GoodBranches, GoodArms}

differ : (j k : Kind) → (number_of_kind j ≡ number_of_kind k → ⊥) → j ≡ k → ⊥
differ j k f e = f (ap number_of_kind e)

-- the rule that is judged at a row, by what the row is
rule-expression : (x : Tables) (e : Exp → Bool) (p : Pat → Bool) (a : Act → Bool) (r : ℕ) (m : ExpressionRow) → means_at x r ≡ an_expression m
    → rule_at x e p a r ≡ true → e (expression_at x r) ≡ true
unfolding rule_at
rule-expression x e p a r m q h =
    subst (λ (k : Means). elim k [
      | an_expression m ↦ e (expression_at x r)
      | a_pattern m ↦ p (pattern_at x r)
      | an_offer m ↦ true
      | an_action m ↦ a (act_of (action_at x r))
      | another k ↦ true
    ] ≡ true) q h

rule-pattern : (x : Tables) (e : Exp → Bool) (p : Pat → Bool) (a : Act → Bool) (r : ℕ) (m : PatternRow) → means_at x r ≡ a_pattern m
    → rule_at x e p a r ≡ true → p (pattern_at x r) ≡ true
unfolding rule_at
rule-pattern x e p a r m q h =
    subst (λ (k : Means). elim k [
      | an_expression m ↦ e (expression_at x r)
      | a_pattern m ↦ p (pattern_at x r)
      | an_offer m ↦ true
      | an_action m ↦ a (act_of (action_at x r))
      | another k ↦ true
    ] ≡ true) q h

rule-action : (x : Tables) (e : Exp → Bool) (p : Pat → Bool) (a : Act → Bool) (r : ℕ) (m : ActionRow) → means_at x r ≡ an_action m
    → rule_at x e p a r ≡ true → a (act_of (action_at x r)) ≡ true
unfolding rule_at
rule-action x e p a r m q h =
    subst (λ (k : Means). elim k [
      | an_expression m ↦ e (expression_at x r)
      | a_pattern m ↦ p (pattern_at x r)
      | an_offer m ↦ true
      | an_action m ↦ a (act_of (action_at x r))
      | another k ↦ true
    ] ≡ true) q h

module _ (x : Tables) (w : Whole x) where
  ok : Formed x
  ok = w.free.formed

  type-rule : (r : ℕ) → r < length x.rows → rule_at x (typed_exp x) (typed_pat x) (typed_act x) r ≡ true
  unfolding typed
  type-rule r h = (both_true (rule_at x (typed_exp x) (typed_pat x) (typed_act x) r) _ (w.free.typed r h)).0

  bind-rule : (r : ℕ) → r < length x.rows → rule_at x (λ e. true) (λ p. true) bound_act r ≡ true
  unfolding bound
  bind-rule r h = (both_true (rule_at x (λ e. true) (λ p. true) bound_act r) _ (w.free.bound r h)).0

  good-constant : (f : Fields) → Small f → f.a < length x.sizes → (eqb f.a int || ltb f.b (size_of x f.a)) ≡ true
      → GoodConstant x f.a (constant_of x f)
  unfolding of_size
  good-constant f s h v = record { type = h; value = go (eqb f.a int) refl v }
    where
      ints : f.a ≡ int → of_size x.half (size_of x f.a) (signed x.half f.b) ≡ true
      ints e =
          let z : size_of x f.a ≡ 0 = rw e (sizes-of x w.free).ints in
          rw z (of_size-int x.half (signed x.half f.b) ∙ lt-ltb (mag (signed x.half f.b)) x.half
          (signed-in x.half f.b (omega (arith, s.b, w.half))))

      others : ltb f.b (size_of x f.a) ≡ true → of_size x.half (size_of x f.a) (pos f.b) ≡ true
      others e =
          let l = ltb-true f.b (size_of x f.a) e in
          rw (ne_eqb (size_of x f.a) 0 (λ q. omega arith), e)

      go : (t : Bool) → eqb f.a int ≡ t → (t || ltb f.b (size_of x f.a)) ≡ true
          → of_size x.half (size_of x f.a) (cond t (signed x.half f.b) (pos f.b)) ≡ true
      go true e q = ints (eqb-true f.a int e)
      go false e q = others q

  -- expressions
  good-exp-as : (r : ℕ) (m : ExpressionRow) → means_at x r ≡ an_expression m → r < length x.rows
      → ((i : ℕ) → i < r → is_kind x expression i ≡ true → GoodExp x (expression_at x i)) → GoodExp x (expression_at x r)
  unfolding GoodExp grow_expression
  good-exp-as r is_variable e h ih =
      subst (GoodExp x) (sym (expression_at-is x ok r _ e)) (ltb-true _ _ (row_is x ok r _ e).a)
  good-exp-as r is_constant e h ih =
      let q = row_is x ok r _ e in
      subst (GoodExp x) (sym (expression_at-is x ok r _ e)) (good-constant (fields_of x r) (w.small r) (ltb-true _ _ q.a) q.b)
  good-exp-as r (is_unary o) e h ih =
      let q = row_is x ok r _ e in
      let g = expression_at-is x ok r _ e in
      let t = rule-expression x (typed_exp x) (typed_pat x) (typed_act x) r _ e (type-rule r h) in
      subst (GoodExp x) (sym g) (subst (λ (d : Exp). typed_exp x d ≡ true) g t, ih (fields_of x r).a q.a.below q.a.kind)
  good-exp-as r (is_binary o) e h ih =
      let q = row_is x ok r _ e in
      let g = expression_at-is x ok r _ e in
      let t = rule-expression x (typed_exp x) (typed_pat x) (typed_act x) r _ e (type-rule r h) in
      subst (GoodExp x) (sym g)
      (subst (λ (d : Exp). typed_exp x d ≡ true) g t, ih (fields_of x r).a q.a.below q.a.kind, ih (fields_of x r).b q.b.below q.b.kind)

  good-exp-by : (n r : ℕ) → r < n → is_kind x expression r ≡ true → GoodExp x (expression_at x r)
  good-exp-by zero r h k = absurd (omega arith)
  good-exp-by (suc n) r h k =
      let m = is-kind x expression r k in
      good-exp-as r m.0 m.1 (kind-in x expression r (differ expression unknown (λ z. omega arith)) k)
      (λ i b j. good-exp-by n i (omega arith) j)

  pub good-exp : (r : ℕ) → is_kind x expression r ≡ true → GoodExp x (expression_at x r)
  good-exp r k = good-exp-by (suc r) r (omega arith) k

  -- patterns
  good-pat-as : (r : ℕ) (m : PatternRow) → means_at x r ≡ a_pattern m → r < length x.rows
      → ((i : ℕ) → i < r → is_kind x pattern i ≡ true → GoodPat x (pattern_at x i)) → GoodPat x (pattern_at x r)
  unfolding GoodPat grow_pattern typed_pat
  good-pat-as r is_any e h ih = subst (GoodPat x) (sym (pattern_at-is x ok r _ e)) (ltb-true _ _ (row_is x ok r _ e).a)
  good-pat-as r is_bind e h ih = subst (GoodPat x) (sym (pattern_at-is x ok r _ e)) (ltb-true _ _ (row_is x ok r _ e).a)
  good-pat-as r is_value e h ih =
      let q = row_is x ok r _ e in
      subst (GoodPat x) (sym (pattern_at-is x ok r _ e)) (good-constant (fields_of x r) (w.small r) (ltb-true _ _ q.a) q.b)
  good-pat-as r is_where e h ih =
      let q = row_is x ok r _ e in
      let g = pattern_at-is x ok r _ e in
      let t = rule-pattern x (typed_exp x) (typed_pat x) (typed_act x) r _ e (type-rule r h) in
      subst (GoodPat x) (sym g)
      (eqb-true _ _ (subst (λ (d : Pat). typed_pat x d ≡ true) g t), ih (fields_of x r).a q.a.below q.a.kind, good-exp (fields_of x r).b q.b.kind)

  good-pat-by : (n r : ℕ) → r < n → is_kind x pattern r ≡ true → GoodPat x (pattern_at x r)
  good-pat-by zero r h k = absurd (omega arith)
  good-pat-by (suc n) r h k =
      let m = is-kind x pattern r k in
      good-pat-as r m.0 m.1 (kind-in x pattern r (differ pattern unknown (λ z. omega arith)) k)
      (λ i b j. good-pat-by n i (omega arith) j)

  pub good-pat : (r : ℕ) → is_kind x pattern r ≡ true → GoodPat x (pattern_at x r)
  good-pat r k = good-pat-by (suc r) r (omega arith) k

  -- items, offers and variables of a list
  named-all : (m : ℕ) (k : Kind) (l : List ℕ) → Listed x ok m k l → All (λ i. is_kind x k i ≡ true) l
  named-all m k [] no_more = nil
  named-all m k (i ∷ l) (one-row p q) = cons p.kind (named-all m k l q)

  record GetsRow (i : Gets) : Type 0 where
    inside : Inside x i.v
    good : GoodExp x i.e

  good-gets : (m r : ℕ) → Named x m gets r → All GetsRow (gets_at x r)
  good-gets m r n =
      all_map _ (λ i k. let q = row_is x ok i _ (is-kind x gets i k) in record { inside = ltb-true _ _ q.a; good = good-exp _ q.b.kind })
      (named-all m gets (list_at x r) (list_at-listed x ok r m gets (inr n)))

  good-of_types : (m r : ℕ) → Named x m of_type r → All (λ i. Inside x i.v) (of_types_at x r)
  good-of_types m r n =
      all_map _ (λ i k. ltb-true _ _ (row_is x ok i _ (is-kind x of_type i k)).a)
      (named-all m of_type (list_at x r) (list_at-listed x ok r m of_type (inr n)))

  good-items : (m r : ℕ) → Named x m item r → All (Inside x) (variables_at x r)
  good-items m r n =
      all_map _ (λ i k. ltb-true _ _ (row_is x ok i _ (is-kind x item i k)).a)
      (named-all m item (list_at x r) (list_at-listed x ok r m item (inr n)))

  good-offer : (i : ℕ) (m : OfferRow) → means_at x i ≡ an_offer m → GoodOffer x (offer_of x (fields_of x i) (an_offer m))
  unfolding offer_of
  good-offer i is_emit e = good-exp _ (row_is x ok i _ e).a.kind
  good-offer i is_receive e = good-pat _ (row_is x ok i _ e).a.kind

  good-offers : (m r : ℕ) → (r ≡ none) ⊎ Named x m offer r → All (GoodOffer x) (offers_at x r)
  good-offers m r n =
      all_map _ (λ i k. let o = is-kind x offer i k in
      subst (λ (y : Means). GoodOffer x (offer_of x (fields_of x i) y)) (sym o.1) (good-offer i o.0 o.1))
      (named-all m offer (list_at x r) (list_at-listed x ok r m offer n))

  -- a list that 5 lets pass is as short as its limit says, however far it is read
  short-by : (t : Bool) (k n r : ℕ) → (length (list_up_to k x (next_of x r)) < k → length (list_up_to n x (next_of x r)) < k)
      → length {A = ℕ} (elim t [ true ↦ [] | false ↦ r ∷ list_up_to k x (next_of x r) ]) ≤ k
      → length {A = ℕ} (elim t [ true ↦ [] | false ↦ r ∷ list_up_to n x (next_of x r) ]) ≤ k
  short-by true k n r f h = omega arith
  short-by false k n r f h = f h

  short : (k n r : ℕ) → length (list_up_to (suc k) x r) ≤ k → length (list_up_to n x r) ≤ k
  unfolding list_up_to
  short k zero r h = omega arith
  short zero (suc n) r h = short-by (eqb r none) zero n r (λ g. absurd (omega arith)) h
  short (suc k) (suc n) r h = short-by (eqb r none) (suc k) n r (λ g. let i = short k n (next_of x r) (omega arith) in omega arith) h

  pub short-list : (k r : ℕ) → length (list_up_to (suc k) x r) ≤ k → length (list_at x r) ≤ k
  unfolding list_at
  short-list k r h = short k (suc r) r h

  count-is : (f : ℕ → Action) (l : List ℕ) → count_branches (branches_of x f l) ≡ length l
  unfolding count_branches branches_of
  count-is f [] = refl
  count-is f (i ∷ l) = ap suc (count-is f l)

  -- branches and arms
  good-branches : (m : ℕ) (l : List ℕ) → Listed x ok m branch l → ((i : ℕ) → i < m → is_kind x action i ≡ true → Good x (action_at x i))
      → GoodBranches x (branches_of x (action_at x) l)
  unfolding GoodBranches branches_of
  good-branches m [] no_more ih = tt
  good-branches m (i ∷ l) (one-row p q) ih =
      let a = (row_is x ok i _ (is-kind x branch i p.kind)).a in
      let b = p.below in
      let c = a.below in
      (ih (fields_of x i).a (omega arith) a.kind, good-branches m l q ih)

  good-arms : (m t : ℕ) (l : List ℕ) → Listed x ok m arm l → arms_of_type x t (arms_of x (action_at x) l) ≡ true
      → ((i : ℕ) → i < m → is_kind x action i ≡ true → Good x (action_at x i)) → GoodArms x t (arms_of x (action_at x) l)
  unfolding GoodArms arms_of arms_of_type
  good-arms m t [] no_more e ih = tt
  good-arms m t (i ∷ l) (one-row p q) e ih =
      let r = row_is x ok i _ (is-kind x arm i p.kind) in
      let h = both_true (eqb (type_of_pat x (pattern_at x (fields_of x i).a)) t) _ e in
      let b = p.below in
      let c = r.b.below in
      (eqb-true _ t h.0, good-pat _ r.a.kind, ih (fields_of x i).b (omega arith) r.b.kind, good-arms m t l q h.1 ih)

  good-always : GoodExp x always
  unfolding GoodExp of_size
  good-always =
      let s = sizes-of x w.free in
      record { type = omega (arith, s.two); value = rw s.bools refl }

  good-condition : (m r : ℕ) → (r ≡ none) ⊎ Named x m expression r → (t : Bool) → eqb r none ≡ t
      → GoodExp x (elim t [ true ↦ always | false ↦ expression_at x r ])
  good-condition m r n true e = good-always
  good-condition m r (inl q) false e = absurd (eqb-false r none e q)
  good-condition m r (inr q) false e = good-exp r q.kind

  type-list : {k : Kind} {m most n : ℕ} → (n ≡ none) ⊎ (Named x m k n × (length (list_up_to (suc most) x n) ≤ most)) → (n ≡ none) ⊎ Named x m k n
  type-list (inl e) = inl e
  type-list (inr p) = inr p.0

  list_length : (m most n : ℕ) (k : Kind) → (n ≡ none) ⊎ (Named x m k n × (length (list_up_to (suc most) x n) ≤ most)) → length (list_at x n) ≤ most
  list_length m most n k (inl e) = rw (e, list_at-none x ok) (omega arith)
  list_length m most n k (inr p) = short-list most n p.1

  signed_range : (n : ℕ) → n < 65536 → mag (signed half16 n) < x.half
  signed_range n h = omega (arith, signed-in half16 n h, w.half)

  -- actions
  module _ (r : ℕ) (h : r < length x.rows) (ih : (i : ℕ) → i < r → is_kind x action i ≡ true → Good x (action_at x i)) where
    typed-as : (m : ActionRow) → means_at x r ≡ an_action m → typed_act x (grow_action x (action_at x) (fields_of x r) (an_action m)) ≡ true
    typed-as m e =
        subst (λ (d : Action). typed_act x (act_of d) ≡ true) (action_at-is x ok r _ e)
        (rule-action x (typed_exp x) (typed_pat x) (typed_act x) r m e (type-rule r h))

    bound-as : (m : ActionRow) → means_at x r ≡ an_action m → bound_act (grow_action x (action_at x) (fields_of x r) (an_action m)) ≡ true
    bound-as m e =
        subst (λ (d : Action). bound_act (act_of d) ≡ true) (action_at-is x ok r _ e)
        (rule-action x (λ e. true) (λ p. true) bound_act r m e (bind-rule r h))

    good-act : (m : ActionRow) → means_at x r ≡ an_action m → GoodAct x (grow_action x (action_at x) (fields_of x r) (an_action m))
    unfolding GoodAct grow_action typed_act condition_at
    good-act is_null e = tt
    good-act is_assign e = (
      bound-as is_assign e,
      all-zip (λ i q t. record { inside = q.inside; typed = eqb-true _ _ t; good = q.good })
          (good-gets r _ (row_is x ok r _ e).a.0) (all_true _ _ (typed-as is_assign e)),
    )
    good-act is_choose e =
        let q = row_is x ok r _ e in
        let t = both_true (all (λ i. eqb (type_of x i.v) i.t) (of_types_at x (fields_of x r).a)) _ (typed-as is_choose e) in (
          bound-as is_choose e,
          all-zip (λ i a b. record { inside = a; typed = eqb-true _ _ b }) (good-of_types r _ q.a.0) (all_true _ _ t.0),
          eqb-true _ bool t.1,
          good-condition r (fields_of x r).b q.b (eqb (fields_of x r).b none) refl,
        )
    good-act is_reset e = (bound-as is_reset e, good-items r _ (row_is x ok r _ e).a.0)
    good-act is_communicate e =
        let q = row_is x ok r _ e in (
          bound-as is_communicate e,
          good-offers r _ (type-list q.b),
          rw length-map (list_length r 8 (fields_of x r).b offer q.b),
          ltb-true _ _ q.a,
        )
    good-act is_to e = ltb-true _ _ (row_is x ok r _ e).a
    good-act is_then e =
        let q = row_is x ok r _ e in
        (ih _ q.a.below q.a.kind, ih _ q.b.below q.b.kind)
    good-act is_select e =
        let q = row_is x ok r _ e in (
          rw (count-is (action_at x) (list_at x (fields_of x r).a)) (list_length r 64 (fields_of x r).a branch q.a),
          good-branches r _ (list_at-listed x ok _ r branch (type-list q.a)) ih,
        )
    good-act is_case e =
        let q = row_is x ok r _ e in (
          good-exp _ q.a.kind,
          good-arms r (type_of_exp x (expression_at x (fields_of x r).a)) _ (list_at-listed x ok _ r arm (type-list q.b)) (typed-as is_case e) ih,
        )
    good-act is_while e =
        let q = row_is x ok r _ e in
        (eqb-true _ bool (typed-as is_while e), good-exp _ q.a.kind, ih _ q.b.below q.b.kind)
    good-act is_for e =
        let q = row_is x ok r _ e in
        let n = (fields_of x r).a in
        let g = row_is x ok n _ (is-kind x range n q.a.kind) in (
          bound-as is_for e,
          ltb-true _ _ g.a,
          eqb-true _ int (typed-as is_for e),
          signed_range (fields_of x n).b (w.small n).b,
          signed_range (fields_of x n).c (w.small n).c,
          ih _ q.b.below q.b.kind,
        )

  good-by : (n r : ℕ) → r < n → is_kind x action r ≡ true → Good x (action_at x r)
  unfolding Good
  good-by zero r h k = absurd (omega arith)
  good-by (suc n) r h k =
      let m = is-kind x action r k in
      subst (Good x) (sym (action_at-is x ok r _ m.1))
      (good-act r (kind-in x action r (differ action unknown (λ z. omega arith)) k) (λ i b j. good-by n i (omega arith) j) m.0 m.1)

  pub good-action : (r : ℕ) → is_kind x action r ≡ true → Good x (action_at x r)
  good-action r k = good-by (suc r) r (omega arith) k

  -- act(s) of every state
  pub good-state : (s : ℕ) → s < length x.states → Good x (act x s)
  unfolding is_root
  good-state s h = good-action _ (both_true (ltb (get_or x.states s none) (length x.rows)) _ (w.free.roots s h)).1
