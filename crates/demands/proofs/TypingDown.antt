-- If the automaton is well typed, every row's tree is: the judgement goes down from the roots. Assumes nothing.
use mathlib.Core.{Path.◌≡◌, Path.refl, Path.sym, Path.ap, Path.◌∙◌, Path.subst, Logic.◌⊎◌, Logic.inl, Logic.inr}
use mathlib.Core.{Bool.Bool, Bool.true, Bool.false, List.List, List.◌∷◌, List.map}
use Prim.Native.Nat.{ℕ, ◌≤◌, ◌<◌}
use native.Mathlib.Omega.{arith}
use lib.{Dec.eqb, ListN.length, ListN.get_or}
use borrow.Author.Tests.{ne_eqb}
use Rattle.model.specs.declared.Gate.{Gate}
use Rattle.model.specs.Image.{Tables, none, bool, fields_of}
use Rattle.model.specs.Rows.{Unary, Binary, expression, pattern, offer, gets, of_type, item, range, action, branch, arm, unknown, is_variable, is_constant, is_unary, is_binary, is_any, is_bind, is_value, is_where, is_emit, is_receive, is_null, is_assign, is_choose, is_reset, is_communicate, is_to, is_then, is_select, is_case, is_while, is_for, Means, an_expression, a_pattern, an_offer, an_action, another, means_at, is_kind, named_once, next_of}
use Rattle.model.specs.declared.Variable.{Variable}
use lib.IntN.{ℤ}
use Rattle.model.specs.Trees.{Exp, unary, binary, Pat, guarded, Offer, emit, receive, Gets, OfType, Action, assign, choose, communicate, then, select, case, while, for, Branches, branch as a_branch, Arms, arm as an_arm}
use Rattle.model.specs.Decode.{grow_expression, expression_at, condition_at, always, grow_pattern, pattern_at, list_at, offer_of, offers_at, gets_at, branches_of, arms_of, grow_action, action_at}
use Rattle.model.proofs.Rows.{Formed, Row, row_is, is-kind}
use Rattle.model.proofs.Decode.{expression_at-is, pattern_at-is, action_at-is, list_at-step}
use Rattle.model.proofs.Codes.{next-is}
use Rattle.demands.specs.Common.{Every, one_more, none_left}
use Rattle.demands.specs.Judgements.{HasType, t_unary, t_binary, PatType, t_guarded, OfferTyped, t_emit, t_receive, GetsTyped, WellTyped, TypedAct, t_assign, t_choose, t_quiet, t_communicate, t_then, t_select, t_case, t_while, t_for, TypedBranches, t_branch, TypedArms, t_arm, AutomatonTyped, TypedAs, RowTyped}
use Rattle.demands.proofs.TypingRows.{act-in}
use Rattle.demands.proofs.Kids.{Hands, everywhere}

pub some : {A : Type 0} {n : ℕ} → (n ≡ none) ⊎ A → (n ≡ none → ⊥) → A
some (inl e) f = absurd (f e)
some (inr a) f = a

pub condition-some : (x : Tables) (n : ℕ) → (n ≡ none → ⊥) → condition_at x n ≡ expression_at x n
unfolding condition_at
condition-some x n f = go (eqb n none) (ne_eqb n none f)
  where
    go : (b : Bool) → b ≡ false → ◌≡◌ {A = Exp} (elim b [ true ↦ always | false ↦ expression_at x n ]) (expression_at x n)
    go b e = rw e

pub head : {A : Type 0} {P : A → Type 0} {a : A} {l : List A} → Every P (a ∷ l) → P a
head (one_more h hs) = h

pub tail : {A : Type 0} {P : A → Type 0} {a : A} {l : List A} → Every P (a ∷ l) → Every P l
tail (one_more h hs) = hs

module _ (x : Tables) where
  abbrev Typable : Exp → Type 0
  Typable e = (t : ℕ) × HasType x e t

  abbrev TypablePat : Pat → Type 0
  TypablePat p = (t : ℕ) × PatType x p t

  -- ---- the parts of a well-typed tree
  unary-in : {o : Unary} {e : Exp} {t : ℕ} → HasType x (unary o e) t → Typable e
  unary-in (t_unary p h) = (_, h)

  left_in : {o : Binary} {a b : Exp} {t : ℕ} → HasType x (binary o a b) t → Typable a
  left_in (t_binary p h k) = (_, h)

  right-in : {o : Binary} {a b : Exp} {t : ℕ} → HasType x (binary o a b) t → Typable b
  right-in (t_binary p h k) = (_, k)

  pattern-in : {p : Pat} {e : Exp} {t : ℕ} → PatType x (guarded p e) t → PatType x p t
  pattern-in (t_guarded h k) = h

  guard-in : {p : Pat} {e : Exp} {t : ℕ} → PatType x (guarded p e) t → HasType x e bool
  guard-in (t_guarded h k) = k

  emit-in : {e : Exp} → OfferTyped x (emit e) → Typable e
  emit-in (t_emit h) = (_, h)

  receive-in : {p : Pat} → OfferTyped x (receive p) → TypablePat p
  receive-in (t_receive h) = (_, h)

  assign-in : {is : List Gets} → TypedAct x (assign is) → Every (GetsTyped x) is
  assign-in (t_assign h) = h

  choose-in : {is : List OfType} {e : Exp} → TypedAct x (choose is e) → HasType x e bool
  choose-in (t_choose h k) = h

  offers-in : {g : Gate} {os : List Offer} → TypedAct x (communicate g os) → Every (OfferTyped x) os
  offers-in t_quiet = none_left
  offers-in (t_communicate f h) = h

  first-in : {a b : Action} → TypedAct x (then a b) → WellTyped x a
  first-in (t_then h k) = h

  second-in : {a b : Action} → TypedAct x (then a b) → WellTyped x b
  second-in (t_then h k) = k

  select_in : {bs : Branches} → TypedAct x (select bs) → TypedBranches x bs
  select_in (t_select h) = h

  subject-in : {e : Exp} {arms : Arms} → TypedAct x (case e arms) → Typable e
  subject-in (t_case h k) = (_, h)

  arms-in : {e : Exp} {arms : Arms} → TypedAct x (case e arms) → (t : ℕ) × TypedArms x t arms
  arms-in (t_case h k) = (_, k)

  test_in : {e : Exp} {a : Action} → TypedAct x (while e a) → HasType x e bool
  test_in (t_while h k) = h

  body-in : {e : Exp} {a : Action} → TypedAct x (while e a) → WellTyped x a
  body-in (t_while h k) = k

  for-in : {v : Variable} {low high : ℤ} {a : Action} → TypedAct x (for v low high a) → WellTyped x a
  for-in (t_for h k) = k

  branch_in : {a : Action} {bs : Branches} → TypedBranches x (a_branch a bs) → WellTyped x a
  branch_in (t_branch h k) = h

  branches-in : {a : Action} {bs : Branches} → TypedBranches x (a_branch a bs) → TypedBranches x bs
  branches-in (t_branch h k) = k

  arm-pattern : {t : ℕ} {p : Pat} {a : Action} {rest : Arms} → TypedArms x t (an_arm p a rest) → PatType x p t
  arm-pattern (t_arm h k l) = h

  arm-action : {t : ℕ} {p : Pat} {a : Action} {rest : Arms} → TypedArms x t (an_arm p a rest) → WellTyped x a
  arm-action (t_arm h k l) = k

  arm-rest : {t : ℕ} {p : Pat} {a : Action} {rest : Arms} → TypedArms x t (an_arm p a rest) → TypedArms x t rest
  arm-rest (t_arm h k l) = l

  -- ---- a row's tree, or the list that starts at it, is well typed
  unfoldable WellAs : ℕ → Means → Type 0
  WellAs r (an_expression m) = Typable (expression_at x r)
  WellAs r (a_pattern m) = TypablePat (pattern_at x r)
  WellAs r (an_offer m) = Every (OfferTyped x) (offers_at x r)
  WellAs r (an_action m) = WellTyped x (action_at x r)
  WellAs r (another expression) = Unit
  WellAs r (another pattern) = Unit
  WellAs r (another offer) = Unit
  WellAs r (another gets) = Every (GetsTyped x) (gets_at x r)
  WellAs r (another of_type) = Unit
  WellAs r (another item) = Unit
  WellAs r (another range) = Unit
  WellAs r (another action) = Unit
  WellAs r (another branch) = TypedBranches x (branches_of x (action_at x) (list_at x r))
  WellAs r (another arm) = (t : ℕ) × TypedArms x t (arms_of x (action_at x) (list_at x r))
  WellAs r (another unknown) = Unit

  abbrev Well : ℕ → Type 0
  Well r = WellAs r (means_at x r)

  give : (n : ℕ) (m : Means) → means_at x n ≡ m → WellAs n m → Well n
  give n m e h = subst (WellAs n) (sym e) h

  give-exp : (n : ℕ) → is_kind x expression n ≡ true → Typable (expression_at x n) → Well n
  unfolding WellAs
  give-exp n k h = let m = is-kind x expression n k in give n (an_expression m.0) m.1 h

  give-pat : (n : ℕ) → is_kind x pattern n ≡ true → TypablePat (pattern_at x n) → Well n
  unfolding WellAs
  give-pat n k h = let m = is-kind x pattern n k in give n (a_pattern m.0) m.1 h

  give-offers : (n : ℕ) → is_kind x offer n ≡ true → Every (OfferTyped x) (offers_at x n) → Well n
  unfolding WellAs
  give-offers n k h = let m = is-kind x offer n k in give n (an_offer m.0) m.1 h

  give-act : (n : ℕ) → is_kind x action n ≡ true → WellTyped x (action_at x n) → Well n
  unfolding WellAs
  give-act n k h = let m = is-kind x action n k in give n (an_action m.0) m.1 h

  give-gets : (n : ℕ) → is_kind x gets n ≡ true → Every (GetsTyped x) (gets_at x n) → Well n
  unfolding WellAs
  give-gets n k h = give n (another gets) (is-kind x gets n k) h

  give-branches : (n : ℕ) → is_kind x branch n ≡ true → TypedBranches x (branches_of x (action_at x) (list_at x n)) → Well n
  unfolding WellAs
  give-branches n k h = give n (another branch) (is-kind x branch n k) h

  give-arms : (n : ℕ) → is_kind x arm n ≡ true → (t : ℕ) × TypedArms x t (arms_of x (action_at x) (list_at x n)) → Well n
  unfolding WellAs
  give-arms n k h = give n (another arm) (is-kind x arm n k) h

  give-of_type : (n : ℕ) → is_kind x of_type n ≡ true → Well n
  unfolding WellAs
  give-of_type n k = give n (another of_type) (is-kind x of_type n k) tt

  give-item : (n : ℕ) → is_kind x item n ≡ true → Well n
  unfolding WellAs
  give-item n k = give n (another item) (is-kind x item n k) tt

  give-range : (n : ℕ) → is_kind x range n ≡ true → Well n
  unfolding WellAs
  give-range n k = give n (another range) (is-kind x range n k) tt

  module _ (ok : Formed x) (short : length x.rows ≤ none) (r : ℕ) (real : r < length x.rows) where
    this : r ≡ none → ⊥
    this e = omega arith

    -- the list at row r: the row and what follows
    list-here : (n : ℕ) → next_of x r ≡ n → list_at x r ≡ r ∷ list_at x n
    list-here n e = list_at-step x ok r this ∙ ap (λ (k : ℕ). r ∷ list_at x k) e

    act-here : (m : Means) → means_at x r ≡ m → WellTyped x (action_at x r) → TypedAct x (grow_action x (action_at x) (fields_of x r) m)
    act-here m e h = act-in (subst (WellTyped x) (action_at-is x ok r m e) h)

    offers-here : (m : Means) → means_at x r ≡ m → (n : ℕ) → next_of x r ≡ n → Every (OfferTyped x) (offers_at x r)
        → Every (OfferTyped x) (offer_of x (fields_of x r) m ∷ offers_at x n)
    offers-here m e n q h =
        subst (λ (k : Means). Every (OfferTyped x) (offer_of x (fields_of x r) k ∷ offers_at x n)) e
        (subst (λ (l : List ℕ). Every (OfferTyped x) (map (λ i. offer_of x (fields_of x i) (means_at x i)) l)) (list-here n q) h)

    hand : (m : Means) → means_at x r ≡ m → Row x r (fields_of x r) m → WellAs r m → Hands x ok Well r m
    unfolding WellAs grow_expression grow_pattern grow_action offer_of branches_of arms_of
    hand (an_expression is_variable) e q h = (tt, tt, tt)
    hand (an_expression is_constant) e q h = (tt, tt, tt)
    hand (an_expression (is_unary o)) e q h =
        let g = subst Typable (expression_at-is x ok r _ e) h in
        (give-exp _ q.a.kind (unary-in g.1), tt, tt)
    hand (an_expression (is_binary o)) e q h =
        let g = subst Typable (expression_at-is x ok r _ e) h in
        (give-exp _ q.a.kind (left_in g.1), give-exp _ q.b.kind (right-in g.1), tt)
    hand (a_pattern is_any) e q h = (tt, tt, tt)
    hand (a_pattern is_bind) e q h = (tt, tt, tt)
    hand (a_pattern is_value) e q h = (tt, tt, tt)
    hand (a_pattern is_where) e q h =
        let g = subst TypablePat (pattern_at-is x ok r _ e) h in
        (give-pat _ q.a.kind (_, pattern-in g.1), give-exp _ q.b.kind (_, guard-in g.1), tt)
    hand (an_offer is_emit) e q h =
        let g = offers-here _ e _ (next-is x r _ e) h in
        (give-exp _ q.a.kind (emit-in (head g)), λ f. give-offers _ (some q.b f).kind (tail g), tt)
    hand (an_offer is_receive) e q h =
        let g = offers-here _ e _ (next-is x r _ e) h in
        (give-pat _ q.a.kind (receive-in (head g)), λ f. give-offers _ (some q.b f).kind (tail g), tt)
    hand (an_action is_null) e q h = (tt, tt, tt)
    hand (an_action is_assign) e q h = (give-gets _ q.a.0.kind (assign-in (act-here _ e h)), tt, tt)
    hand (an_action is_choose) e q h = (
      give-of_type _ q.a.0.kind,
      λ f. give-exp _ (some q.b f).kind (bool, subst (λ (d : Exp). HasType x d bool) (condition-some x _ f) (choose-in (act-here _ e h))),
      tt,
    )
    hand (an_action is_reset) e q h = (give-item _ q.a.0.kind, tt, tt)
    hand (an_action is_communicate) e q h = (tt, λ f. give-offers _ (some q.b f).0.kind (offers-in (act-here _ e h)), tt)
    hand (an_action is_to) e q h = (tt, tt, tt)
    hand (an_action is_then) e q h =
        let g = act-here _ e h in
        (give-act _ q.a.kind (first-in g), give-act _ q.b.kind (second-in g), tt)
    hand (an_action is_select) e q h = (λ f. give-branches _ (some q.a f).0.kind (select_in (act-here _ e h)), tt, tt)
    hand (an_action is_case) e q h =
        let g = act-here _ e h in
        (give-exp _ q.a.kind (subject-in g), λ f. give-arms _ (some q.b f).0.kind (arms-in g), tt)
    hand (an_action is_while) e q h =
        let g = act-here _ e h in
        (give-exp _ q.a.kind (_, test_in g), give-act _ q.b.kind (body-in g), tt)
    hand (an_action is_for) e q h = (give-range _ q.a.kind, give-act _ q.b.kind (for-in (act-here _ e h)), tt)
    hand (another expression) e q h = (tt, tt, tt)
    hand (another pattern) e q h = (tt, tt, tt)
    hand (another offer) e q h = (tt, tt, tt)
    hand (another gets) e q h =
        let l = list-here _ (next-is x r _ e) in
        let g = subst (λ (l : List ℕ). Every (GetsTyped x) (map (λ i. record { v = record { 0 = (fields_of x i).a }; e = expression_at x (fields_of x i).b }) l)) l h in
        (tt, give-exp _ q.b.kind (_, head g), λ f. give-gets _ (some q.c f).kind (tail g))
    hand (another of_type) e q h = (tt, tt, λ f. give-of_type _ (some q.c f).kind)
    hand (another item) e q h = (tt, λ f. give-item _ (some q.b f).kind, tt)
    hand (another range) e q h = (tt, tt, tt)
    hand (another action) e q h = (tt, tt, tt)
    hand (another branch) e q h =
        let l = list-here _ (next-is x r _ e) in
        let g = subst (λ (l : List ℕ). TypedBranches x (branches_of x (action_at x) l)) l h in
        (give-act _ q.a.kind (branch_in g), λ f. give-branches _ (some q.b f).kind (branches-in g), tt)
    hand (another arm) e q h =
        let l = list-here _ (next-is x r _ e) in
        let g = subst (λ (l : List ℕ). TypedArms x h.0 (arms_of x (action_at x) l)) l h.1 in
        (give-pat _ q.a.kind (_, arm-pattern g), give-act _ q.b.kind (arm-action g), λ f. give-arms _ (some q.c f).kind (_, arm-rest g))
    hand (another unknown) e q h = (tt, tt, tt)

    placed : (m : Means) → WellAs r m → TypedAs x r m
    unfolding WellAs
    placed (an_expression m) h = h
    placed (a_pattern m) h = h
    placed (an_offer m) h = tt
    placed (an_action m) h = h
    placed (another k) h = tt

  module _ (ok : Formed x) (short : length x.rows ≤ none) (once : (r : ℕ) → r < length x.rows → named_once x r ≡ true)
      (root : is_kind x expression x.condition ≡ true) (roots : (s : ℕ) → s < length x.states → is_kind x action (get_or x.states s none) ≡ true) where
    pub typed-down : AutomatonTyped x → (r : ℕ) → r < length x.rows → RowTyped x r
    typed-down w r h = record {
      tree = placed ok short r h (means_at x r)
          (everywhere x ok Well once (λ i b k. hand ok short i b (means_at x i) refl (row_is x ok i _ refl) k)
          (give-exp _ root (bool, w.condition)) (λ s b. give-act _ (roots s b) (w.states s b)) r h);
      condition = λ e. w.condition;
    }
