-- Decoding unfolds one level: in an image free of 5 a row's tree is made of the trees of lower rows. Callers use these laws
-- and no fuel. Assumes nothing.
use mathlib.Core.{Path.◌≡◌, Path.refl, Path.sym, Path.ap, Path.◌∙◌, Path.subst, Logic.◌⊎◌, Logic.inl, Logic.inr, Logic.⊎_elim}
use mathlib.Core.{Bool.Bool, Bool.true, Bool.false, List.List, List.[], List.◌∷◌}
use Prim.Native.Nat.{ℕ, zero, suc, ◌<◌}
use native.Mathlib.Omega.{arith}
use lib.Dec.{eqb}
use borrow.Author.Tests.{ne_eqb}
use Rattle.model.specs.declared.Fields.{Fields}
use Rattle.model.specs.Image.{Tables, none, fields_of}
use Rattle.model.specs.Rows.{Kind, branch, arm, is_variable, is_constant, is_unary, is_binary, is_any, is_bind, is_value, is_where, is_null, is_assign, is_choose, is_reset, is_communicate, is_to, is_then, is_select, is_case, is_while, is_for, Means, an_expression, a_pattern, an_offer, an_action, another, kind_of, means_at, is_kind, next_of, list_up_to}
use Rattle.model.specs.Trees.{Exp, Pat, Action, at}
use Rattle.model.specs.Decode.{grow_expression, expression_by, expression_at, grow_pattern, pattern_by, pattern_at, list_at, branches_of, arms_of, grow_action, action_by, action_at}
use Rattle.model.proofs.Rows.{Named, Row, Formed, row_of, row_is, kind-of, is-kind, next-named}

module _ (x : Tables) (ok : Formed x) where
  same-expression : (f g : ℕ → Exp) (r : ℕ) (w : Fields) (m : Means) → Row x r w m → ((i : ℕ) → i < r → f i ≡ g i)
      → grow_expression x f w m ≡ grow_expression x g w m
  unfolding grow_expression
  same-expression f g r w (an_expression is_variable) q e = refl
  same-expression f g r w (an_expression is_constant) q e = refl
  same-expression f g r w (an_expression (is_unary o)) q e = rw (e w.a q.a.below)
  same-expression f g r w (an_expression (is_binary o)) q e = rw (e w.a q.a.below, e w.b q.b.below)
  same-expression f g r w (a_pattern p) q e = refl
  same-expression f g r w (an_offer o) q e = refl
  same-expression f g r w (an_action a) q e = refl
  same-expression f g r w (another k) q e = refl

  expression-enough : (n k r : ℕ) → r < n → r < k → expression_by n x r ≡ expression_by k x r
  unfolding expression_by
  expression-enough zero k r h l = absurd (omega arith)
  expression-enough (suc n) zero r h l = absurd (omega arith)
  expression-enough (suc n) (suc k) r h l =
      same-expression (λ i. expression_by n x i) (λ i. expression_by k x i) r (fields_of x r) (means_at x r) (row_of x ok r)
      (λ i b. expression-enough n k i (omega arith) (omega arith))

  -- a row's expression, one level down
  pub expression_at-step : (r : ℕ) → expression_at x r ≡ grow_expression x (expression_at x) (fields_of x r) (means_at x r)
  unfolding expression_at expression_by
  expression_at-step r =
      same-expression (λ i. expression_by r x i) (λ i. expression_by (suc i) x i) r (fields_of x r) (means_at x r) (row_of x ok r)
      (λ i b. expression-enough r (suc i) i b (omega arith))

  pub expression_at-is : (r : ℕ) (m : Means) → means_at x r ≡ m → expression_at x r ≡ grow_expression x (expression_at x) (fields_of x r) m
  expression_at-is r m e = expression_at-step r ∙ ap (grow_expression x (expression_at x) (fields_of x r)) e

  same-pattern : (f g : ℕ → Pat) (r : ℕ) (w : Fields) (m : Means) → Row x r w m → ((i : ℕ) → i < r → f i ≡ g i)
      → grow_pattern x f w m ≡ grow_pattern x g w m
  unfolding grow_pattern
  same-pattern f g r w (an_expression e) q h = refl
  same-pattern f g r w (a_pattern is_any) q h = refl
  same-pattern f g r w (a_pattern is_bind) q h = refl
  same-pattern f g r w (a_pattern is_value) q h = refl
  same-pattern f g r w (a_pattern is_where) q h = rw (h w.a q.a.below)
  same-pattern f g r w (an_offer o) q h = refl
  same-pattern f g r w (an_action a) q h = refl
  same-pattern f g r w (another k) q h = refl

  pattern-enough : (n k r : ℕ) → r < n → r < k → pattern_by n x r ≡ pattern_by k x r
  unfolding pattern_by
  pattern-enough zero k r h l = absurd (omega arith)
  pattern-enough (suc n) zero r h l = absurd (omega arith)
  pattern-enough (suc n) (suc k) r h l =
      same-pattern (λ i. pattern_by n x i) (λ i. pattern_by k x i) r (fields_of x r) (means_at x r) (row_of x ok r)
      (λ i b. pattern-enough n k i (omega arith) (omega arith))

  -- a row's pattern, one level down
  pub pattern_at-step : (r : ℕ) → pattern_at x r ≡ grow_pattern x (pattern_at x) (fields_of x r) (means_at x r)
  unfolding pattern_at pattern_by
  pattern_at-step r =
      same-pattern (λ i. pattern_by r x i) (λ i. pattern_by (suc i) x i) r (fields_of x r) (means_at x r) (row_of x ok r)
      (λ i b. pattern-enough r (suc i) i b (omega arith))

  pub pattern_at-is : (r : ℕ) (m : Means) → means_at x r ≡ m → pattern_at x r ≡ grow_pattern x (pattern_at x) (fields_of x r) m
  pattern_at-is r m e = pattern_at-step r ∙ ap (grow_pattern x (pattern_at x) (fields_of x r)) e

  list-none : (n : ℕ) → list_up_to n x none ≡ []
  unfolding list_up_to
  list-none zero = refl
  list-none (suc n) = refl

  pick_same : (b : Bool) (k l : List ℕ) → k ≡ l → ◌≡◌ {A = List ℕ} (elim b [ true ↦ [] | false ↦ k ]) (elim b [ true ↦ [] | false ↦ l ])
  pick_same true k l e = refl
  pick_same false k l e = e

  list-enough : (n k r : ℕ) → (r ≡ none) ⊎ ((r < n) × (r < k)) → list_up_to n x r ≡ list_up_to k x r
  unfolding list_up_to
  list-enough zero k r (inl e) = rw e (sym (list-none k))
  list-enough zero k r (inr p) = let h = p.0 in absurd (omega arith)
  list-enough (suc n) zero r (inl e) = rw e (list-none (suc n))
  list-enough (suc n) zero r (inr p) = let h = p.1 in absurd (omega arith)
  list-enough (suc n) (suc k) r (inl e) = rw e (list-none (suc n) ∙ sym (list-none (suc k)))
  list-enough (suc n) (suc k) r (inr p) =
      let h = p.0 in
      let l = p.1 in
      pick_same (eqb r none) (r ∷ list_up_to n x (next_of x r)) (r ∷ list_up_to k x (next_of x r))
      (ap (λ (t : List ℕ). r ∷ t)
      (list-enough n k (next_of x r)
      (⊎_elim (λ e. inl e) (λ q. let b = q.below in inr (omega arith, omega arith)) (next-named x ok r))))

  -- a list's rows, one row on
  pub list_at-none : list_at x none ≡ []
  unfolding list_at
  list_at-none = list-none (suc none)

  pick-false : (b : Bool) (l : List ℕ) → b ≡ false → ◌≡◌ {A = List ℕ} (elim b [ true ↦ [] | false ↦ l ]) l
  pick-false b l e = rw e

  pub list_at-step : (r : ℕ) → (r ≡ none → ⊥) → list_at x r ≡ r ∷ list_at x (next_of x r)
  unfolding list_at list_up_to
  list_at-step r f =
      let n = next_of x r in
      pick-false (eqb r none) (r ∷ list_up_to r x n) (ne_eqb r none f)
      ∙ ap (λ (t : List ℕ). r ∷ t)
      (list-enough r (suc n) n (⊎_elim (λ e. inl e) (λ q. let b = q.below in inr (b, omega arith)) (next-named x ok r)))

  -- the rows of a list below row m, of its kind
  pub data Listed (m : ℕ) (k : Kind) : List ℕ → Type 0 where
    no_more : Listed m k []
    one-row : {i : ℕ} {l : List ℕ} → Named x m k i → Listed m k l → Listed m k (i ∷ l)

  pick-listed : (m : ℕ) (k : Kind) (b : Bool) (l : List ℕ) → Listed m k l → Listed m k (elim b [ true ↦ [] | false ↦ l ])
  pick-listed m k true l p = no_more
  pick-listed m k false l p = p

  list-listed : (n r m : ℕ) (k : Kind) → (r ≡ none) ⊎ Named x m k r → Listed m k (list_up_to n x r)
  unfolding list_up_to
  list-listed zero r m k p = no_more
  list-listed (suc n) r m k (inl e) = rw (e, list-none (suc n)) no_more
  list-listed (suc n) r m k (inr p) =
      pick-listed m k (eqb r none) (r ∷ list_up_to n x (next_of x r))
      (one-row p (list-listed n (next_of x r) m k (⊎_elim (λ e. inl e) (λ q. inr (on q)) (next-named x ok r))))
    where
      on : Named x r (kind_of (means_at x r)) (next_of x r) → Named x m k (next_of x r)
      on q =
          let a = q.below in
          let b = p.below in
          record { below = omega arith; kind = subst (λ (j : Kind). is_kind x j (next_of x r) ≡ true) (kind-of x k r p.kind) q.kind }

  pub list_at-listed : (r m : ℕ) (k : Kind) → (r ≡ none) ⊎ Named x m k r → Listed m k (list_at x r)
  unfolding list_at
  list_at-listed r m k p = list-listed (suc r) r m k p

  same-branches : (f g : ℕ → Action) (m : ℕ) (l : List ℕ) → Listed m branch l → ((i : ℕ) → i < m → f i ≡ g i)
      → branches_of x f l ≡ branches_of x g l
  unfolding branches_of
  same-branches f g m [] no_more e = refl
  same-branches f g m (i ∷ l) (one-row p q) e =
      let b = p.below in
      let c = (row_is x ok i (another branch) (is-kind x branch i p.kind)).a.below in
      rw (e (fields_of x i).a (omega arith), same-branches f g m l q e)

  same-arms : (f g : ℕ → Action) (m : ℕ) (l : List ℕ) → Listed m arm l → ((i : ℕ) → i < m → f i ≡ g i) → arms_of x f l ≡ arms_of x g l
  unfolding arms_of
  same-arms f g m [] no_more e = refl
  same-arms f g m (i ∷ l) (one-row p q) e =
      let b = p.below in
      let c = (row_is x ok i (another arm) (is-kind x arm i p.kind)).b.below in
      rw (e (fields_of x i).b (omega arith), same-arms f g m l q e)

  same-action : (f g : ℕ → Action) (r : ℕ) (w : Fields) (m : Means) → Row x r w m → ((i : ℕ) → i < r → f i ≡ g i)
      → grow_action x f w m ≡ grow_action x g w m
  unfolding grow_action
  same-action f g r w (an_expression e) q h = refl
  same-action f g r w (a_pattern p) q h = refl
  same-action f g r w (an_offer o) q h = refl
  same-action f g r w (an_action is_null) q h = refl
  same-action f g r w (an_action is_assign) q h = refl
  same-action f g r w (an_action is_choose) q h = refl
  same-action f g r w (an_action is_reset) q h = refl
  same-action f g r w (an_action is_communicate) q h = refl
  same-action f g r w (an_action is_to) q h = refl
  same-action f g r w (an_action is_then) q h = rw (h w.a q.a.below, h w.b q.b.below)
  same-action f g r w (an_action is_select) q h =
      rw (same-branches f g r (list_at x w.a) (list_at-listed w.a r branch (⊎_elim (λ e. inl e) (λ p. inr p.0) q.a)) h)
  same-action f g r w (an_action is_case) q h =
      rw (same-arms f g r (list_at x w.b) (list_at-listed w.b r arm (⊎_elim (λ e. inl e) (λ p. inr p.0) q.b)) h)
  same-action f g r w (an_action is_while) q h = rw (h w.b q.b.below)
  same-action f g r w (an_action is_for) q h = rw (h w.b q.b.below)
  same-action f g r w (another k) q h = refl

  action-enough : (n k r : ℕ) → r < n → r < k → action_by n x r ≡ action_by k x r
  unfolding action_by
  action-enough zero k r h l = absurd (omega arith)
  action-enough (suc n) zero r h l = absurd (omega arith)
  action-enough (suc n) (suc k) r h l =
      ap (at r) (same-action (λ i. action_by n x i) (λ i. action_by k x i) r (fields_of x r) (means_at x r) (row_of x ok r)
      (λ i b. action-enough n k i (omega arith) (omega arith)))

  -- a row's action, one level down
  pub action_at-step : (r : ℕ) → action_at x r ≡ at r (grow_action x (action_at x) (fields_of x r) (means_at x r))
  unfolding action_at action_by
  action_at-step r =
      ap (at r) (same-action (λ i. action_by r x i) (λ i. action_by (suc i) x i) r (fields_of x r) (means_at x r) (row_of x ok r)
      (λ i b. action-enough r (suc i) i b (omega arith)))

  pub action_at-is : (r : ℕ) (m : Means) → means_at x r ≡ m → action_at x r ≡ at r (grow_action x (action_at x) (fields_of x r) m)
  action_at-is r m e = action_at-step r ∙ ap (λ (k : Means). at r (grow_action x (action_at x) (fields_of x r) k)) e
