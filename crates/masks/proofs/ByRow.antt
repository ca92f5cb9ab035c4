-- The masks of a row from its fields and the masks of lower rows, in an image free of 5. Assumes nothing.
use mathlib.Core.{Path.◌≡◌, Path.refl, Path.ap, Path.◌∙◌, Logic.◌⊎◌, Logic.inl, Logic.inr, Bool.true, List.map}
use Prim.Native.Nat.{ℕ, ◌≤◌, ◌<◌}
use native.Mathlib.Omega.{arith}
use lib.{Dec.ltb, ListN.length, Bits.or_zero_l}
use borrow.Author.Tests.{ltb-true}
use Rattle.model.specs.declared.Fields.{Fields}
use Rattle.model.specs.Masks.{bit, join, union}
use Rattle.model.specs.Image.{Tables, none, fields_of}
use Rattle.model.specs.Rows.{Kind, expression, pattern, offer, gets, of_type, item, range, action, branch, arm, unknown, is_variable, is_constant, is_unary, is_binary, is_any, is_bind, is_value, is_where, is_emit, is_receive, is_null, is_assign, is_choose, is_reset, is_communicate, is_to, is_then, is_select, is_case, is_while, is_for, Means, an_expression, a_pattern, an_offer, an_action, another, means_at}
use Rattle.model.specs.Decode.{grow_expression, expression_at, grow_pattern, pattern_at, offer_of, offers_at, gets_at, of_types_at, variables_at, branches_of, arms_of, grow_action, action_at}
use Rattle.model.specs.Binding.{assigned, chosen, dropped, use_of_exp, def_of_pat, use_of_pat, use_of_offers, def_of_offers, touches, touches_branches, touches_arms}
use Rattle.model.specs.Sets.{use_of_arms, targets, targets_branches, targets_arms}
use Rattle.model.proofs.Rows.{Formed, Named, Row, row_of}
use Rattle.model.proofs.Decode.{expression_at-is, pattern_at-is, action_at-is, list_at-step}
use Rattle.masks.specs.declared.Masks.{Masks}
use Rattle.masks.specs.Masks.{branches_at, arms_at, use_as, def_as, lead_as, use_at, def_at, lead_at, masks, masks_at}
use Rattle.masks.specs.Rows.{masks_by, Small}
use Rattle.masks.proofs.ByKind.{next-is, use-expression, use-pattern, def-pattern, def-action, lead-action, def-range, use-offers, def-offers, use-gets, def-gets, def-of-types, def-items, def-branches, lead-branches, use-arms, def-arms, lead-arms}

-- the masks of the rows below r, and none's, are m
abbrev pub Known : Tables → ℕ → (ℕ → Masks) → Type 0
Known x r m = (n : ℕ) → (n ≡ none) ⊎ (n < r) → m n ≡ masks_at x n

lower : {x : Tables} {r n : ℕ} {k : Kind} → (n ≡ none) ⊎ Named x r k n → (n ≡ none) ⊎ (n < r)
lower (inl e) = inl e
lower (inr p) = inr p.below

listed : {x : Tables} {r n : ℕ} {k : Kind} {t : Type 0} → (n ≡ none) ⊎ (Named x r k n × t) → (n ≡ none) ⊎ Named x r k n
listed (inl e) = inl e
listed (inr p) = inr p.0

module _ (x : Tables) (ok : Formed x) (short : length x.rows ≤ none) (r : ℕ) (real : r < length x.rows)
    (m : ℕ → Masks) (known : Known x r m) where
  uses : (n : ℕ) → (n ≡ none) ⊎ (n < r) → (m n).uses ≡ use_at x n
  uses n p = ap (λ (k : Masks). k.uses) (known n p)

  defs : (n : ℕ) → (n ≡ none) ⊎ (n < r) → (m n).defs ≡ def_at x n
  defs n p = ap (λ (k : Masks). k.defs) (known n p)

  leads : (n : ℕ) → (n ≡ none) ⊎ (n < r) → (m n).leads ≡ lead_at x n
  leads n p = ap (λ (k : Masks). k.leads) (known n p)

  -- what the rows that row r names have
  u-expression : (n : ℕ) → Named x r expression n → (m n).uses ≡ use_of_exp (expression_at x n)
  u-expression n p = uses n (inr p.below) ∙ use-expression x n p.kind

  u-pattern : (n : ℕ) → Named x r pattern n → (m n).uses ≡ use_of_pat (pattern_at x n)
  u-pattern n p = uses n (inr p.below) ∙ use-pattern x n p.kind

  d-pattern : (n : ℕ) → Named x r pattern n → (m n).defs ≡ def_of_pat (pattern_at x n)
  d-pattern n p = defs n (inr p.below) ∙ def-pattern x n p.kind

  d-action : (n : ℕ) → Named x r action n → (m n).defs ≡ touches (action_at x n)
  d-action n p = defs n (inr p.below) ∙ def-action x n p.kind

  l-action : (n : ℕ) → Named x r action n → (m n).leads ≡ targets (action_at x n)
  l-action n p = leads n (inr p.below) ∙ lead-action x n p.kind

  d-range : (n : ℕ) → Named x r range n → (m n).defs ≡ bit (fields_of x n).a
  d-range n p = defs n (inr p.below) ∙ def-range x n p.kind

  u-offers : (n : ℕ) → (n ≡ none) ⊎ Named x r offer n → (m n).uses ≡ use_of_offers (offers_at x n)
  u-offers n p = uses n (lower p) ∙ use-offers x ok short r n p

  d-offers : (n : ℕ) → (n ≡ none) ⊎ Named x r offer n → (m n).defs ≡ def_of_offers (offers_at x n)
  d-offers n p = defs n (lower p) ∙ def-offers x ok short r n p

  u-gets : (n : ℕ) → (n ≡ none) ⊎ Named x r gets n → (m n).uses ≡ union (map (λ i. use_of_exp i.e) (gets_at x n))
  u-gets n p = uses n (lower p) ∙ use-gets x ok short r n p

  d-gets : (n : ℕ) → (n ≡ none) ⊎ Named x r gets n → (m n).defs ≡ assigned (gets_at x n)
  d-gets n p = defs n (lower p) ∙ def-gets x ok short r n p

  d-of-types : (n : ℕ) → (n ≡ none) ⊎ Named x r of_type n → (m n).defs ≡ chosen (of_types_at x n)
  d-of-types n p = defs n (lower p) ∙ def-of-types x ok short r n p

  d-items : (n : ℕ) → (n ≡ none) ⊎ Named x r item n → (m n).defs ≡ dropped (variables_at x n)
  d-items n p = defs n (lower p) ∙ def-items x ok short r n p

  d-branches : (n : ℕ) → (n ≡ none) ⊎ Named x r branch n → (m n).defs ≡ touches_branches (branches_at x n)
  d-branches n p = defs n (lower p) ∙ def-branches x ok short r n p

  l-branches : (n : ℕ) → (n ≡ none) ⊎ Named x r branch n → (m n).leads ≡ targets_branches (branches_at x n)
  l-branches n p = leads n (lower p) ∙ lead-branches x ok short r n p

  u-arms : (n : ℕ) → (n ≡ none) ⊎ Named x r arm n → (m n).uses ≡ use_of_arms (arms_at x n)
  u-arms n p = uses n (lower p) ∙ use-arms x ok short r n p

  d-arms : (n : ℕ) → (n ≡ none) ⊎ Named x r arm n → (m n).defs ≡ touches_arms (arms_at x n)
  d-arms n p = defs n (lower p) ∙ def-arms x ok short r n p

  l-arms : (n : ℕ) → (n ≡ none) ⊎ Named x r arm n → (m n).leads ≡ targets_arms (arms_at x n)
  l-arms n p = leads n (lower p) ∙ lead-arms x ok short r n p

  abbrev W : Fields
  W = fields_of x r

  some : r ≡ none → ⊥
  some e = omega arith

  nothing : (n : ℕ) → join 0 n ≡ n
  unfolding join
  nothing n = or_zero_l n

  -- by what the row means
  step : (k : Means) → means_at x r ≡ k → Row x r W k → masks_by m W k ≡ masks (use_as x r k) (def_as x r k) (lead_as x r k)
  unfolding masks_by union use_of_exp use_of_pat def_of_pat use_of_arms touches targets grow_expression grow_pattern grow_action offer_of branches_of arms_of
  step (an_expression is_variable) e q = rw (expression_at-is x ok r _ e)
  step (an_expression is_constant) e q = rw (expression_at-is x ok r _ e)
  step (an_expression (is_unary o)) e q = rw (expression_at-is x ok r _ e, u-expression W.a q.a)
  step (an_expression (is_binary o)) e q = rw (expression_at-is x ok r _ e, u-expression W.a q.a, u-expression W.b q.b)
  step (a_pattern is_any) e q = rw (pattern_at-is x ok r _ e)
  step (a_pattern is_bind) e q = rw (pattern_at-is x ok r _ e)
  step (a_pattern is_value) e q = rw (pattern_at-is x ok r _ e)
  step (a_pattern is_where) e q =
      rw (pattern_at-is x ok r _ e, u-pattern W.a q.a, d-pattern W.a q.a, u-expression W.b q.b)
  step (an_offer is_emit) e q =
      rw (list_at-step x ok r some, next-is x r _ e, e, u-expression W.a q.a, u-offers W.b q.b, d-offers W.b q.b, nothing)
  step (an_offer is_receive) e q =
      rw (list_at-step x ok r some, next-is x r _ e, e, u-pattern W.a q.a, d-pattern W.a q.a, u-offers W.b q.b, d-offers W.b q.b)
  step (an_action is_null) e q = rw (action_at-is x ok r _ e)
  step (an_action is_assign) e q = rw (action_at-is x ok r _ e, d-gets W.a (inr q.a.0))
  step (an_action is_choose) e q = rw (action_at-is x ok r _ e, d-of-types W.a (inr q.a.0))
  step (an_action is_reset) e q = rw (action_at-is x ok r _ e, d-items W.a (inr q.a.0))
  step (an_action is_communicate) e q = rw (action_at-is x ok r _ e, d-offers W.b (listed q.b))
  step (an_action is_to) e q = rw (action_at-is x ok r _ e)
  step (an_action is_then) e q =
      rw (action_at-is x ok r _ e, d-action W.a q.a, d-action W.b q.b, l-action W.a q.a, l-action W.b q.b)
  step (an_action is_select) e q = rw (action_at-is x ok r _ e, d-branches W.a (listed q.a), l-branches W.a (listed q.a))
  step (an_action is_case) e q = rw (action_at-is x ok r _ e, d-arms W.b (listed q.b), l-arms W.b (listed q.b))
  step (an_action is_while) e q = rw (action_at-is x ok r _ e, d-action W.b q.b, l-action W.b q.b)
  step (an_action is_for) e q =
      rw (action_at-is x ok r _ e, d-range W.a q.a, d-action W.b q.b, l-action W.b q.b)
  step (another expression) e q = refl
  step (another pattern) e q = refl
  step (another offer) e q = refl
  step (another gets) e q =
      rw (list_at-step x ok r some, next-is x r _ e, u-expression W.b q.b, u-gets W.c q.c, d-gets W.c q.c)
  step (another of_type) e q = rw (list_at-step x ok r some, next-is x r _ e, d-of-types W.c q.c)
  step (another item) e q = rw (list_at-step x ok r some, next-is x r _ e, d-items W.b q.b)
  step (another range) e q = refl
  step (another action) e q = refl
  step (another branch) e q =
      rw (list_at-step x ok r some, next-is x r _ e, d-action W.a q.a, l-action W.a q.a, d-branches W.b q.b, l-branches W.b q.b)
  step (another arm) e q =
      rw (list_at-step x ok r some, next-is x r _ e, u-pattern W.a q.a, d-pattern W.a q.a, d-action W.b q.b, l-action W.b q.b, u-arms W.c q.c, d-arms W.c q.c, l-arms W.c q.c)
  step (another unknown) e q = refl

  -- the masks of row r
  pub masks-row : masks_by m W (means_at x r) ≡ masks_at x r
  unfolding use_at def_at lead_at
  masks-row = step (means_at x r) refl (row_of x ok r)

-- the bits that a row holds
module _ (x : Tables) (vs : length x.variables ≤ 64) (qs : length x.states ≤ 64) where
  variable-small : (n : ℕ) → ltb n (length x.variables) ≡ true → n < 64
  variable-small n e = omega (arith, ltb-true n (length x.variables) e)

  small : (r : ℕ) (w : Fields) (m : Means) → Row x r w m → Small m w.a
  small r w (an_expression is_variable) q = variable-small w.a q.a
  small r w (an_expression is_constant) q = tt
  small r w (an_expression (is_unary o)) q = tt
  small r w (an_expression (is_binary o)) q = tt
  small r w (a_pattern is_any) q = tt
  small r w (a_pattern is_bind) q = variable-small w.a q.a
  small r w (a_pattern is_value) q = tt
  small r w (a_pattern is_where) q = tt
  small r w (an_offer o) q = tt
  small r w (an_action is_null) q = tt
  small r w (an_action is_assign) q = tt
  small r w (an_action is_choose) q = tt
  small r w (an_action is_reset) q = tt
  small r w (an_action is_communicate) q = tt
  small r w (an_action is_to) q = omega (arith, ltb-true w.a (length x.states) q.a)
  small r w (an_action is_then) q = tt
  small r w (an_action is_select) q = tt
  small r w (an_action is_case) q = tt
  small r w (an_action is_while) q = tt
  small r w (an_action is_for) q = tt
  small r w (another expression) q = tt
  small r w (another pattern) q = tt
  small r w (another offer) q = tt
  small r w (another gets) q = variable-small w.a q.a
  small r w (another of_type) q = variable-small w.a q.a
  small r w (another item) q = variable-small w.a q.a
  small r w (another range) q = variable-small w.a q.a
  small r w (another action) q = tt
  small r w (another branch) q = tt
  small r w (another arm) q = tt
  small r w (another unknown) q = tt

  pub small_row : Formed x → (r : ℕ) → Small (means_at x r) (fields_of x r).a
  small_row ok r = small r (fields_of x r) (means_at x r) (row_of x ok r)
