-- The masks of a row by its kind; the masks of the list that starts at a row, or none. Assumes nothing.
use mathlib.Core.{Path.◌≡◌, Path.ap, Logic.◌⊎◌, Logic.inl, Logic.inr, Bool.true, List.map}
use Prim.Native.Nat.{ℕ, ◌≤◌}
use lib.ListN.{length, get_or-eq_default}
use Rattle.model.specs.declared.Fields.{Fields}
use Rattle.model.specs.Masks.{bit, union}
use Rattle.model.specs.Image.{Tables, none, fields_of}
use Rattle.model.specs.Rows.{expression, pattern, offer, gets, of_type, item, range, action, branch, arm, unknown, Means, another, codes, lookup, shape_of, means_at, is_kind, pick_next, next_of}
use Rattle.model.specs.Decode.{expression_at, pattern_at, action_at, offers_at, gets_at, of_types_at, variables_at, branches_of, arms_of}
use Rattle.model.specs.Binding.{assigned, chosen, dropped, use_of_exp, def_of_pat, use_of_pat, use_of_offers, def_of_offers, touches, touches_branches, touches_arms}
use Rattle.model.specs.Sets.{use_of_arms, targets, targets_branches, targets_arms}
use Rattle.model.proofs.Rows.{Formed, Named, fields_for, lined, is-kind}
use Rattle.model.proofs.Decode.{list_at-none}
use Rattle.masks.specs.Masks.{branches_at, arms_at, use_as, def_as, lead_as, use_at, def_at, lead_at, masks, masks_at}

module _ (x : Tables) where
  -- of a row that means m
  pub use-is : (r : ℕ) (m : Means) → means_at x r ≡ m → use_at x r ≡ use_as x r m
  unfolding use_at
  use-is r m e = ap (use_as x r) e

  pub def_is : (r : ℕ) (m : Means) → means_at x r ≡ m → def_at x r ≡ def_as x r m
  unfolding def_at
  def_is r m e = ap (def_as x r) e

  pub lead_is : (r : ℕ) (m : Means) → means_at x r ≡ m → lead_at x r ≡ lead_as x r m
  unfolding lead_at
  lead_is r m e = ap (lead_as x r) e

  -- the next field of a row that means m
  pub next-is : (r : ℕ) (m : Means) → means_at x r ≡ m
      → next_of x r ≡ pick_next (fields_for m).b (fields_of x r).b (pick_next (fields_for m).c (fields_of x r).c none)
  unfolding next_of
  next-is r m e =
      let w = fields_of x r in
      let l = lined w.code in
      rw (l.b, l.c, e)

  -- of one row
  pub use-expression : (n : ℕ) → is_kind x expression n ≡ true → use_at x n ≡ use_of_exp (expression_at x n)
  use-expression n k = use-is n _ (is-kind x expression n k).1

  pub def-expression : (n : ℕ) → is_kind x expression n ≡ true → def_at x n ≡ 0
  def-expression n k = def_is n _ (is-kind x expression n k).1

  pub use-pattern : (n : ℕ) → is_kind x pattern n ≡ true → use_at x n ≡ use_of_pat (pattern_at x n)
  use-pattern n k = use-is n _ (is-kind x pattern n k).1

  pub def-pattern : (n : ℕ) → is_kind x pattern n ≡ true → def_at x n ≡ def_of_pat (pattern_at x n)
  def-pattern n k = def_is n _ (is-kind x pattern n k).1

  pub def-action : (n : ℕ) → is_kind x action n ≡ true → def_at x n ≡ touches (action_at x n)
  def-action n k = def_is n _ (is-kind x action n k).1

  pub lead-action : (n : ℕ) → is_kind x action n ≡ true → lead_at x n ≡ targets (action_at x n)
  lead-action n k = lead_is n _ (is-kind x action n k).1

  pub def-range : (n : ℕ) → is_kind x range n ≡ true → def_at x n ≡ bit (fields_of x n).a
  def-range n k = def_is n _ (is-kind x range n k)

  module _ (ok : Formed x) (short : length x.rows ≤ none) where
    -- none is past the rows
    means-none : means_at x none ≡ another unknown
    unfolding shape_of lookup codes
    means-none =
        ap (λ (w : Fields). (shape_of w.code).means) (get_or-eq_default x.rows (record { code = 0; a = 0; b = 0; c = 0 }) short)

    pub use-none : use_at x none ≡ 0
    use-none = use-is none _ means-none

    pub def_none : def_at x none ≡ 0
    def_none = def_is none _ means-none

    pub lead-none : lead_at x none ≡ 0
    lead-none = lead_is none _ means-none

    pub masks_none : masks_at x none ≡ masks 0 0 0
    masks_none = rw (use-none, def_none, lead-none)

    -- of a list
    pub use-offers : (r n : ℕ) → (n ≡ none) ⊎ Named x r offer n → use_at x n ≡ use_of_offers (offers_at x n)
    unfolding union
    use-offers r n (inl e) = rw (e, use-none, list_at-none x ok)
    use-offers r n (inr p) = use-is n _ (is-kind x offer n p.kind).1

    pub def-offers : (r n : ℕ) → (n ≡ none) ⊎ Named x r offer n → def_at x n ≡ def_of_offers (offers_at x n)
    unfolding union
    def-offers r n (inl e) = rw (e, def_none, list_at-none x ok)
    def-offers r n (inr p) = def_is n _ (is-kind x offer n p.kind).1

    pub use-gets : (r n : ℕ) → (n ≡ none) ⊎ Named x r gets n → use_at x n ≡ union (map (λ i. use_of_exp i.e) (gets_at x n))
    unfolding union
    use-gets r n (inl e) = rw (e, use-none, list_at-none x ok)
    use-gets r n (inr p) = use-is n _ (is-kind x gets n p.kind)

    pub def-gets : (r n : ℕ) → (n ≡ none) ⊎ Named x r gets n → def_at x n ≡ assigned (gets_at x n)
    unfolding union
    def-gets r n (inl e) = rw (e, def_none, list_at-none x ok)
    def-gets r n (inr p) = def_is n _ (is-kind x gets n p.kind)

    pub def-of-types : (r n : ℕ) → (n ≡ none) ⊎ Named x r of_type n → def_at x n ≡ chosen (of_types_at x n)
    unfolding union
    def-of-types r n (inl e) = rw (e, def_none, list_at-none x ok)
    def-of-types r n (inr p) = def_is n _ (is-kind x of_type n p.kind)

    pub def-items : (r n : ℕ) → (n ≡ none) ⊎ Named x r item n → def_at x n ≡ dropped (variables_at x n)
    unfolding union
    def-items r n (inl e) = rw (e, def_none, list_at-none x ok)
    def-items r n (inr p) = def_is n _ (is-kind x item n p.kind)

    pub def-branches : (r n : ℕ) → (n ≡ none) ⊎ Named x r branch n → def_at x n ≡ touches_branches (branches_at x n)
    unfolding touches branches_of
    def-branches r n (inl e) = rw (e, def_none, list_at-none x ok)
    def-branches r n (inr p) = def_is n _ (is-kind x branch n p.kind)

    pub lead-branches : (r n : ℕ) → (n ≡ none) ⊎ Named x r branch n → lead_at x n ≡ targets_branches (branches_at x n)
    unfolding targets branches_of
    lead-branches r n (inl e) = rw (e, lead-none, list_at-none x ok)
    lead-branches r n (inr p) = lead_is n _ (is-kind x branch n p.kind)

    pub use-arms : (r n : ℕ) → (n ≡ none) ⊎ Named x r arm n → use_at x n ≡ use_of_arms (arms_at x n)
    unfolding use_of_arms arms_of
    use-arms r n (inl e) = rw (e, use-none, list_at-none x ok)
    use-arms r n (inr p) = use-is n _ (is-kind x arm n p.kind)

    pub def-arms : (r n : ℕ) → (n ≡ none) ⊎ Named x r arm n → def_at x n ≡ touches_arms (arms_at x n)
    unfolding touches arms_of
    def-arms r n (inl e) = rw (e, def_none, list_at-none x ok)
    def-arms r n (inr p) = def_is n _ (is-kind x arm n p.kind)

    pub lead-arms : (r n : ℕ) → (n ≡ none) ⊎ Named x r arm n → lead_at x n ≡ targets_arms (arms_at x n)
    unfolding targets arms_of
    lead-arms r n (inl e) = rw (e, lead-none, list_at-none x ok)
    lead-arms r n (inr p) = lead_is n _ (is-kind x arm n p.kind)
