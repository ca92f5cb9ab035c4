-- Rows as the walk reads them: what their codes mean, where their fields point, what their masks are. Assumes nothing.
use mathlib.Core.{Path.◌≡◌, Path.refl, Path.sym, Path.ap, Path.◌∙◌, Path.subst, Logic.◌⊎◌, Logic.inl, Logic.inr}
use mathlib.Core.{Bool.true, Bool.false, List.List, List.map}
use Prim.Native.Nat.{ℕ, suc, ◌+◌, ◌%◌, ◌≤◌, ◌<◌}
use native.Mathlib.Omega.{arith}
use lib.{ListN.length, ListN.get_or-eq_default}
use borrow.Author.Tests.{ne_eqb}
use Rattle.model.specs.declared.{Image.Image, Fields.Fields}
use Rattle.model.specs.Masks.{bit, union}
use Rattle.model.specs.Image.{Tables, none, fields_of, tables_of}
use Rattle.model.specs.Rows.{Kind, expression, pattern, offer, gets, of_type, item, range, action, arm, ActionRow, is_null, is_assign, is_choose, is_reset, is_communicate, is_to, is_then, is_select, is_case, is_while, is_for, Means, an_action, codes, lookup, shape_of, means_at, number_of_kind, is_kind, list_up_to}
use Rattle.model.specs.Trees.{at, null}
use Rattle.model.specs.Decode.{always, grow_action, expression_at, condition_at, pattern_at, action_at, offers_at, gets_at, of_types_at, variables_at, arms_of}
use Rattle.model.specs.Binding.{assigned, chosen, dropped, use_of_exp, def_of_pat, use_of_offers, def_of_offers}
use Rattle.model.specs.Sets.{use_of_arms}
use Rattle.model.proofs.Rows.{Named, Row, Formed, row_is, is-kind, kind-in}
use Rattle.model.proofs.Codes.{code_of, one_code}
use Rattle.model.proofs.Decode.{action_at-is, list_at-none}
use Rattle.image.specs.Located.{RowOf, Formed as Wellformed}
use Rattle.image.proofs.Laid.{laid, rows-count}
use Rattle.masks.specs.declared.Masks.{Masks}
use Rattle.masks.specs.Masks.{use_as, use_at, def_as, def_at, arms_at, masks, masks_at, masks_in}
use Rattle.sets.specs.Flow.{Lent}

-- ---- codes
action-code : (c : ℕ) (a : ActionRow) → (shape_of c).means ≡ an_action a → c ≡ code_of (an_action a)
action-code c a e = sym (one_code c (an_action a) refl e)

-- an action with a code below 53 that is none of these is null
null-code : (c : ℕ) (a : ActionRow) → (shape_of c).means ≡ an_action a → c < 53
    → (c ≡ 49 → ⊥) → (c ≡ 50 → ⊥) → (c ≡ 51 → ⊥) → (c ≡ 52 → ⊥) → a ≡ is_null
null-code c is_null e l p q r s = refl
null-code c is_assign e l p q r s = absurd (p (action-code c _ e))
null-code c is_choose e l p q r s = absurd (q (action-code c _ e))
null-code c is_reset e l p q r s = absurd (r (action-code c _ e))
null-code c is_communicate e l p q r s = absurd (s (action-code c _ e))
null-code c is_to e l p q r s = absurd (omega (arith, action-code c _ e))
null-code c is_then e l p q r s = absurd (omega (arith, action-code c _ e))
null-code c is_select e l p q r s = absurd (omega (arith, action-code c _ e))
null-code c is_case e l p q r s = absurd (omega (arith, action-code c _ e))
null-code c is_while e l p q r s = absurd (omega (arith, action-code c _ e))
null-code c is_for e l p q r s = absurd (omega (arith, action-code c _ e))

-- an action with none of these codes has one below 53
low-code : (c : ℕ) (a : ActionRow) → (shape_of c).means ≡ an_action a
    → (c ≡ 53 → ⊥) → (c ≡ 54 → ⊥) → (c ≡ 55 → ⊥) → (c ≡ 56 → ⊥) → (c ≡ 59 → ⊥) → (c ≡ 60 → ⊥) → c < 53
low-code c is_null e l p q r s t = omega (arith, action-code c _ e)
low-code c is_assign e l p q r s t = omega (arith, action-code c _ e)
low-code c is_choose e l p q r s t = omega (arith, action-code c _ e)
low-code c is_reset e l p q r s t = omega (arith, action-code c _ e)
low-code c is_communicate e l p q r s t = omega (arith, action-code c _ e)
low-code c is_to e l p q r s t = absurd (l (action-code c _ e))
low-code c is_then e l p q r s t = absurd (p (action-code c _ e))
low-code c is_select e l p q r s t = absurd (q (action-code c _ e))
low-code c is_case e l p q r s t = absurd (r (action-code c _ e))
low-code c is_while e l p q r s t = absurd (s (action-code c _ e))
low-code c is_for e l p q r s t = absurd (t (action-code c _ e))

-- an action's code means it
code-means : (a : ActionRow) → (shape_of (code_of (an_action a))).means ≡ an_action a
unfolding shape_of lookup codes
code-means is_null = refl
code-means is_assign = refl
code-means is_choose = refl
code-means is_reset = refl
code-means is_communicate = refl
code-means is_to = refl
code-means is_then = refl
code-means is_select = refl
code-means is_case = refl
code-means is_while = refl
code-means is_for = refl

-- a list's first row
pub named-list : {x : Tables} {r n most : ℕ} {k : Kind} → (n ≡ none) ⊎ (Named x r k n × (length (list_up_to (suc most) x n) ≤ most)) → (n ≡ none) ⊎ Named x r k n
named-list (inl e) = inl e
named-list (inr p) = inr p.0

-- ---- a row whose fields are w
module _ (x : Tables) (ok : Formed x) (r : ℕ) (w : Fields) (reads : w ≡ fields_of x r) where
  means-code : (a : ActionRow) → w.code ≡ code_of (an_action a) → means_at x r ≡ an_action a
  means-code a e = ap (λ (v : Fields). (shape_of v.code).means) (sym reads) ∙ ap (λ k. (shape_of k).means) e ∙ code-means a

  pub row_as : (m : Means) → means_at x r ≡ m → Row x r w m
  row_as m e = subst (λ (v : Fields). Row x r v m) (sym reads) (row_is x ok r m e)

  pub action-row : (a : ActionRow) → w.code ≡ code_of (an_action a) → Row x r w (an_action a)
  action-row a e = row_as (an_action a) (means-code a e)

  action-as : (m : Means) → means_at x r ≡ m → action_at x r ≡ at r (grow_action x (action_at x) w m)
  action-as m e = action_at-is x ok r m e ∙ ap (λ (v : Fields). at r (grow_action x (action_at x) v m)) (sym reads)

  pub action-is : (a : ActionRow) → w.code ≡ code_of (an_action a) → action_at x r ≡ at r (grow_action x (action_at x) w (an_action a))
  action-is a e = action-as (an_action a) (means-code a e)

  means-action : is_kind x action r ≡ true → (a : ActionRow) × ((shape_of w.code).means ≡ an_action a)
  means-action k = let p = is-kind x action r k in (p.0, ap (λ (v : Fields). (shape_of v.code).means) reads ∙ p.1)

  -- an action below 53 that is none of the others is null
  pub null_is : is_kind x action r ≡ true → w.code < 53 → (w.code ≡ 49 → ⊥) → (w.code ≡ 50 → ⊥) → (w.code ≡ 51 → ⊥) → (w.code ≡ 52 → ⊥)
      → action_at x r ≡ at r null
  unfolding grow_action
  null_is k l p q s t =
      let m = means-action k in
      action-is is_null (action-code w.code is_null (m.1 ∙ ap an_action (null-code w.code m.0 m.1 l p q s t)))

  -- an action with none of these codes has one below 53
  pub low-is : is_kind x action r ≡ true → (w.code ≡ 53 → ⊥) → (w.code ≡ 54 → ⊥) → (w.code ≡ 55 → ⊥) → (w.code ≡ 56 → ⊥)
      → (w.code ≡ 59 → ⊥) → (w.code ≡ 60 → ⊥) → w.code < 53
  low-is k p q s t u v = let m = means-action k in low-code w.code m.0 m.1 p q s t u v

-- ---- masks
abbrev pub uses : Masks → ℕ
uses m = m.uses

abbrev pub defs : Masks → ℕ
defs m = m.defs

-- an image's rows and their masks, as the laws read them
pub record Base (x : Tables) (ms : List Masks) : Type 0 where
  pub ok : Formed x
  pub rows : (r : ℕ) → r < length x.rows → masks_in ms r ≡ masks_at x r
  pub past : masks_in ms none ≡ masks 0 0 0
  pub few : length x.rows ≤ 2048

pub base-of : {s : List ℕ} {i : Image} {ms : List Masks} → Lent s i ms → Base (tables_of s) ms
base-of {s} {i} {ms} l =
    let n = rows-count l.formed.located in
    let m = (laid l.formed.located).rows_most in
    record {
      ok = record { each = l.formed.rows };
      rows = λ r h. l.filled.each r (omega arith);
      past = get_or-eq_default ms (masks 0 0 0) (omega (arith, l.size));
      few = omega arith;
    }

module _ (x : Tables) where
  pub kind-inside : (k : Kind) (r : ℕ) → number_of_kind k < 10 → is_kind x k r ≡ true → r < length x.rows
  kind-inside k r l e = kind-in x k r (λ p. absurd (omega (arith, ap number_of_kind p))) e

-- what the readers of a row ask
pub row-of-kind : {s : List ℕ} {i : Image} (k : Kind) (r : ℕ) → Wellformed s i → number_of_kind k < 10 → is_kind (tables_of s) k r ≡ true → RowOf s i r
row-of-kind {s} k r f l e = record { located = f.located; inside = omega (arith, kind-inside (tables_of s) k r l e, rows-count f.located) }

module _ {x : Tables} {ms : List Masks} (b : Base x ms) where
  use-at : (k : Kind) (r : ℕ) → number_of_kind k < 10 → is_kind x k r ≡ true → (masks_in ms r).uses ≡ use_at x r
  use-at k r l e = ap uses (b.rows r (kind-inside x k r l e))

  def_at_lem : (k : Kind) (r : ℕ) → number_of_kind k < 10 → is_kind x k r ≡ true → (masks_in ms r).defs ≡ def_at x r
  def_at_lem k r l e = ap defs (b.rows r (kind-inside x k r l e))

  -- none has nothing
  use-none : (r : ℕ) → r ≡ none → (masks_in ms r).uses ≡ 0
  use-none r e = rw e (ap uses b.past)

  def_none : (r : ℕ) → r ≡ none → (masks_in ms r).defs ≡ 0
  def_none r e = rw e (ap defs b.past)

  module _ (r : ℕ) where
    pub use-expression : is_kind x expression r ≡ true → (masks_in ms r).uses ≡ use_of_exp (expression_at x r)
    unfolding use_at
    use-expression k = use-at expression r (omega arith) k ∙ ap (use_as x r) (is-kind x expression r k).1

    pub def-expression : is_kind x expression r ≡ true → (masks_in ms r).defs ≡ 0
    unfolding def_at
    def-expression k = def_at_lem expression r (omega arith) k ∙ ap (def_as x r) (is-kind x expression r k).1

    pub def-pattern : is_kind x pattern r ≡ true → (masks_in ms r).defs ≡ def_of_pat (pattern_at x r)
    unfolding def_at
    def-pattern k = def_at_lem pattern r (omega arith) k ∙ ap (def_as x r) (is-kind x pattern r k).1

    pub use-gets : is_kind x gets r ≡ true → (masks_in ms r).uses ≡ union (map (λ i. use_of_exp i.e) (gets_at x r))
    unfolding use_at
    use-gets k = use-at gets r (omega arith) k ∙ ap (use_as x r) (is-kind x gets r k)

    pub def-gets : is_kind x gets r ≡ true → (masks_in ms r).defs ≡ assigned (gets_at x r)
    unfolding def_at
    def-gets k = def_at_lem gets r (omega arith) k ∙ ap (def_as x r) (is-kind x gets r k)

    pub def-of_types : is_kind x of_type r ≡ true → (masks_in ms r).defs ≡ chosen (of_types_at x r)
    unfolding def_at
    def-of_types k = def_at_lem of_type r (omega arith) k ∙ ap (def_as x r) (is-kind x of_type r k)

    pub def-items : is_kind x item r ≡ true → (masks_in ms r).defs ≡ dropped (variables_at x r)
    unfolding def_at
    def-items k = def_at_lem item r (omega arith) k ∙ ap (def_as x r) (is-kind x item r k)

    pub use-range : is_kind x range r ≡ true → (masks_in ms r).uses ≡ 0
    unfolding use_at
    use-range k = use-at range r (omega arith) k ∙ ap (use_as x r) (is-kind x range r k)

    pub def-range : is_kind x range r ≡ true → (masks_in ms r).defs ≡ bit (fields_of x r).a
    unfolding def_at
    def-range k = def_at_lem range r (omega arith) k ∙ ap (def_as x r) (is-kind x range r k)

    -- of lists and conditions, none too
    pub use-condition : {m : ℕ} → (r ≡ none) ⊎ Named x m expression r → (masks_in ms r).uses ≡ use_of_exp (condition_at x r)
    unfolding condition_at use_of_exp
    use-condition (inl e) = use-none r e ∙ sym (ap (λ k. use_of_exp (condition_at x k)) e)
    use-condition (inr n) =
        let h = kind-inside x expression r (omega arith) n.kind in
        use-expression n.kind
        ∙ ap (λ t. use_of_exp (elim t [ true ↦ always | false ↦ expression_at x r ])) (sym (ne_eqb r none (λ p. omega (arith, b.few))))

    pub use-offers : {m : ℕ} → (r ≡ none) ⊎ Named x m offer r → (masks_in ms r).uses ≡ use_of_offers (offers_at x r)
    unfolding use_at union
    use-offers (inl e) = use-none r e ∙ rw (e, list_at-none x b.ok)
    use-offers (inr n) = use-at offer r (omega arith) n.kind ∙ ap (use_as x r) (is-kind x offer r n.kind).1

    pub def-offers : {m : ℕ} → (r ≡ none) ⊎ Named x m offer r → (masks_in ms r).defs ≡ def_of_offers (offers_at x r)
    unfolding def_at union
    def-offers (inl e) = def_none r e ∙ rw (e, list_at-none x b.ok)
    def-offers (inr n) = def_at_lem offer r (omega arith) n.kind ∙ ap (def_as x r) (is-kind x offer r n.kind).1

    pub use-arms : {m : ℕ} → (r ≡ none) ⊎ Named x m arm r → (masks_in ms r).uses ≡ use_of_arms (arms_at x r)
    unfolding use_at use_of_arms arms_of
    use-arms (inl e) = use-none r e ∙ rw (e, list_at-none x b.ok)
    use-arms (inr n) = use-at arm r (omega arith) n.kind ∙ ap (use_as x r) (is-kind x arm r n.kind)

  -- a list's first row counts less than the row that names it; none counts nothing
  pub list-low : {m n : ℕ} {k : Kind} → m < length x.rows → (n ≡ none) ⊎ Named x m k n → (n + 1) % 65536 ≤ m
  list-low l (inl e) = omega arith
  list-low l (inr p) = omega (arith, p.below, b.few)
