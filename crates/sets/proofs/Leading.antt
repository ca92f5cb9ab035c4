-- In an image free of 5 and 6 jumps lead to states. Assumes nothing.
use mathlib.Core.{Path.◌≡◌, Path.sym, Path.ap, Path.◌∙◌, Path.subst, Bool.true, List.List, List.[], List.◌∷◌}
use Prim.Native.Nat.{ℕ, zero, suc, ◌^◌, ◌<◌}
use native.Mathlib.Omega.{arith}
use lib.{Dec.ltb, ListN.length, ListN.get_or, Pow.pow_pos}
use borrow.Author.Tests.{ltb-true}
use Rattle.model.specs.declared.Image.{Image}
use Rattle.model.specs.Image.{Tables, none, fields_of, tables_of, state_count, row_count}
use Rattle.model.specs.Rows.{action, branch, arm, is_kind, is_root, is_null, is_assign, is_choose, is_reset, is_communicate, is_to, is_then, is_select, is_case, is_while, is_for, Means, an_expression, a_pattern, an_offer, an_action, another, means_at}
use Rattle.model.specs.Trees.{Action}
use Rattle.model.specs.Decode.{branches_of, arms_of, grow_action, action_at, act}
use Rattle.model.specs.Sets.{targets, targets_act, targets_branches, targets_arms}
use Rattle.model.proofs.Rows.{both_true, Row, Formed, row_of, row_is, is-kind}
use Rattle.model.proofs.Decode.{Listed, no_more, one-row, list_at-listed, action_at-step}
use Rattle.model.proofs.Masks.{join-lt, bit-lt}
use Rattle.image.specs.Located.{Rooted}
use Rattle.image.proofs.Laid.{laid, states-count, rows-count}
use Rattle.demands.proofs.Greatest.{Leads}
use Rattle.masks.specs.declared.Masks.{Masks}
use Rattle.masks.specs.Masks.{lead_as, lead_at, masks_in}
use Rattle.sets.specs.States.{Rows}
use Rattle.sets.proofs.Rows.{named-list}

module _ (x : Tables) (ok : Formed x) where
  branches-lead : (m : ℕ) (l : List ℕ) → Listed x ok m branch l → ((i : ℕ) → i < m → targets (action_at x i) < 2 ^ length x.states)
      → targets_branches (branches_of x (action_at x) l) < 2 ^ length x.states
  unfolding targets_branches branches_of
  branches-lead m [] no_more ih = pow_pos _
  branches-lead m (i ∷ l) (one-row p q) ih =
      let b = p.below in
      let c = (row_is x ok i _ (is-kind x branch i p.kind)).a.below in
      join-lt _ _ _ (ih (fields_of x i).a (omega arith)) (branches-lead m l q ih)

  arms-lead : (m : ℕ) (l : List ℕ) → Listed x ok m arm l → ((i : ℕ) → i < m → targets (action_at x i) < 2 ^ length x.states)
      → targets_arms (arms_of x (action_at x) l) < 2 ^ length x.states
  unfolding targets_arms arms_of
  arms-lead m [] no_more ih = pow_pos _
  arms-lead m (i ∷ l) (one-row p q) ih =
      let b = p.below in
      let c = (row_is x ok i _ (is-kind x arm i p.kind)).b.below in
      join-lt _ _ _ (ih (fields_of x i).b (omega arith)) (arms-lead m l q ih)

  act-leads : (r : ℕ) (m : Means) → Row x r (fields_of x r) m → ((i : ℕ) → i < r → targets (action_at x i) < 2 ^ length x.states)
      → targets_act (grow_action x (action_at x) (fields_of x r) m) < 2 ^ length x.states
  unfolding targets_act grow_action
  act-leads r (an_expression e) q ih = pow_pos _
  act-leads r (a_pattern p) q ih = pow_pos _
  act-leads r (an_offer o) q ih = pow_pos _
  act-leads r (an_action is_null) q ih = pow_pos _
  act-leads r (an_action is_assign) q ih = pow_pos _
  act-leads r (an_action is_choose) q ih = pow_pos _
  act-leads r (an_action is_reset) q ih = pow_pos _
  act-leads r (an_action is_communicate) q ih = pow_pos _
  act-leads r (an_action is_to) q ih = bit-lt _ _ (ltb-true _ _ q.a)
  act-leads r (an_action is_then) q ih = join-lt _ _ _ (ih _ q.a.below) (ih _ q.b.below)
  act-leads r (an_action is_select) q ih = branches-lead r _ (list_at-listed x ok _ r branch (named-list q.a)) ih
  act-leads r (an_action is_case) q ih = arms-lead r _ (list_at-listed x ok _ r arm (named-list q.b)) ih
  act-leads r (an_action is_while) q ih = ih _ q.b.below
  act-leads r (an_action is_for) q ih = ih _ q.b.below
  act-leads r (another k) q ih = pow_pos _

  leads-by : (n r : ℕ) → r < n → targets (action_at x r) < 2 ^ length x.states
  unfolding targets
  leads-by zero r h = absurd (omega arith)
  leads-by (suc n) r h =
      subst (λ (a : Action). targets a < 2 ^ length x.states) (sym (action_at-step x ok r))
      (act-leads r (means_at x r) (row_of x ok r) (λ i b. leads-by n i (omega arith)))

  pub row-leads : (r : ℕ) → targets (action_at x r) < 2 ^ length x.states
  row-leads r = leads-by (suc r) r (omega arith)

-- the model's form of an image free of 5
pub formed-of : {s : List ℕ} {i : Image} → Rooted s i → Formed (tables_of s)
formed-of h = record { each = h.formed.rows }

pub leads-of : {s : List ℕ} {i : Image} → Rooted s i → Leads (tables_of s)
leads-of {s} h =
    let l = h.formed.located in
    record { some = omega (arith, (laid l).states_least, states-count l); inner = λ q b. row-leads (tables_of s) (formed-of h) _ }

-- a state's row is an action's
module _ {s : List ℕ} {i : Image} (h : Rooted s i) (q : ℕ) (b : q < state_count i) where
  state-root : is_root (tables_of s) action (get_or (tables_of s).states q none) ≡ true
  state-root = h.states q (omega (arith, states-count h.formed.located))

  pub state-kind : is_kind (tables_of s) action (get_or (tables_of s).states q none) ≡ true
  unfolding is_root
  state-kind = (both_true (ltb (get_or (tables_of s).states q none) (length (tables_of s).rows)) _ state-root).1

  pub state-inside : get_or (tables_of s).states q none < row_count i
  unfolding is_root
  state-inside =
      let n = get_or (tables_of s).states q none in
      let m = length (tables_of s).rows in
      omega (arith, rows-count h.formed.located, ltb-true n m (both_true (ltb n m) _ state-root).0)

-- the masks of a state's row
module _ {s : List ℕ} {i : Image} {ms : List Masks} (h : Rows s i ms) (q r : ℕ) (b : q < state_count i) (e : r ≡ get_or (tables_of s).states q none) where
  pub lead-inside : r < length ms
  lead-inside = omega (arith, state-inside h.lending.rooted q b, h.size)

  pub lead_is : (masks_in ms r).leads ≡ targets (act (tables_of s) q)
  unfolding lead_at
  lead_is =
      let x = tables_of s in
      let n = get_or x.states q none in
      ap (λ k. (masks_in ms k).leads) e ∙ ap (λ (m : Masks). m.leads) (h.lending.filled.each n (state-inside h.lending.rooted q b))
      ∙ ap (lead_as x n) (is-kind x action n (state-kind h.lending.rooted q b)).1
