-- In an image free of 4, 5 and 6, where the judgement holds of all lower rows it holds of a row exactly if the row's test of 9
-- passes. Assumes nothing.
use mathlib.Core.{Path.◌≡◌, Path.refl, Path.sym, Path.ap, Path.◌∙◌, Path.subst}
use mathlib.Core.{Bool.Bool, Bool.true, Bool.false, Bool.not, Bool.◌||◌, List.List, List.[], List.◌∷◌}
use Prim.Native.Nat.{ℕ, ◌<◌}
use lib.{Dec.eqb}
use borrow.Author.Tests.{eqb-true, eqb-false}
use Rattle.model.specs.Image.{Tables, fields_of, entries_right}
use Rattle.model.specs.Rows.{action, branch, arm, ActionRow, is_null, is_assign, is_choose, is_reset, is_communicate, is_to, is_then, is_select, is_case, is_while, is_for, Means, an_expression, a_pattern, an_offer, an_action, another, means_at}
use Rattle.model.specs.Trees.{Action}
use Rattle.model.specs.Masks.{inside}
use Rattle.model.specs.Decode.{expression_at, pattern_at, branches_of, arms_of, grow_action, action_at, act_of, rule_at, initial}
use Rattle.model.specs.Binding.{use_of_exp, bound_act, parameters_of, bound}
use Rattle.model.proofs.Rows.{both_true, Named, Formed, row_is, is-kind}
use Rattle.model.proofs.Decode.{action_at-is}
use Rattle.demands.specs.Common.{Iff, Every, none_left, one_more}
use Rattle.demands.specs.Judgements.{WellBound, b_at, BoundAct, b_null, b_to, b_reset, b_assign, b_choose, b_communicate, b_then, b_select, b_case, b_while, b_for, BoundBranches, b_no_branch, b_branch, BoundArms, b_no_arm, b_arm, ReadsParameters, BoundAs, RowBound}
use Rattle.demands.proofs.Everys.{and_both}
use Rattle.demands.proofs.BindingTrees.{all-bound-pat, gets-rule, of_types-rule, variables-rule, offers-rule, for-rule, bound-passes, reads-rule}
use Rattle.demands.proofs.TypingRows.{listed, lower, list-every}

pub bound-in : {a : Action} → WellBound a → BoundAct (act_of a)
bound-in (b_at h) = h

module _ (x : Tables) (ok : Formed x) (r : ℕ) (low : (i : ℕ) → i < r → RowBound x i) where
  lower-act : {n : ℕ} → Named x r action n → WellBound (action_at x n)
  lower-act {n} p = subst (λ (m : Means). BoundAs x n m) (is-kind x action n p.kind).1 (low n p.below).tree

  branches-up : (l : List ℕ) → Every (Named x r branch) l → BoundBranches (branches_of x (action_at x) l)
  unfolding branches_of
  branches-up [] none_left = b_no_branch
  branches-up (i ∷ l) (one_more p q) =
      b_branch (lower-act (lower p (row_is x ok i _ (is-kind x branch i p.kind)).a)) (branches-up l q)

  arms_up : (l : List ℕ) → Every (Named x r arm) l → BoundArms (arms_of x (action_at x) l)
  unfolding arms_of
  arms_up [] none_left = b_no_arm
  arms_up (i ∷ l) (one_more p q) =
      b_arm (all-bound-pat _) (lower-act (lower p (row_is x ok i _ (is-kind x arm i p.kind)).b)) (arms_up l q)

  act-up : (m : ActionRow) → means_at x r ≡ an_action m → bound_act (grow_action x (action_at x) (fields_of x r) (an_action m)) ≡ true
      → BoundAct (grow_action x (action_at x) (fields_of x r) (an_action m))
  unfolding grow_action bound_act
  act-up is_null e t = b_null
  act-up is_assign e t = b_assign ((gets-rule _).back t)
  act-up is_choose e t = b_choose ((of_types-rule _).back t)
  act-up is_reset e t = b_reset ((variables-rule _).back t)
  act-up is_communicate e t = let p = (offers-rule _).back t in b_communicate p.0 p.1
  act-up is_to e t = b_to
  act-up is_then e t = let q = row_is x ok r _ e in b_then (lower-act q.a) (lower-act q.b)
  act-up is_select e t = b_select (branches-up _ (list-every x ok _ r branch (listed (row_is x ok r _ e).a)))
  act-up is_case e t = b_case (arms_up _ (list-every x ok _ r arm (listed (row_is x ok r _ e).b)))
  act-up is_while e t = b_while (lower-act (row_is x ok r _ e).b)
  act-up is_for e t = b_for ((for-rule _ _).back t) (lower-act (row_is x ok r _ e).b)

  action-up : (m : ActionRow) → means_at x r ≡ an_action m → bound_act (act_of (action_at x r)) ≡ true → WellBound (action_at x r)
  action-up m e t =
      let g = action_at-is x ok r _ e in
      subst WellBound (sym g) (b_at (act-up m e (subst (λ (d : Action). bound_act (act_of d) ≡ true) g t)))

  rule : Means → Bool
  rule m =
      elim m [
        | an_expression m ↦ true
        | a_pattern m ↦ true
        | an_offer m ↦ true
        | an_action m ↦ bound_act (act_of (action_at x r))
        | another k ↦ true
      ]

  rule-agrees : (m : Means) → means_at x r ≡ m → Iff (BoundAs x r m) (rule m ≡ true)
  unfolding rule
  rule-agrees (an_expression m) e = record { on = λ h. refl; back = λ h. tt }
  rule-agrees (a_pattern m) e = record { on = λ h. refl; back = λ h. all-bound-pat (pattern_at x r) }
  rule-agrees (an_offer m) e = record { on = λ h. refl; back = λ h. tt }
  rule-agrees (an_action m) e = record { on = λ h. bound-passes (bound-in h); back = action-up m e }
  rule-agrees (another k) e = record { on = λ h. refl; back = λ h. tt }

  rule-is : rule_at x (λ e. true) (λ p. true) bound_act r ≡ rule (means_at x r)
  unfolding rule_at rule
  rule-is = refl

  module _ (entries : entries_right x ≡ true) where
    abbrev reads : ℕ → Bool
    reads n = inside (use_of_exp (expression_at x n)) (parameters_of x.variables)

    cond-on : (b : Bool) → eqb r x.condition ≡ b → (r ≡ x.condition → ReadsParameters x (initial x)) → (not b || reads r) ≡ true
    cond-on true e h =
        let q = eqb-true r x.condition e in
        ap reads q ∙ (reads-rule x entries (initial x)).on (h q)
    cond-on false e h = refl

    cond_back : (b : Bool) → eqb r x.condition ≡ b → (not b || reads r) ≡ true → r ≡ x.condition → ReadsParameters x (initial x)
    cond_back true e t q = (reads-rule x entries (initial x)).back (ap reads (sym q) ∙ t)
    cond_back false e t q = absurd (eqb-false r x.condition e q)

    pub row-bound-agrees : Iff (RowBound x r) (bound x r ≡ true)
    unfolding bound
    row-bound-agrees =
        let i = rule-agrees (means_at x r) refl in
        record {
          on = λ h. and_both (rule_at x (λ e. true) (λ p. true) bound_act r) _ (rule-is ∙ i.on h.tree) (cond-on (eqb r x.condition) refl h.condition);
          back = λ t.
              let b = both_true (rule_at x (λ e. true) (λ p. true) bound_act r) _ t in
              record { tree = i.back (sym rule-is ∙ b.0); condition = cond_back (eqb r x.condition) refl b.1 };
        }
