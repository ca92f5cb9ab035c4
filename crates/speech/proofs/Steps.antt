-- The ways of a row from those of the rows that it names, code by code. Assumes nothing.
use mathlib.Core.{Path.◌≡◌, Path.refl, Path.sym, Path.ap, Path.◌∙◌, Logic.inl, Logic.inr, Logic.⊎_elim}
use mathlib.Core.{Bool.true, Bool.not, Bool.cond}
use Prim.Native.Nat.{ℕ, ◌≤◌}
use native.Mathlib.Omega.{arith}
use lib.{Dec.eqb, ListN.length}
use borrow.Author.Tests.{ne_eqb}
use Rattle.model.specs.Image.{Tables, none, fields_of}
use Rattle.model.specs.Rows as Rows
use Rattle.model.specs.Rows.{Kind, action, is_null, is_assign, is_choose, is_reset, is_communicate, is_to, is_then, is_select, is_case, is_while, is_for, ActionRow, Means, an_expression, a_pattern, an_offer, an_action, another, kind_of, codes, lookup, shape_of, means_at, is_kind}
use Rattle.model.specs.Trees.{Action, branch, some_branch, no_arm, arm}
use Rattle.model.specs.Decode.{condition_at, pattern_at, branches_of, arms_of, grow_action, action_at}
use Rattle.model.specs.Speech.{is_always, speech, speech_act, speech_branches, speech_arms}
use Rattle.model.proofs.Rows.{Proper, lined, Formed, row_is, kind-of, is-kind}
use Rattle.model.proofs.Decode.{action_at-is, list_at-none, list_at-step}
use Rattle.speech.specs.Both.{Both, both, kept, nowhere_both, said, spoken_needs, either_of, followed, looped_while, looped_for}
use Rattle.speech.specs.Filled.{branches_at, arms_at, ways_by, ways_at}
use Rattle.speech.specs.Case.{RowOrNone, exhaustive_at}
use Rattle.model.proofs.Codes.{code_of, known, means, is_known, known_in, next-is}

by_kind : (x : Tables) (r : ℕ) (k : Kind) → kind_of (means_at x r) ≡ k → ways_at x r ≡ ways_by x r k
unfolding ways_at
by_kind x r k e = ap (ways_by x r) e

-- the ways of an action's row are its action's
pub action-ways : (x : Tables) (r : ℕ) → is_kind x action r ≡ true → ways_at x r ≡ both (λ m. speech x m (action_at x r))
action-ways x r e = by_kind x r action (kind-of x action r e)

-- a code that no action, branch or arm has
abbrev Not : ℕ → ℕ → Type 0
Not c n = c ≡ n → ⊥

abbrev pub Others : ℕ → Type 0
Others c =
    (((((((((((((Unit × Not c 48) × Not c 49) × Not c 50) × Not c 51) × Not c 52) × Not c 53) × Not c 54) × Not c 55) × Not c 56) × Not c 57) × Not c 58)
    × Not c 59) × Not c 60)

other-means : (x : Tables) (r c : ℕ) (m : Means) → code_of m ≡ c → Proper m → Others c → nowhere_both ≡ ways_by x r (kind_of m)
other-means x r c (an_expression e) q p o = refl
other-means x r c (a_pattern k) q p o = refl
other-means x r c (an_offer k) q p o = refl
other-means x r c (an_action is_null) q p o = absurd (o.0.0.0.0.0.0.0.0.0.0.0.0.1 (sym q))
other-means x r c (an_action is_assign) q p o = absurd (o.0.0.0.0.0.0.0.0.0.0.0.1 (sym q))
other-means x r c (an_action is_choose) q p o = absurd (o.0.0.0.0.0.0.0.0.0.0.1 (sym q))
other-means x r c (an_action is_reset) q p o = absurd (o.0.0.0.0.0.0.0.0.0.1 (sym q))
other-means x r c (an_action is_communicate) q p o = absurd (o.0.0.0.0.0.0.0.0.1 (sym q))
other-means x r c (an_action is_to) q p o = absurd (o.0.0.0.0.0.0.0.1 (sym q))
other-means x r c (an_action is_then) q p o = absurd (o.0.0.0.0.0.0.1 (sym q))
other-means x r c (an_action is_select) q p o = absurd (o.0.0.0.0.0.1 (sym q))
other-means x r c (an_action is_case) q p o = absurd (o.0.0.0.0.1 (sym q))
other-means x r c (an_action is_while) q p o = absurd (o.0.1 (sym q))
other-means x r c (an_action is_for) q p o = absurd (o.1 (sym q))
other-means x r c (another Rows.expression) q p o = refl
other-means x r c (another Rows.pattern) q p o = refl
other-means x r c (another Rows.offer) q p o = refl
other-means x r c (another Rows.gets) q p o = refl
other-means x r c (another Rows.of_type) q p o = refl
other-means x r c (another Rows.item) q p o = refl
other-means x r c (another Rows.range) q p o = refl
other-means x r c (another Rows.action) q p o = absurd p
other-means x r c (another Rows.branch) q p o = absurd (o.0.0.0.1 (sym q))
other-means x r c (another Rows.arm) q p o = absurd (o.0.0.1 (sym q))
other-means x r c (another Rows.unknown) q p o = refl

pub other_row : (x : Tables) (r : ℕ) → Others (fields_of x r).code → nowhere_both ≡ ways_at x r
unfolding ways_at
other_row x r o =
    let c = (fields_of x r).code in
    ⊎_elim (λ q. other-means x r c (means_at x r) q (lined c).proper o) (λ u. sym (ap (λ m. ways_by x r (kind_of m)) u)) (known c)

module _ (x : Tables) (ok : Formed x) (r : ℕ) where
  -- the action that the row says, one level down
  act-ways : (k : ActionRow) → means_at x r ≡ an_action k
      → ways_at x r ≡ both (λ m. speech_act x m (grow_action x (action_at x) (fields_of x r) (an_action k)))
  unfolding speech
  act-ways k e = by_kind x r action (ap kind_of e) ∙ ap (λ (a : Action). both (λ m. speech x m a)) (action_at-is x ok r (an_action k) e)

  pub null-row : (fields_of x r).code ≡ 48 → kept ≡ ways_at x r
  unfolding shape_of lookup codes grow_action speech
  null-row e = sym (act-ways is_null (means x r 48 e))

  pub assign-row : (fields_of x r).code ≡ 49 → kept ≡ ways_at x r
  unfolding shape_of lookup codes grow_action speech
  assign-row e = sym (act-ways is_assign (means x r 49 e))

  pub reset-row : (fields_of x r).code ≡ 51 → kept ≡ ways_at x r
  unfolding shape_of lookup codes grow_action speech
  reset-row e = sym (act-ways is_reset (means x r 51 e))

  pub choose-row : (fields_of x r).code ≡ 50 → spoken_needs (is_always (condition_at x (fields_of x r).b)) kept ≡ ways_at x r
  unfolding shape_of lookup codes grow_action speech
  choose-row e = sym (act-ways is_choose (means x r 50 e))

  pub communicate-row : (fields_of x r).code ≡ 52 → said ≡ ways_at x r
  unfolding shape_of lookup codes grow_action speech
  communicate-row e = sym (act-ways is_communicate (means x r 52 e))

  pub to_row : (fields_of x r).code ≡ 53 → nowhere_both ≡ ways_at x r
  unfolding shape_of lookup codes grow_action speech
  to_row e = sym (act-ways is_to (means x r 53 e))

  pub then-row : (fields_of x r).code ≡ 54 → followed (ways_at x (fields_of x r).a) (ways_at x (fields_of x r).b) ≡ ways_at x r
  unfolding shape_of lookup codes grow_action speech
  then-row e =
      let m = means x r 54 e in
      let q = row_is x ok r (an_action is_then) m in
      rw (action-ways x _ q.a.kind, action-ways x _ q.b.kind) (sym (act-ways is_then m))

  pub while-row : (fields_of x r).code ≡ 59 → looped_while (ways_at x (fields_of x r).b) ≡ ways_at x r
  unfolding shape_of lookup codes grow_action speech
  while-row e =
      let m = means x r 59 e in
      let q = row_is x ok r (an_action is_while) m in
      rw (action-ways x _ q.b.kind) (sym (act-ways is_while m))

  pub for-row : (fields_of x r).code ≡ 60 → looped_for (ways_at x (fields_of x r).b) ≡ ways_at x r
  unfolding shape_of lookup codes grow_action speech
  for-row e =
      let m = means x r 60 e in
      let q = row_is x ok r (an_action is_for) m in
      rw (action-ways x _ q.b.kind) (sym (act-ways is_for m))

-- what stands for a list by its first row, or none
abbrev pub first_at : Tables → ℕ → Both
first_at x n = cond (eqb n none) nowhere_both (ways_at x n)

module _ (x : Tables) (ok : Formed x) (small : length x.rows ≤ none) where
  is_row : (k : Kind) (n : ℕ) → is_known k ≡ true → is_kind x k n ≡ true → n ≡ none → ⊥
  is_row k n t e z = omega (arith, known_in x k n t e)

  -- a list by its first row, one row on
  pub branches-step : (r : ℕ) → is_kind x Rows.branch r ≡ true → branches_at x r ≡ branch (action_at x (fields_of x r).a) (branches_at x (fields_of x r).b)
  unfolding branches_of
  branches-step r e =
      rw (list_at-step x ok r (is_row Rows.branch r refl e), next-is x r (another Rows.branch) (is-kind x Rows.branch r e))

  pub arms_step : (r : ℕ) → is_kind x Rows.arm r ≡ true
      → arms_at x r ≡ arm (pattern_at x (fields_of x r).a) (action_at x (fields_of x r).b) (arms_at x (fields_of x r).c)
  unfolding arms_of
  arms_step r e = rw (list_at-step x ok r (is_row Rows.arm r refl e), next-is x r (another Rows.arm) (is-kind x Rows.arm r e))

  pub arms_none : arms_at x none ≡ no_arm
  unfolding arms_of
  arms_none = rw (list_at-none x ok)

  first-row : (k : Kind) (n : ℕ) → is_known k ≡ true → is_kind x k n ≡ true → first_at x n ≡ ways_by x n k
  first-row k n t e = rw (ne_eqb n none (is_row k n t e)) (by_kind x n k (kind-of x k n e))

  first-branches : (n : ℕ) → RowOrNone x Rows.branch n → first_at x n ≡ both (λ m. speech_branches x m (branches_at x n))
  unfolding branches_of speech
  first-branches n (inl e) = rw (e, list_at-none x ok)
  first-branches n (inr e) = first-row Rows.branch n refl e

  first-arms : (n : ℕ) → RowOrNone x Rows.arm n → first_at x n ≡ both (λ m. speech_arms x m (arms_at x n))
  unfolding arms_of speech
  first-arms n (inl e) = rw (e, list_at-none x ok)
  first-arms n (inr e) = first-row Rows.arm n refl e

  some-branch : (n : ℕ) → RowOrNone x Rows.branch n → some_branch (branches_at x n) ≡ not (eqb n none)
  unfolding branches_of
  some-branch n (inl e) = rw (e, list_at-none x ok)
  some-branch n (inr e) = rw (branches-step n e, ne_eqb n none (is_row Rows.branch n refl e))

  pub select_row : (r : ℕ) → (fields_of x r).code ≡ 55 → spoken_needs (not (eqb (fields_of x r).a none)) (first_at x (fields_of x r).a) ≡ ways_at x r
  unfolding shape_of lookup codes grow_action speech
  select_row r e =
      let m = means x r 55 e in
      let f = ⊎_elim (λ n. inl n) (λ p. inr p.0.kind) (row_is x ok r (an_action is_select) m).a in
      rw (← some-branch _ f, first-branches _ f) (sym (act-ways x ok r is_select m))

  pub case_row : (r : ℕ) → (fields_of x r).code ≡ 56
      → spoken_needs (exhaustive_at x (fields_of x r).a (fields_of x r).b) (first_at x (fields_of x r).b) ≡ ways_at x r
  unfolding shape_of lookup codes grow_action speech
  case_row r e =
      let m = means x r 56 e in
      let f = ⊎_elim (λ n. inl n) (λ p. inr p.0.kind) (row_is x ok r (an_action is_case) m).b in
      rw (first-arms _ f) (sym (act-ways x ok r is_case m))

  pub branch_row : (r : ℕ) → (fields_of x r).code ≡ 57 → either_of (ways_at x (fields_of x r).a) (first_at x (fields_of x r).b) ≡ ways_at x r
  unfolding shape_of lookup codes is_kind speech
  branch_row r e =
      let m = means x r 57 e in
      let q = row_is x ok r (another Rows.branch) m in
      let k : is_kind x Rows.branch r ≡ true = rw m in
      rw (action-ways x _ q.a.kind, first-branches _ (⊎_elim (λ n. inl n) (λ p. inr p.kind) q.b), by_kind x r Rows.branch (ap kind_of m), branches-step r k)

  pub arm-row : (r : ℕ) → (fields_of x r).code ≡ 58 → either_of (ways_at x (fields_of x r).b) (first_at x (fields_of x r).c) ≡ ways_at x r
  unfolding shape_of lookup codes is_kind speech
  arm-row r e =
      let m = means x r 58 e in
      let q = row_is x ok r (another Rows.arm) m in
      let k : is_kind x Rows.arm r ≡ true = rw m in
      rw (action-ways x _ q.b.kind, first-arms _ (⊎_elim (λ n. inl n) (λ p. inr p.kind) q.c), by_kind x r Rows.arm (ap kind_of m), arms_step r k)
