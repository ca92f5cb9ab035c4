-- Trees whose loops are at rows and whose selects have at most 64 branches: those of the states of an image that passes 1 to 9.
-- Assumes nothing.
use Rattle.std.specs.Prelude.{Ok}
use mathlib.Core.{Path.◌≡◌, Path.sym, Path.subst, Logic.inl, Logic.inr, Logic.⊎_elim, Bool.true, List.List, List.[], List.◌∷◌}
use Prim.Native.Nat.{ℕ, zero, suc, ◌-◌, ◌%◌, ◌≤◌, ◌<◌}
use native.Mathlib.Omega.{arith}
use lib.{Dec.eqb, Dec.leb, Dec.ltb, IntN.ℤ, ListN.length, ListN.get_or}
use borrow.Author.Tests.{leb-true}
use Rattle.model.specs.Image.{Tables, none, fields_of, trailer_of, rows_end, row_count, table_fits, starts_fit, tables_of}
use Rattle.model.specs.Rows.{action, branch, arm, ActionRow, is_null, is_assign, is_choose, is_reset, is_communicate, is_to, is_then, is_select, is_case, is_while, is_for, an_action, means_at, is_kind, is_root}
use Rattle.model.specs.Trees.{Action, at, Act, null, assign, choose, reset, communicate, to, then, select, case, while, for, Branches, no_branch, branch as a_branch, Arms, no_arm, arm as an_arm}
use Rattle.model.specs.Decode.{branches_of, arms_of, grow_action, action_at, act}
use Rattle.model.specs.Calls.{image_verdict}
use Rattle.model.specs.Figure2.{Nth, here, further, Taken, this, later}
use Rattle.model.proofs.Rows.{both_true, Formed, row_is, is-kind, kind-in}
use Rattle.model.proofs.Decode.{action_at-is, Listed, no_more, one-row, list_at-listed}
use Rattle.model.proofs.Bytes.{length-table}
use Rattle.model.proofs.Passed.{passed}
use Rattle.demands.proofs.Whole.{Whole}
use Rattle.demands.proofs.Good.{count_branches, Good, GoodAct}
use Rattle.demands.proofs.GoodRows.{good-action}

unfoldable mutual
  pub Fit : Action → Type 0
  Fit (at r a) = FitAct a r

  pub FitAct : Act → ℕ → Type 0
  FitAct null r = Unit
  FitAct (assign is) r = Unit
  FitAct (choose is e) r = Unit
  FitAct (reset vs) r = Unit
  FitAct (communicate g os) r = Unit
  FitAct (to q) r = Unit
  FitAct (then a b) r = Fit a × Fit b
  FitAct (select bs) r = (count_branches bs ≤ 64) × FitBranches bs
  FitAct (case e arms) r = FitArms arms
  FitAct (while e a) r = (r ≡ none → ⊥) × Fit a
  FitAct (for v low high a) r = (r ≡ none → ⊥) × Fit a

  pub FitBranches : Branches → Type 0
  FitBranches no_branch = Unit
  FitBranches (a_branch a bs) = Fit a × FitBranches bs

  pub FitArms : Arms → Type 0
  FitArms no_arm = Unit
  FitArms (an_arm p a rest) = Fit a × FitArms rest

pub fit-branch : {bs : Branches} {i : ℕ} {a : Action} → Nth bs i a → FitBranches bs → Fit a
unfolding FitBranches
fit-branch here f = f.0
fit-branch (further n) f = fit-branch n f.1

pub branch-number : {bs : Branches} {i : ℕ} {a : Action} → Nth bs i a → i < count_branches bs
unfolding count_branches
branch-number here = omega arith
branch-number (further n) = omega (arith, branch-number n)

pub fit-arm : {x : Tables} {z : ℤ} {m n : List ℤ} {arms : Arms} {a : Action} → Taken x z m arms a n → FitArms arms → Fit a
unfolding FitArms
fit-arm (this p) f = f.0
fit-arm (later p t) f = fit-arm t f.1

module _ (x : Tables) (w : Whole x) (few : length x.rows ≤ 2048) where
  ok : Formed x
  ok = w.free.formed

  fit-branches : (m : ℕ) (l : List ℕ) → Listed x ok m branch l → ((i : ℕ) → i < m → is_kind x action i ≡ true → Fit (action_at x i))
      → FitBranches (branches_of x (action_at x) l)
  unfolding FitBranches branches_of
  fit-branches m [] no_more ih = tt
  fit-branches m (i ∷ l) (one-row p q) ih =
      let a = (row_is x ok i _ (is-kind x branch i p.kind)).a in
      let b = p.below in
      let c = a.below in
      (ih (fields_of x i).a (omega arith) a.kind, fit-branches m l q ih)

  fit-arms : (m : ℕ) (l : List ℕ) → Listed x ok m arm l → ((i : ℕ) → i < m → is_kind x action i ≡ true → Fit (action_at x i))
      → FitArms (arms_of x (action_at x) l)
  unfolding FitArms arms_of
  fit-arms m [] no_more ih = tt
  fit-arms m (i ∷ l) (one-row p q) ih =
      let a = (row_is x ok i _ (is-kind x arm i p.kind)).b in
      let b = p.below in
      let c = a.below in
      (ih (fields_of x i).b (omega arith) a.kind, fit-arms m l q ih)

  fit-act : (r : ℕ) (m : ActionRow) → means_at x r ≡ an_action m → (r ≡ none → ⊥) → GoodAct x (grow_action x (action_at x) (fields_of x r) (an_action m))
      → ((i : ℕ) → i < r → is_kind x action i ≡ true → Fit (action_at x i)) → FitAct (grow_action x (action_at x) (fields_of x r) (an_action m)) r
  unfolding FitAct GoodAct grow_action
  fit-act r is_null e f g ih = tt
  fit-act r is_assign e f g ih = tt
  fit-act r is_choose e f g ih = tt
  fit-act r is_reset e f g ih = tt
  fit-act r is_communicate e f g ih = tt
  fit-act r is_to e f g ih = tt
  fit-act r is_then e f g ih = let q = row_is x ok r _ e in (ih _ q.a.below q.a.kind, ih _ q.b.below q.b.kind)
  fit-act r is_select e f g ih =
      (g.0, fit-branches r _ (list_at-listed x ok _ r branch (⊎_elim (λ n. inl n) (λ p. inr p.0) (row_is x ok r _ e).a)) ih)
  fit-act r is_case e f g ih = fit-arms r _ (list_at-listed x ok _ r arm (⊎_elim (λ n. inl n) (λ p. inr p.0) (row_is x ok r _ e).b)) ih
  fit-act r is_while e f g ih = let q = row_is x ok r _ e in (f, ih _ q.b.below q.b.kind)
  fit-act r is_for e f g ih = let q = row_is x ok r _ e in (f, ih _ q.b.below q.b.kind)

  fit-by : (n r : ℕ) → r < n → is_kind x action r ≡ true → Fit (action_at x r)
  unfolding Fit Good
  fit-by zero r h k = absurd (omega arith)
  fit-by (suc n) r h k =
      let m = is-kind x action r k in
      let e = action_at-is x ok r _ m.1 in
      let l = kind-in x action r (λ p. let c : ◌≡◌ {A = ℕ} 0 1 = cc in omega arith) k in
      subst Fit (sym e) (fit-act r m.0 m.1 (λ p. omega arith) (subst (Good x) e (good-action x w r k)) (λ i b j. fit-by n i (omega arith) j))

  fit-state : (s : ℕ) → s < length x.states → Fit (act x s)
  unfolding is_root
  fit-state s h =
      let r = get_or x.states s none in
      fit-by (suc r) r (omega arith) (both_true (ltb (get_or x.states s none) (length x.rows)) _ (w.free.roots s h)).1

few-rows : (s : List ℕ) → starts_fit (trailer_of s) ≡ true → length (tables_of s).rows ≤ 2048
unfolding starts_fit table_fits tables_of
few-rows s e =
    let i = trailer_of s in
    let a = (both_true (eqb i.types 0) _ e).1 in
    let b = (both_true (table_fits i.types i.variables 2 2 16) _ a).1 in
    let c = (both_true (table_fits i.variables i.states 4 0 64) _ b).1 in
    let d = (both_true (table_fits i.states i.rows 2 1 64) _ c).1 in
    let f = (both_true (table_fits i.rows (rows_end i) 8 2 2048) _ d).0 in
    let g = (both_true (leb i.rows (rows_end i)) _ f).1 in
    let h = (both_true (eqb ((rows_end i - i.rows) % 8) 0) _ g).1 in
    rw length-table (leb-true (row_count i) 2048 (both_true (leb 2 (row_count i)) _ h).1)

pub fit-image : (s : List ℕ) → Whole (tables_of s) → image_verdict s ≡ Ok tt → (q : ℕ) → q < length (tables_of s).states → Fit (act (tables_of s) q)
fit-image s w e q h = fit-state (tables_of s) w (few-rows s (passed s e).starts) q h
