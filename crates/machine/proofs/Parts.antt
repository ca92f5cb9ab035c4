-- What a row's parts are, by its code: rows that the run of its action may run. Assumes nothing.
use mathlib.Core.Logic.{◌⊎◌, inl, inr, ⊎_elim}
use mathlib.Core.{Path.◌≡◌, Path.refl, Path.sym, Path.ap, Path.◌∙◌, Path.subst, Bool.true, List.List}
use Prim.Native.Nat.{ℕ, suc, ◌+◌, ◌%◌, ◌≤◌, ◌<◌}
use native.Mathlib.Omega.{arith}
use lib.{IntN.ℤ, ListN.length}
use borrow.Author.Tests.{eq-eqb}
use Rattle.model.specs.declared.{Fields.Fields}
use Rattle.model.specs.Image.{Tables, none, tables_of, fields_of}
use Rattle.model.specs.Rows.{Kind, action, branch, ActionRow, is_null, is_assign, is_choose, is_reset, is_communicate, is_to, is_then, is_select, is_case, is_while, is_for, an_action, codes, lookup, shape_of, means_at, list_up_to, next_of}
use Rattle.model.specs.Trees.{Arms, no_arm, arm as an_arm}
use Rattle.model.specs.Decode.{grow_action, action_at, act_of}
use Rattle.model.specs.Typing.{type_of_pat, arms_of_type}
use Rattle.model.proofs.Rows.{Named, Row, row_is, is-kind}
use Rattle.model.proofs.Codes.{code_of, means, is_known, known_in, code-of}
use Rattle.model.proofs.Decode.{action_at-is}
use Rattle.image.proofs.Laid.{laid, rows-count}
use Rattle.demands.specs.Stores.{TypedStore}
use Rattle.demands.proofs.Good.{Good, GoodAct, GoodArms}
use Rattle.demands.proofs.GoodRows.{good-action}
use Rattle.expressions.specs.Ready.{Ready, RowFrom, Runs}
use Rattle.expressions.proofs.Ways.{located, all, forms, row_from}
use Rattle.actions.specs.Items.{Items}
use Rattle.actions.proofs.Listed.{here-row, next-items}
use Rattle.simple.specs.Simple.{Simple}
use Rattle.machine.specs.Running.{Running, RunningList, RunningCase, RunningLoop, RunningFor}

-- the store as another that is typed
pub ready_on : {s : List ℕ} {m n : List ℤ} → Ready s m → TypedStore (tables_of s) n → Ready s n
ready_on h t = record { bytes = h.bytes; passed = h.passed; store = t }

module _ {k : Kind} {s : List ℕ} {rows : ℕ} {r : ℕ} {m values : List ℤ} (h : Running k s rows r m values) where
  pub runs : Runs k s rows r m
  runs = record { ready = h.ready; start = h.start; kind = h.kind }

  pub row_of : is_known k ≡ true → RowFrom s rows r
  row_of t = row_from t runs

  pub row_small : is_known k ≡ true → r < none
  row_small t =
      omega (arith, known_in (tables_of s) k r t h.kind, rows-count (located h.ready), (laid (located h.ready)).rows_most)

  -- the same row on another store
  pub moved : {n vs : List ℤ} → TypedStore (tables_of s) n → length vs ≡ length values → Running k s rows r n vs
  moved t l = record { ready = ready_on h.ready t; start = h.start; kind = h.kind; room = omega (arith, h.room) }

  pub same_store : {n vs : List ℤ} → n ≡ m → vs ≡ values → Running k s rows r n vs
  same_store e f = moved (rw e h.ready.store) (ap length f)

-- a list of rows
module _ {k : Kind} {s : List ℕ} {rows : ℕ} {r : ℕ} {m values : List ℤ} (h : RunningList k s rows r m values) where
  pub items : Items k s rows r m
  items = record { ready = h.ready; start = h.start; here = h.here }

  pub first_runs : (r ≡ none → ⊥) → Runs k s rows r m
  first_runs f = here-row items f

  pub first-row : is_known k ≡ true → (r ≡ none → ⊥) → RowFrom s rows r
  first-row t f = row_from t (first_runs f)

  pub rest-list : {n : ℕ} → is_known k ≡ true → (r ≡ none → ⊥) → n ≡ next_of (tables_of s) r
      → ((n + 1) % 65536 < (r + 1) % 65536) × RunningList k s rows n m values
  rest-list t f e =
      let p = next-items t (first_runs f) e in
      (p.0, record { ready = h.ready; start = h.start; here = p.1.here; room = h.room })

-- arms that are good are of the type
good-typed : (x : Tables) (t : ℕ) (a : Arms) → GoodArms x t a → arms_of_type x t a ≡ true
unfolding GoodArms arms_of_type
good-typed x t no_arm g = refl
good-typed x t (an_arm p a rest) g = rw (eq-eqb (type_of_pat x p) t g.0) (good-typed x t rest g.3)

-- a row of an action, with its fields
module _ {s : List ℕ} {rows : ℕ} {r : ℕ} {m values : List ℤ} (h : Running action s rows r m values) {w : Fields} (e : w ≡ fields_of (tables_of s) r) where
  means-as : (n : ℕ) → w.code ≡ n → means_at (tables_of s) r ≡ (shape_of n).means
  means-as n c = means (tables_of s) r n (ap (λ (f : Fields). f.code) (sym e) ∙ c)

  pub tree-as : (d : ActionRow) → means_at (tables_of s) r ≡ an_action d
      → act_of (action_at (tables_of s) r) ≡ grow_action (tables_of s) (action_at (tables_of s)) w (an_action d)
  tree-as d q = rw e (ap act_of (action_at-is (tables_of s) (forms h.ready) r (an_action d) q))

  row_as : (d : ActionRow) → means_at (tables_of s) r ≡ an_action d → Row (tables_of s) r w (an_action d)
  row_as d q = rw e (row_is (tables_of s) (forms h.ready) r (an_action d) q)

  good-as : (d : ActionRow) → means_at (tables_of s) r ≡ an_action d
      → GoodAct (tables_of s) (grow_action (tables_of s) (action_at (tables_of s)) w (an_action d))
  unfolding Good
  good-as d q =
      rw e (subst (Good (tables_of s)) (action_at-is (tables_of s) (forms h.ready) r (an_action d) q)
      (good-action (tables_of s) (all h.ready) r h.kind))

  part : {k : Kind} {n : ℕ} → Named (tables_of s) r k n → Running k s rows n m values
  part p = record { ready = h.ready; start = h.start; kind = p.kind; room = h.room }

  list-part : {k : Kind} {n most : ℕ} → (n ≡ none) ⊎ (Named (tables_of s) r k n × (length (list_up_to (suc most) (tables_of s) n) ≤ most))
      → RunningList k s rows n m values
  list-part p = record { ready = h.ready; start = h.start; here = ⊎_elim (λ q. inl q) (λ q. inr q.0.kind) p; room = h.room }

  -- a then b
  pub is-then : w.code ≡ 54 → means_at (tables_of s) r ≡ an_action is_then
  unfolding shape_of lookup codes
  is-then c = means-as 54 c

  pub both-parts : w.code ≡ 54 → Running action s rows w.a m values × Running action s rows w.b m values
  both-parts c = let p = row_as is_then (is-then c) in (part p.a, part p.b)

  -- select
  pub is-select : w.code ≡ 55 → means_at (tables_of s) r ≡ an_action is_select
  unfolding shape_of lookup codes
  is-select c = means-as 55 c

  pub select-parts : w.code ≡ 55 → RunningList branch s rows w.a m values
  select-parts c = list-part (row_as is_select (is-select c)).a

  -- case
  pub is-case : w.code ≡ 56 → means_at (tables_of s) r ≡ an_action is_case
  unfolding shape_of lookup codes
  is-case c = means-as 56 c

  pub case-parts : w.code ≡ 56 → RunningCase s rows w.a w.b m values
  unfolding GoodAct grow_action
  case-parts c =
      let p = row_as is_case (is-case c) in
      record { subject = part p.a; list = list-part p.b; arms = good-typed (tables_of s) _ _ (good-as is_case (is-case c)).1 }

  -- while
  pub is-while : w.code ≡ 59 → means_at (tables_of s) r ≡ an_action is_while
  unfolding shape_of lookup codes
  is-while c = means-as 59 c

  pub while-parts : w.code ≡ 59 → RunningLoop s rows r w.a w.b m values
  while-parts c =
      let p = row_as is_while (is-while c) in
      record { body = part p.b; test = p.a.kind; row = row_small h refl }

  -- for
  pub is-for : w.code ≡ 60 → means_at (tables_of s) r ≡ an_action is_for
  unfolding shape_of lookup codes
  is-for c = means-as 60 c

  pub for-parts : w.code ≡ 60 → RunningFor s rows r w.a w.b m values
  unfolding GoodAct grow_action
  for-parts c =
      let p = row_as is_for (is-for c) in
      record { body = part p.b; range = p.a.kind; typed = (good-as is_for (is-for c)).2; row = row_small h refl }

  -- the others hold no action
  simple-code : (d : ActionRow) (n : ℕ) → code_of (an_action d) ≡ n → (n ≡ 54 → ⊥) → (n ≡ 55 → ⊥) → (n ≡ 56 → ⊥) → (n ≡ 59 → ⊥) → (n ≡ 60 → ⊥) → n < 54
  simple-code is_null n q f g j k l = omega arith
  simple-code is_assign n q f g j k l = omega arith
  simple-code is_choose n q f g j k l = omega arith
  simple-code is_reset n q f g j k l = omega arith
  simple-code is_communicate n q f g j k l = omega arith
  simple-code is_to n q f g j k l = omega arith
  simple-code is_then n q f g j k l = absurd (f (sym q))
  simple-code is_select n q f g j k l = absurd (g (sym q))
  simple-code is_case n q f g j k l = absurd (j (sym q))
  simple-code is_while n q f g j k l = absurd (k (sym q))
  simple-code is_for n q f g j k l = absurd (l (sym q))

  pub simple-parts : (w.code ≡ 54 → ⊥) → (w.code ≡ 55 → ⊥) → (w.code ≡ 56 → ⊥) → (w.code ≡ 59 → ⊥) → (w.code ≡ 60 → ⊥) → Simple s rows r m values
  simple-parts f g j k l =
      let d = is-kind (tables_of s) action r h.kind in
      let c : code_of (an_action d.0) ≡ w.code = ap code_of (sym d.1) ∙ code-of (tables_of s) action r refl h.kind ∙ ap (λ (n : Fields). n.code) (sym e) in
      let small = simple-code d.0 w.code c f g j k l in
      record { ready = h.ready; start = h.start; kind = h.kind; code = rw (← e) small; room = h.room }
